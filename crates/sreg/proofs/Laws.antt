-- The scores of an hour that is not refused, test by test; and the answer to an hour that is let through, refused before the readings are looked at, or refused for a reading. By the lists
-- of tests. Assumes nothing.
use Prim.Native.Nat.{ℕ}
use mathlib.Core.Path.{◌≡◌, refl, sym, ap, ◌∙◌}
use mathlib.Core.Bool.{Bool, true, false, ◌&&◌}
use mathlib.Core.List.{List, [], ◌∷◌}
use native.Mathlib.Nat.{zero-add}
use native.Mathlib.Omega.{arith}
use lib.Dec.{eqb}
use lib.IntN.{ℤ, pos}
use Rattle.std.specs.Prelude.{Some, None}
use lib.ListN.{length, get_or}
use lib.Seq.{ext_get_or}
use borrow.Author.Tests.{eqb-true, eq-eqb, ne_eqb}
use Rattle.whole.specs.Choice.{unless}
use Rattle.whole.specs.Runs.{listed}
use Rattle.whole.specs.Whole.{all_in_range}
use Rattle.whole.proofs.Choice.{by_test, and_both, all_passed, kept_new, kept_old}
use Rattle.whole.proofs.Folds.{all_and}
use Rattle.whole.proofs.Runs.{length_listed, get_d_listed}
use Rattle.units.specs.Limits.{is_capacity, is_power, is_frequency, are_powers, are_frequencies, seconds_of_hour}
use Rattle.units.specs.Refusals.{wrong_length, bad_capacity, bad_reading}
use Rattle.units.specs.declared.Kilowatts.{Kilowatts}
use Rattle.sreg.specs.Second.{is_state}
use Rattle.sreg.specs.Run.{scores_from, state_after, sreg_scores_refusal, sreg_ended, sreg_scores_left}
use Rattle.sreg.specs.Inner.{all_read, before_readings, judged_of}
use Rattle.sreg.specs.declared.EventState.{EventState}
use Rattle.sreg.specs.declared.EventState.TheVariants.{Outside}

-- a run is what its places hold
pub listed_places : {A : Type 0} (xs : List A) (d : A) (n : ℕ) → n ≡ length xs → listed (λ (k : ℕ). get_or xs k d) 0 n ≡ xs
listed_places xs d n e =
    let f : ℕ → _ = λ k. get_or xs k d in
    ext_get_or d (listed f 0 n) xs (length_listed f 0 n ∙ e) (λ i h. get_d_listed f 0 n i d (rw (length_listed f 0 n) at h) ∙ ap f (zero-add i))

-- ---- what is let through, test by test

pub record Before (powers frequencies places : ℕ) (capacity : Kilowatts) (state : EventState) : Type 0 where
  pub long_powers : powers ≡ seconds_of_hour
  pub long_frequencies : frequencies ≡ seconds_of_hour
  pub long_places : places ≡ seconds_of_hour
  pub capacity_fits : is_capacity capacity.0 ≡ true
  pub state_fits : is_state state ≡ true

abbrev lengths : ℕ → ℕ → ℕ → Bool
lengths p f s = eqb p seconds_of_hour && eqb f seconds_of_hour && eqb s seconds_of_hour

long : (p f s : ℕ) → lengths p f s ≡ true → (p ≡ seconds_of_hour) × (f ≡ seconds_of_hour) × (s ≡ seconds_of_hour)
long p f s e =
    let a = and_both (eqb p seconds_of_hour && eqb f seconds_of_hour) (eqb s seconds_of_hour) e in
    let b = and_both (eqb p seconds_of_hour) (eqb f seconds_of_hour) a.0 in
    (eqb-true p seconds_of_hour b.0, eqb-true f seconds_of_hour b.1, eqb-true s seconds_of_hour a.1)

pub before_fit : (powers frequencies places : ℕ) (capacity : Kilowatts) (state : EventState) → before_readings powers frequencies places capacity state ≡ 0 → Before powers frequencies places capacity state
unfolding before_readings
before_fit p f s capacity state e =
    let t = all_passed ((lengths p f s, wrong_length) ∷ (is_capacity capacity.0, bad_capacity) ∷ (is_state state, bad_reading) ∷ []) refl e in
    let l = long p f s t.0 in
    record { long_powers = l.0; long_frequencies = l.1; long_places = l.2; capacity_fits = t.1.0; state_fits = t.1.1.0 }

pub fit_before : {powers frequencies places : ℕ} {capacity : Kilowatts} {state : EventState} → Before powers frequencies places capacity state → before_readings powers frequencies places capacity state ≡ 0
unfolding before_readings
fit_before {powers} {frequencies} {places} f =
    rw (eq-eqb powers seconds_of_hour f.long_powers, eq-eqb frequencies seconds_of_hour f.long_frequencies, eq-eqb places seconds_of_hour f.long_places, f.capacity_fits, f.state_fits)

-- the readings, looked at second by second
pub all_read_lem : (powers frequencies : List ℤ) → length frequencies ≡ length powers → all_read powers frequencies ≡ (are_powers powers && are_frequencies frequencies)
unfolding all_read all_in_range
all_read_lem powers frequencies e =
    let p : ℕ → Bool = λ (i : ℕ). is_power (get_or powers i (pos 0)) in
    let q : ℕ → Bool = λ (i : ℕ). is_frequency (get_or frequencies i (pos 0)) in
    rw e (all_and (length powers) p q)

module _ (powers frequencies : List ℤ) (capacity : Kilowatts) (state : EventState) (places : ℕ) where
  abbrev refusal : ℕ
  refusal = sreg_scores_refusal powers frequencies capacity state places

  abbrev before : ℕ
  before = before_readings (length powers) (length frequencies) places capacity state

  -- of a run that is let through before its readings are looked at, they decide
  pub readings_last : before ≡ 0 → refusal ≡ unless (all_read powers frequencies) bad_reading 0
  unfolding sreg_scores_refusal
  readings_last e =
      let b = before_fit (length powers) (length frequencies) places capacity state e in
      rw (eq-eqb _ _ b.long_powers, eq-eqb _ _ b.long_frequencies, eq-eqb _ _ b.long_places, b.capacity_fits, b.state_fits, all_read_lem powers frequencies (b.long_frequencies ∙ sym b.long_powers))

  -- a refusal before the readings are looked at is the run's
  pub before_first : (before ≡ 0 → ⊥) → refusal ≡ before
  unfolding sreg_scores_refusal before_readings
  before_first f =
      by_test (lengths (length powers) (length frequencies) places)
      (λ (l : lengths (length powers) (length frequencies) places ≡ true).
      by_test (is_capacity capacity.0)
      (λ (c : is_capacity capacity.0 ≡ true).
      by_test (is_state state)
      (λ (s : is_state state ≡ true). absurd (f (rw (l, c, s))))
      (λ (s : is_state state ≡ false). rw (l, c, s)))
      (λ (c : is_capacity capacity.0 ≡ false). rw (l, c)))
      (λ (l : lengths (length powers) (length frequencies) places ≡ false). rw l)

  -- the answer to an hour that is let through
  pub ended_granted : refusal ≡ 0 → sreg_ended powers frequencies capacity state places ≡ record { refusal = 0; state = state_after state powers frequencies }
  unfolding sreg_ended
  ended_granted e = rw e

-- ---- what a pass over the readings found

pub judged_fit : (state : EventState) (powers frequencies : List ℤ) → all_read powers frequencies ≡ true → Some (state_after state powers frequencies) ≡ judged_of state powers frequencies
unfolding judged_of
judged_fit state powers frequencies t = rw t

pub judged_unfit : (state : EventState) (powers frequencies : List ℤ) → all_read powers frequencies ≡ false → None ≡ judged_of state powers frequencies
unfolding judged_of
judged_unfit state powers frequencies t = rw t

-- and back
pub unfit_judged : (state : EventState) (powers frequencies : List ℤ) → judged_of state powers frequencies ≡ None → all_read powers frequencies ≡ false
unfit_judged state powers frequencies e =
    by_test (all_read powers frequencies)
    (λ (t : all_read powers frequencies ≡ true). let n : Some (state_after state powers frequencies) ≡ None = judged_fit state powers frequencies t ∙ e in absurd (cc))
    (λ (t : all_read powers frequencies ≡ false). t)

pub fit_judged : (state after : EventState) (powers frequencies : List ℤ) → judged_of state powers frequencies ≡ Some after → (all_read powers frequencies ≡ true) × (after ≡ state_after state powers frequencies)
fit_judged state after powers frequencies e =
    by_test (all_read powers frequencies)
    (λ (t : all_read powers frequencies ≡ true). let s : Some (state_after state powers frequencies) ≡ Some after = judged_fit state powers frequencies t ∙ e in (t, cc))
    (λ (t : all_read powers frequencies ≡ false). let n : None ≡ Some after = judged_unfit state powers frequencies t ∙ e in absurd (cc))

-- ---- the answer to an hour, and what is left in its run

module _ (powers frequencies : List ℤ) (capacity : Kilowatts) (state : EventState) (run : List ℕ) where
  abbrev number : ℕ
  number = sreg_scores_refusal powers frequencies capacity state (length run)

  abbrev first : ℕ
  first = before_readings (length powers) (length frequencies) (length run) capacity state

  abbrev pub Answers : ℕ → EventState → List ℕ → Type 0
  Answers k after left =
      (sreg_ended powers frequencies capacity state (length run) ≡ record { refusal = k; state = after }) × (sreg_scores_left powers frequencies capacity state run ≡ left)

  pub hour_granted : number ≡ 0 → Answers 0 (state_after state powers frequencies) (scores_from state capacity.0 powers frequencies)
  unfolding sreg_scores_left
  hour_granted e = (ended_granted powers frequencies capacity state (length run) e, kept_new _ _ e)

  pub hour_refused : (number ≡ 0 → ⊥) → Answers number Outside run
  unfolding sreg_ended sreg_scores_left
  hour_refused h = (rw (ne_eqb number 0 h), kept_old _ _ h)

  pub first_refused : (first ≡ 0 → ⊥) → Answers first Outside run
  first_refused h =
      let e = before_first powers frequencies capacity state (length run) h in
      let r = hour_refused (λ z. h (sym e ∙ z)) in
      (r.0 ∙ ap (λ (k : ℕ). record { refusal = k; state = Outside }) e, r.1)

  pub reading_refused : first ≡ 0 → all_read powers frequencies ≡ false → Answers bad_reading Outside run
  reading_refused b t =
      let e : number ≡ bad_reading = readings_last powers frequencies capacity state (length run) b ∙ rw t in
      let r = hour_refused (λ z. absurd (omega (arith, e))) in
      (r.0 ∙ ap (λ (k : ℕ). record { refusal = k; state = Outside }) e, r.1)

  pub reading_granted : first ≡ 0 → all_read powers frequencies ≡ true → number ≡ 0
  reading_granted b t = readings_last powers frequencies capacity state (length run) b ∙ rw t
