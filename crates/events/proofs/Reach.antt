-- A fit run ends in a state that passes the test, and each state that passes has a run of fit seconds that leads to it, put together one second after the other; by induction on the seconds. So an
-- hour that is handed a state is the last of a run that begins outside, and is told by its seconds. Assumes nothing.
use Prim.Native.Nat.{ℕ, zero, suc, ◌+◌, ◌-◌, ◌≤◌, ◌<◌}
use mathlib.Core.Path.{◌≡◌, refl, sym, ap, ◌∙◌, subst}
use mathlib.Core.Bool.{true}
use mathlib.Core.List.{List, [], ◌∷◌, ◌++◌}
use native.Mathlib.Nat.{le_of_suc-le-suc}
use native.Mathlib.Omega.{arith}
use lib.IntN.{ℤ, pos}
use lib.ListN.{length, get_or, length-append}
use lib.Seq.{get_or-append-add}
use borrow.Author.Tests.{ne_eqb}
use Rattle.whole.specs.Folds.{fold_to}
use Rattle.whole.specs.Whole.{minus, in_range, all_in_range}
use Rattle.whole.proofs.Sums.{all_inside, inside_all}
use Rattle.units.specs.Limits.{is_frequency, is_power, most_power, are_powers, seconds_of_hour}
use Rattle.units.specs.Units.{kilowatts}
use Rattle.units.specs.declared.Kilowatts.{Kilowatts}
use Rattle.sreg.specs.Second.{ends, is_state, next_state, starts, unless_ends, unless_starts}
use Rattle.sreg.specs.Run.{scores_from, state_after}
use Rattle.sreg.specs.declared.EventState.{EventState}
use Rattle.sreg.specs.declared.EventState.TheVariants.{Outside, Responding, Holding, Recovering}
use Rattle.sreg.proofs.States.{responds, recovers, next_is}
use Rattle.sreg.proofs.Seconds.{state_cut, scores_cut, length_scores}
use Rattle.events.specs.Events.{ScoreTold, Sentences}
use Rattle.events.specs.States.{Stands, LeadsTo}
use Rattle.events.proofs.Seconds.{sentences, run_stands}

-- ---- a fit run ends in a state that passes

after_is : (state : EventState) (ps fs : List ℤ) → is_state state ≡ true → ((i : ℕ) → i < length ps → is_power (get_or ps i (pos 0)) ≡ true) → is_state (state_after state ps fs) ≡ true
unfolding state_after
after_is state [] fs e h = e
after_is state (p ∷ ps) [] e h = e
after_is state (p ∷ ps) (f ∷ fs) e h = after_is (next_state state p f) ps fs (next_is p f state e (h 0 (omega arith))) (λ i l. h (suc i) (omega arith))

pub after_passes : (state : EventState) (powers frequencies : List ℤ) → is_state state ≡ true → are_powers powers ≡ true → is_state (state_after state powers frequencies) ≡ true
after_passes state powers frequencies e p = after_is state powers frequencies e (all_inside (minus most_power) (pos most_power) powers p)

-- ---- a passing state has a run

-- numbers in a range, and one more
one_inside : (low high : ℤ) (xs : List ℤ) (x : ℤ) → all_in_range low high xs ≡ true → in_range low high x ≡ true → all_in_range low high (xs ++ (x ∷ [])) ≡ true
one_inside low high xs x all one = inside_all low high (xs ++ (x ∷ [])) (go xs (all_inside low high xs all))
  where
    go : (xs : List ℤ) → ((i : ℕ) → i < length xs → in_range low high (get_or xs i (pos 0)) ≡ true) → (i : ℕ) → i < length (xs ++ (x ∷ [])) → in_range low high (get_or (xs ++ (x ∷ [])) i (pos 0)) ≡ true
    go [] all zero l = one
    go [] all (suc i) l = absurd (omega arith)
    go (y ∷ xs) all zero l = all 0 (omega arith)
    go (y ∷ xs) all (suc i) l = go xs (λ k m. all (suc k) (omega arith)) i (le_of_suc-le-suc l)

none : LeadsTo 0 Outside
unfolding state_after all_in_range fold_to
none = record { powers = []; frequencies = []; long_powers = refl; long_frequencies = refl; fit_powers = refl; fit_frequencies = refl; ends_in_lem = refl }

-- one second more
more : {n m : ℕ} {s t : EventState} (p f : ℤ) → LeadsTo n s → m ≡ n + 1 → is_power p ≡ true → is_frequency f ≡ true → next_state s p f ≡ t → LeadsTo m t
unfolding state_after
more p f r l a b e =
    let lp = r.long_powers in
    let lf = r.long_frequencies in
    record {
      powers = r.powers ++ (p ∷ []);
      frequencies = r.frequencies ++ (f ∷ []);
      long_powers = simp length-append (omega arith);
      long_frequencies = simp length-append (omega arith);
      fit_powers = one_inside _ _ r.powers p r.fit_powers a;
      fit_frequencies = one_inside _ _ r.frequencies f r.fit_frequencies b;
      ends_in_lem = state_cut Outside r.powers r.frequencies (p ∷ []) (f ∷ []) (lp ∙ sym lf) ∙ ap (λ (s : EventState). next_state s p f) r.ends_in_lem ∙ e;
    }

quiet : (n : ℕ) → LeadsTo n Outside
unfolding unless_starts starts in_range
quiet zero = none
quiet (suc n) = more (pos 0) (pos 60000) (quiet n) (omega arith) refl refl refl

-- the start second and k after it
in_response : (n k : ℕ) (start : Kilowatts) → k < 9 → is_power start.0 ≡ true → LeadsTo (suc k + n) (Responding start (suc k))
unfolding unless_starts unless_ends starts ends in_range
in_response n zero start h p = more start.0 (pos 59880) (quiet n) (omega arith) p refl refl
in_response n (suc k) start h p =
    more (pos 0) (pos 59900) (in_response n k start (omega arith) p) (omega arith) refl refl
    (rw (ne_eqb (suc k) 9 (λ e. omega arith)) (ap (Responding start) (omega arith)))

in_event : (n : ℕ) (start : Kilowatts) → is_power start.0 ≡ true → LeadsTo (10 + n) (Holding start)
unfolding unless_ends ends in_range
in_event n start p = more (pos 0) (pos 59900) (in_response n 8 start (omega arith) p) (omega arith) refl refl refl

-- the end second and j after it
in_recovery : (n j : ℕ) → j ≤ 9 → LeadsTo (j + (11 + n)) (Recovering (10 - j))
unfolding unless_starts unless_ends starts ends in_range
in_recovery n zero h = more (pos 0) (pos 59980) (in_event n (kilowatts (pos 0)) refl) (omega arith) refl refl refl
in_recovery n (suc j) h =
    more (pos 0) (pos 60000) (in_recovery n j (omega arith)) (omega arith) refl refl
    (rw (ne_eqb (10 - j) 1 (λ e. omega arith)) (ap Recovering (omega arith)))

-- as long as an hour
pub run_to : (n : ℕ) (state : EventState) → n ≡ seconds_of_hour → is_state state ≡ true → LeadsTo n state
run_to n Outside e t = quiet n
run_to n (Responding start zero) e t = let r = responds start zero t in absurd (omega arith)
run_to n (Responding start (suc k)) e t =
    let r = responds start (suc k) t in
    let l : suc k + (n - suc k) ≡ n = omega arith in
    subst (λ (m : ℕ). LeadsTo m (Responding start (suc k))) l (in_response (n - suc k) k start (omega arith) r.power)
run_to n (Holding start) e t =
    let l : 10 + (n - 10) ≡ n = omega arith in
    subst (λ (m : ℕ). LeadsTo m (Holding start)) l (in_event (n - 10) start t)
run_to n (Recovering left) e t =
    let r = recovers left t in
    let l : (10 - left) + (11 + (n - (21 - left))) ≡ n = omega arith in
    let k : 10 - (10 - left) ≡ left = omega arith in
    subst (λ (m : ℕ). LeadsTo m (Recovering left)) l
    (subst (λ (m : ℕ). LeadsTo ((10 - left) + (11 + (n - (21 - left)))) (Recovering m)) k (in_recovery (n - (21 - left)) (10 - left) (omega arith)))

-- ---- an hour that is handed a state, as the last seconds of a run that begins outside

module _ (state : EventState) {n : ℕ} (r : LeadsTo n state) (capacity : ℤ) (powers frequencies : List ℤ) (same : length powers ≡ length frequencies) where
  score_at : (i : ℕ) → get_or (scores_from Outside capacity (r.powers ++ powers) (r.frequencies ++ frequencies)) (n + i) 0 ≡ get_or (scores_from state capacity powers frequencies) i 0
  score_at i =
      let even = r.long_powers ∙ sym r.long_frequencies in
      let long = length_scores Outside capacity r.powers r.frequencies even ∙ r.long_powers in
      rw (scores_cut Outside capacity r.powers r.frequencies powers frequencies even, r.ends_in_lem, sym long)
      (get_or-append-add (scores_from Outside capacity r.powers r.frequencies) (scores_from state capacity powers frequencies) i 0)

  whole : Sentences (r.powers ++ powers) (r.frequencies ++ frequencies) capacity (scores_from Outside capacity (r.powers ++ powers) (r.frequencies ++ frequencies))
  whole =
      let lp = r.long_powers in
      let lf = r.long_frequencies in
      sentences (r.powers ++ powers) (r.frequencies ++ frequencies) capacity (simp length-append (omega arith))

  inside : (i : ℕ) → i < length powers → n + i < length (r.powers ++ powers)
  inside i l = let lp = r.long_powers in simp length-append (omega arith)

  pub handed_every : (i : ℕ) → i < length powers → ScoreTold (r.powers ++ powers) (r.frequencies ++ frequencies) capacity (n + i) (get_or (scores_from state capacity powers frequencies) i 0)
  handed_every i l = subst (ScoreTold (r.powers ++ powers) (r.frequencies ++ frequencies) capacity (n + i)) (score_at i) (whole.every (n + i) (inside i l))

  pub handed_only : (i x : ℕ) → i < length powers → ScoreTold (r.powers ++ powers) (r.frequencies ++ frequencies) capacity (n + i) x → get_or (scores_from state capacity powers frequencies) i 0 ≡ x
  handed_only i x l t = sym (score_at i) ∙ whole.only (n + i) x (inside i l) t

  pub handed_stands : (m : ℕ) → length powers ≡ m → Stands (r.powers ++ powers) (r.frequencies ++ frequencies) (n + m) (state_after state powers frequencies)
  handed_stands m e =
      let lp = r.long_powers in
      let lf = r.long_frequencies in
      subst (Stands (r.powers ++ powers) (r.frequencies ++ frequencies) (n + m))
      (state_cut Outside r.powers r.frequencies powers frequencies (lp ∙ sym lf) ∙ ap (λ (s : EventState). state_after s powers frequencies) r.ends_in_lem)
      (run_stands (r.powers ++ powers) (r.frequencies ++ frequencies) (n + m) (simp length-append (omega arith)) (simp length-append (omega arith)))
