-- What an answer leaves in a run, by the test of its refusal, and what is read back of it. Assumes nothing.
use Prim.Native.Nat.{ℕ, suc, ◌≤◌}
use mathlib.Core.Path.{◌≡◌, refl, sym, ap, ◌∙◌}
use mathlib.Core.List.{List, [], ◌∷◌, ◌++◌, map, append-nil}
use native.Mathlib.Nat.{zero-add}
use native.Mathlib.Numerals.{one-add}
use native.Mathlib.Omega.{arith}
use lib.IntN.{ℤ, pos}
use lib.ListN.{length, get_or, take, drop, length-append, take-append-drop}
use lib.Seq.{take-append_seam}
use Rattle.whole.specs.Choice.{kept}
use Rattle.whole.specs.Runs.{listed}
use Rattle.whole.proofs.Choice.{kept_new, kept_old}
use Rattle.whole.proofs.Runs.{listed_same, no_rest}
use Rattle.units.specs.Limits.{seconds_of_hour, seconds_of_quarter}
use Rattle.units.specs.Units.{kilowatts}
use Rattle.numbers.specs.Numbers.{number}
use Rattle.words.specs.Replies.{Reply, reply}
use Rattle.ramp.specs.Ramp.{ramp_of, ramp_refusal, ramp_left}
use Rattle.ramp.proofs.Accepted.{ramp_ramped}
use Rattle.hours.specs.Hours.{Basis, settlement, scores_asked, scores_after}
use Rattle.hours.proofs.HourLaws.{scores_all}
use Rattle.series.specs.Series.{ramp_reply}
use Rattle.series.specs.Inner.{ran_of, ran_left}
use Rattle.series.specs.declared.Ran.{Ran}

-- ---- bytes as numbers

pub wide_all : (bytes : List ℕ) → listed (λ (k : ℕ). pos (get_or bytes k 0)) 0 (length bytes) ≡ map pos bytes
wide_all [] = refl
wide_all (b ∷ bs) =
    ap (λ (l : List ℤ). pos b ∷ l)
    (listed_same (λ (k : ℕ). pos (get_or (b ∷ bs) k 0)) (λ (k : ℕ). pos (get_or bs k 0)) 1 0 (length bs) (λ k h. rw (one-add k, zero-add k)) ∙ wide_all bs)

pub length_wide : (bytes : List ℕ) → length (map pos bytes) ≡ length bytes
length_wide [] = refl
length_wide (b ∷ bs) = ap suc (length_wide bs)

-- ---- an answer by its number: its fields in the run, or nothing beside a refusal

module _ (k m : ℕ) (fields : List ℤ) (e : k ≡ m) (run : List ℤ) where
  -- refused, the run is as it was
  pub none_ran : (k ≡ 0 → ⊥) → let r = reply m (kept m fields []) in (record { refusal = k; count = 0 } ≡ ran_of r) × (run ≡ ran_left r run)
  unfolding ran_of ran_left
  none_ran f = rw (← e, kept_old fields [] f) (refl, refl)

  -- accepted, the fields stand before what is left of the run
  pub all_ran : (n : ℕ) (left : List ℤ) → k ≡ 0 → length fields ≡ n → left ≡ fields ++ drop n run
      → let r = reply m (kept m fields []) in (record { refusal = 0; count = n } ≡ ran_of r) × (left ≡ ran_left r run)
  unfolding ran_of ran_left
  all_ran n left z l o = rw (← e, z, o, l) (refl, refl)

-- ---- a quarter, in the first of the run's places

module _ (n run seconds : List ℤ) (k q : ℕ) (long : length (take q run) ≡ seconds_of_quarter) (nine : q ≡ seconds_of_quarter)
    (e : k ≡ ramp_refusal (kilowatts (number n 0)) (kilowatts (number n 1)) (length (take q run)))
    (l : seconds ≡ ramp_left (kilowatts (number n 0)) (kilowatts (number n 1)) (take q run)) where
  known : k ≡ ramp_refusal (kilowatts (number n 0)) (kilowatts (number n 1)) seconds_of_quarter
  known = rw long at e

  pub ramp_none : (k ≡ 0 → ⊥) → (record { refusal = k; count = 0 } ≡ ran_of (ramp_reply n)) × (seconds ++ drop q run ≡ ran_left (ramp_reply n) run)
  unfolding ramp_reply ramp_left
  ramp_none f =
      let same : seconds ++ drop q run ≡ run = ap (λ (s : List ℤ). s ++ drop q run) (l ∙ kept_old _ _ (λ z. f (e ∙ z))) ∙ take-append-drop q run in
      let d = none_ran k _ (ramp_of (number n 0) (number n 1)) known run f in
      (d.0, same ∙ d.1)

  pub ramp_all : k ≡ 0 → (record { refusal = 0; count = q } ≡ ran_of (ramp_reply n)) × (seconds ++ drop q run ≡ ran_left (ramp_reply n) run)
  unfolding ramp_reply ramp_left
  ramp_all z =
      let filled = ap (λ (s : List ℤ). s ++ drop q run) (l ∙ kept_new _ _ (sym e ∙ z)) in
      all_ran k _ (ramp_of (number n 0) (number n 1)) known run q _ z ((ramp_ramped (number n 0) (number n 1)).seconds ∙ sym nine) filled

-- ---- an hour's scores, in all of them

module _ (h : Basis) (run : List ℤ) (k : ℕ) (e : k ≡ (settlement h).refusal) where
  abbrev scored : Reply
  scored = reply (settlement h).refusal (kept (settlement h).refusal (map pos (scores_asked h)) [])

  pub scores_none : (k ≡ 0 → ⊥) → (record { refusal = k; count = 0 } ≡ ran_of scored) × (run ≡ ran_left scored run)
  scores_none f = none_ran k _ (map pos (scores_asked h)) e run f

  pub scores_ran : (scores before : List ℕ) (left : List ℤ) (n : ℕ) → n ≡ seconds_of_hour → length run ≡ n → scores ≡ scores_after h before → left ≡ map pos scores → k ≡ 0
      → (record { refusal = 0; count = n } ≡ ran_of scored) × (left ≡ ran_left scored run)
  unfolding scores_after
  scores_ran scores before left n m long s w z =
      let fields = map pos (scores_asked h) in
      let filled : left ≡ fields ++ drop n run = w ∙ ap (map pos) (s ∙ kept_new _ _ (sym e ∙ z)) ∙ sym (append-nil fields) ∙ ap (λ (r : List ℤ). fields ++ r) (sym (no_rest run n (omega (arith, long)))) in
      all_ran k _ fields e run n left z (length_wide (scores_asked h) ∙ scores_all h (sym e ∙ z) ∙ sym m) filled

-- ---- what is printed of the run

module _ (r : Reply) (run left : List ℤ) (ran : Ran) (a : ran ≡ ran_of r) (o : left ≡ ran_left r run) where
  pub ran_fits : ran.count ≤ length left
  unfolding ran_of ran_left
  ran_fits = rw (a, o) (omega (arith, length-append r.fields (drop (length r.fields) run)))

  pub ran_fields : take ran.count left ≡ r.fields
  unfolding ran_of ran_left
  ran_fields = rw (a, o) (take-append_seam r.fields _)

  pub ran_reply : reply ran.refusal (take ran.count left) ≡ r
  unfolding ran_of
  ran_reply = ap (reply ran.refusal) ran_fields ∙ ap (λ (x : Ran). reply x.refusal r.fields) a
