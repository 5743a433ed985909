-- An hour's seconds by a threshold: one is named and is the first whose whole window stays below, or none is and every window meets it. So none is named exactly where the smallest rolling
-- rate is at least the threshold, from one to four scores a second judged are read in all, and a higher threshold names no later second. By the first window that stays below, told by each window's
-- scores (First). Assumes nothing.
use Prim.Native.Nat.{ℕ, ◌+◌, ◌*◌, ◌≤◌, ◌<◌}
use mathlib.Core.Path.{◌≡◌, sym, ◌∙◌}
use mathlib.Core.Bool.{true, false}
use mathlib.Core.List.{List, []}
use native.Mathlib.Omega.{arith}
use lib.Dec.{eqb, leb, ltb}
use lib.ListN.{length, get_or, get_or-map}
use borrow.Author.Tests.{eq-eqb, ne_eqb, le-leb, lt-leb, ltb-true, ltb-false}
use Rattle.whole.proofs.Choice.{by_test, kept_any}
use Rattle.whole.proofs.Folds.{add_between}
use Rattle.units.specs.Limits.{seconds_of_hour}
use Rattle.rate.specs.Rolling.{largest, smallest, rolling}
use Rattle.rate.proofs.Rates.{length_rolling, smallest_least, smallest_most, largest_most, largest_below}
use Rattle.reached.specs.Reached.{hour_windows, window_at, named_second, seconds_judged, read_in, scores_read, verdict_refusal, hour_reached}
use Rattle.reached.specs.Accepted.{Below, Meets, FirstBelow}
use Rattle.reached.specs.declared.Verdict.{Verdict}
use Rattle.reached.proofs.Windows.{window_count, window_long}
use Rattle.reached.proofs.Answers.{threshold_fit}
use Rattle.reached.proofs.First.{FirstWindow, none_below, first_below_lem, first_window, not_both, read_least, read_most}

module _ (earlier scores : List ℕ) where
  -- the rolling rate of a second is its window's largest score
  rolling_window : (i : ℕ) → get_or (rolling earlier scores) i 0 ≡ largest (window_at earlier scores i)
  unfolding rolling
  rolling_window i = get_or-map largest (hour_windows earlier scores) i []

  pub nonempty : (i : ℕ) → i < length scores → 0 < length (window_at earlier scores i)
  nonempty i h = omega (arith, window_long earlier scores i h)

module _ (earlier scores : List ℕ) (threshold : ℕ) where
  pub data Named : Type 0 where
    no_second : named_second earlier scores threshold ≡ 0 → ((j : ℕ) → j < seconds_of_hour → Meets threshold (window_at earlier scores j)) → Named
    the_second : (i : ℕ) → named_second earlier scores threshold ≡ i + 1 → FirstBelow earlier scores threshold i → Named

module _ (earlier scores : List ℕ) (threshold : ℕ) (long : length scores ≡ seconds_of_hour) where
  pub named : Named earlier scores threshold
  named = told (first_window threshold 1 (hour_windows earlier scores))
    where
      told : FirstWindow threshold 1 (hour_windows earlier scores) → Named earlier scores threshold
      told (none_below e each) = no_second e (λ j h. each j (omega (arith, window_count earlier scores)))
      told (first_below_lem i e l b before) =
          the_second i (e ∙ omega arith) (record { within = omega (arith, window_count earlier scores); below = b; before = before })

  -- none is named exactly where the hourly rate is at least the threshold
  pub named_rate : eqb (named_second earlier scores threshold) 0 ≡ leb threshold (smallest (rolling earlier scores))
  named_rate = told named
    where
      told : Named earlier scores threshold → eqb (named_second earlier scores threshold) 0 ≡ leb threshold (smallest (rolling earlier scores))
      told (no_second e each) =
          let over = smallest_most threshold (rolling earlier scores) (omega (arith, length_rolling earlier scores))
          (λ i h.
          let r = each i (omega (arith, length_rolling earlier scores)) in
          omega (arith, rolling_window earlier scores i, r.met, largest_most (window_at earlier scores i) r.back r.inside)) in
          eq-eqb _ 0 e ∙ sym (le-leb threshold (smallest (rolling earlier scores)) over)
      told (the_second i e f) =
          let inside : i < length scores = omega (arith, f.within) in
          let under = largest_below threshold (window_at earlier scores i) (nonempty earlier scores i inside) f.below in
          let least = smallest_least (rolling earlier scores) i (omega (arith, length_rolling earlier scores)) in
          ne_eqb _ 0 (λ (z : named_second earlier scores threshold ≡ 0). absurd (omega arith)) ∙ sym (lt-leb threshold (smallest (rolling earlier scores)) (omega (arith, rolling_window earlier scores i)))

  named_within : named_second earlier scores threshold ≤ seconds_of_hour
  named_within = told named
    where
      told : Named earlier scores threshold → named_second earlier scores threshold ≤ seconds_of_hour
      told (no_second e each) = omega arith
      told (the_second i e f) = omega (arith, f.within)

  -- how many are judged
  pub judged_within : (1 ≤ seconds_judged earlier scores threshold) × (seconds_judged earlier scores threshold ≤ seconds_of_hour)
  judged_within = told named
    where
      told : Named earlier scores threshold → (1 ≤ seconds_judged earlier scores threshold) × (seconds_judged earlier scores threshold ≤ seconds_of_hour)
      told (no_second e each) = rw e (omega arith, omega arith)
      told (the_second i e f) = rw (e, ne_eqb (i + 1) 0 (λ z. absurd (omega arith))) (omega arith, omega (arith, f.within))

  -- from one to four scores a second judged, in all
  pub read_within : (seconds_judged earlier scores threshold ≤ scores_read earlier scores threshold) × (scores_read earlier scores threshold ≤ 4 * seconds_judged earlier scores threshold)
  read_within =
      let b =
      add_between 1 4 (seconds_judged earlier scores threshold) (λ i. read_in threshold (window_at earlier scores i))
      (λ k l.
      let h : k < length scores = omega (arith, judged_within.1) in
      let w = window_at earlier scores k in
      (read_least threshold w (nonempty earlier scores k h), omega (arith, read_most threshold w, window_long earlier scores k h))) in
      (omega (arith, b.0), b.1)

-- whatever was handed in, the answer's numbers are small
pub answer_within : (earlier scores : List ℕ) (threshold : ℕ) →
    let a = hour_reached earlier scores threshold in
    (a.second ≤ seconds_of_hour) × (a.judged ≤ seconds_of_hour) × (a.read ≤ 4 * seconds_of_hour)
unfolding hour_reached
answer_within earlier scores threshold =
    kept_any (λ (a : Verdict). (a.second ≤ seconds_of_hour) × (a.judged ≤ seconds_of_hour) × (a.read ≤ 4 * seconds_of_hour)) (verdict_refusal earlier scores threshold)
    (λ e.
    let long = (threshold_fit earlier scores threshold e).scored.long in
    let j = judged_within earlier scores threshold long in
    let r = read_within earlier scores threshold long in
    (omega (arith, named_within earlier scores threshold long), omega arith, omega arith))
    (omega arith, omega arith, omega arith)

-- the first window to stay below a threshold comes no later than any that stays below it, or below a lower one
not_later : (earlier scores : List ℕ) {t u : ℕ} (i j : ℕ) → t ≤ u → Below t (window_at earlier scores i) → FirstBelow earlier scores u j → j ≤ i
not_later earlier scores {t} {u} i j h b g =
    by_test (ltb i j)
    (λ (l : ltb i j ≡ true). not_both t u (window_at earlier scores i) h b (g.before i (ltb-true i j l)))
    (λ (l : ltb i j ≡ false). ltb-false i j l)

-- so a first second is the one that is named
pub first_named : (earlier scores : List ℕ) (threshold i : ℕ) → Named earlier scores threshold → FirstBelow earlier scores threshold i → named_second earlier scores threshold ≡ i + 1
first_named earlier scores threshold i (no_second e each) f = not_both threshold threshold (window_at earlier scores i) (omega arith) f.below (each i f.within)
first_named earlier scores threshold i (the_second j e g) f =
    let one = not_later earlier scores i j (omega arith) f.below g in
    let other = not_later earlier scores j i (omega arith) g.below f in
    e ∙ omega arith

-- where a threshold names a second, a higher one names that second or an earlier one
pub higher : (earlier scores : List ℕ) (t u : ℕ) → t ≤ u → Named earlier scores t → Named earlier scores u → (named_second earlier scores t ≡ 0 → ⊥)
    → (1 ≤ named_second earlier scores u) × (named_second earlier scores u ≤ named_second earlier scores t)
higher earlier scores t u h (no_second e each) later n = absurd (n e)
higher earlier scores t u h (the_second i e f) (no_second d each) n = not_both t u (window_at earlier scores i) h f.below (each i f.within)
higher earlier scores t u h (the_second i e f) (the_second j d g) n = let l = not_later earlier scores i j h f.below g in (omega arith, omega arith)
