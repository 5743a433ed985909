-- WHAT THE ANSWER SAYS OF THE HOUR (document 02, #106): it names the first second whose whole window stays below, and none exactly where the hourly rate is at least the threshold; the scores read
-- are from one to four a second judged, in all; a higher threshold names no later second. Over the contracts of `reached` and `hourly_rate` as the toolchain reads them. Assumes nothing.
use Prim.Native.Nat.{ℕ, ◌+◌, ◌*◌, ◌≤◌, ◌<◌}
use mathlib.Core.Path.{◌≡◌, sym, ap, subst, ◌∙◌}
use mathlib.Core.Bool.{true}
use mathlib.Core.List.{List}
use native.Mathlib.Omega.{arith}
use lib.Dec.{eqb, leb}
use lib.ListN.{length}
use contract.Lifetimes.{Lfts}
use denote.Ref.{Bor}
use denote.Triple.Clauses.{AtExit}
use borrow.Author.Tests.{eq-eqb}
use borrow.Fn.Kinds.{ended_of}
use Rattle.whole.specs.Choice.{pick}
use Rattle.units.specs.Limits.{most_score, seconds_of_hour}
use Rattle.rate.specs.declared.Rated.{Rated}
use Rattle.rate.proofs.Rates.{rate_granted}
use Rattle.rate.proofs.hourly_rate.Reads as hourly_rate_lem
use Rattle.rate.proofs.hourly_rate.Kinds as hourly_rate_kinds
use Rattle.reached.specs.Reached.{window_at, verdict_of, hour_reached}
use Rattle.reached.specs.Accepted.{ThresholdFits, Meets, FirstBelow}
use Rattle.reached.specs.declared.Verdict.{Verdict}
use Rattle.reached.proofs.Answers.{threshold_fit, fit_threshold, verdict_refusal_lem, hour_verdict}
use Rattle.reached.proofs.Seconds.{Named, no_second, the_second, named, nonempty, named_rate, judged_within, read_within, first_named, higher}
use Rattle.reached.proofs.reached.Reads as reached
use Rattle.reached.proofs.reached.Kinds as reached_kinds

-- a granted answer is what the definitions say, of what fits
plain : (earlier scores : List ℕ) (threshold : ℕ) (x : Verdict) → x ≡ hour_reached earlier scores threshold → x.refusal ≡ 0
    → ThresholdFits earlier scores threshold × (x ≡ verdict_of earlier scores threshold)
plain earlier scores threshold x p z =
    let none = sym (verdict_refusal_lem earlier scores threshold) ∙ sym (ap (λ (r : Verdict). r.refusal) p) ∙ z in
    (threshold_fit earlier scores threshold none, p ∙ hour_verdict earlier scores threshold none)

module _ (κs : Lfts 2) (earlier scores : Bor (List ℕ)) (threshold : ℕ) (x : Verdict) (s : AtExit (ended_of 2 reached_kinds.ps reached_kinds.r) κs)
    (met : reached.Post κs (earlier, (scores, (threshold, tt))) x s) (granted : x.refusal ≡ 0) where
  is : ThresholdFits earlier.now scores.now threshold × (x ≡ verdict_of earlier.now scores.now threshold)
  is = plain earlier.now scores.now threshold x met granted

  -- "It says yes exactly when the hourly rate is at least the threshold": beside the answer of `hourly_rate` to the same scores, which is granted too; and it names no second exactly then
  pub reached_rate : (ηs : Lfts 2) (y : Rated) (t : AtExit (ended_of 2 hourly_rate_kinds.ps hourly_rate_kinds.r) ηs) → hourly_rate_lem.Post ηs (earlier, (scores, tt)) y t
      → (y.refusal ≡ 0) × (x.reached ≡ leb threshold y.rate) × (eqb x.second 0 ≡ leb threshold y.rate)
  reached_rate ηs y t p =
      let r = p ∙ rate_granted earlier.now scores.now is.0.scored in
      let n = named_rate earlier.now scores.now threshold is.0.scored.long ∙ sym (ap (λ (a : Rated). leb threshold a.rate) r) in
      (ap (λ (a : Rated). a.refusal) r, ap (λ (a : Verdict). a.reached) is.1 ∙ n, ap (λ (a : Verdict). eqb a.second 0) is.1 ∙ n)

  -- it judges the named second, or 3,600
  pub reached_judged : x.judged ≡ pick (eqb x.second 0) seconds_of_hour x.second
  reached_judged = rw is.1

  -- and reads from one to four scores a second judged, in all
  pub reached_counts : (1 ≤ x.judged) × (x.judged ≤ seconds_of_hour) × (x.judged ≤ x.read) × (x.read ≤ 4 * x.judged)
  reached_counts =
      let j = judged_within earlier.now scores.now threshold is.0.scored.long in
      let r = read_within earlier.now scores.now threshold is.0.scored.long in
      rw is.1 (j.0, j.1, r.0, r.1)

  -- the second that it names is the first whose whole window stays below, so that every window before it meets the threshold
  pub reached_first : (i : ℕ) → x.second ≡ i + 1 → FirstBelow earlier.now scores.now threshold i
  reached_first i e = told (named earlier.now scores.now threshold is.0.scored.long)
    where
      told : Named earlier.now scores.now threshold → FirstBelow earlier.now scores.now threshold i
      told (no_second d each) = absurd (omega (arith, ap (λ (a : Verdict). a.second) is.1))
      told (the_second j d f) =
          let same : j ≡ i = omega (arith, ap (λ (a : Verdict). a.second) is.1) in
          subst (FirstBelow earlier.now scores.now threshold) same f

  -- and that second is named
  pub reached_names : (i : ℕ) → FirstBelow earlier.now scores.now threshold i → x.second ≡ i + 1
  reached_names i f =
      ap (λ (a : Verdict). a.second) is.1
      ∙ first_named earlier.now scores.now threshold i (named earlier.now scores.now threshold is.0.scored.long) f

  -- where it names none, every window meets the threshold
  pub reached_all : x.second ≡ 0 → (j : ℕ) → j < seconds_of_hour → Meets threshold (window_at earlier.now scores.now j)
  reached_all e = told (named earlier.now scores.now threshold is.0.scored.long)
    where
      told : Named earlier.now scores.now threshold → (j : ℕ) → j < seconds_of_hour → Meets threshold (window_at earlier.now scores.now j)
      told (no_second d each) = each
      told (the_second j d f) = absurd (omega (arith, ap (λ (a : Verdict). a.second) is.1))

  -- a threshold of 0 names none, whatever the scores
  pub reached_zero : threshold ≡ 0 → (x.second ≡ 0) × (x.reached ≡ true)
  reached_zero z = told (named earlier.now scores.now threshold is.0.scored.long)
    where
      told : Named earlier.now scores.now threshold → (x.second ≡ 0) × (x.reached ≡ true)
      told (no_second d each) = (ap (λ (a : Verdict). a.second) is.1 ∙ d, ap (λ (a : Verdict). a.reached) is.1 ∙ eq-eqb _ 0 d)
      told (the_second j d f) =
          let inside : j < length scores.now = omega (arith, f.within, is.0.scored.long) in
          absurd (omega (arith, f.below 0 (nonempty earlier.now scores.now j inside)))

  -- where it names a second, the same scores by a higher threshold, up to 100, have that second named or an earlier one
  pub reached_higher : (ηs : Lfts 2) (before also : Bor (List ℕ)) (over : ℕ) (y : Verdict) (t : AtExit (ended_of 2 reached_kinds.ps reached_kinds.r) ηs)
      → reached.Post ηs (before, (also, (over, tt))) y t → before.now ≡ earlier.now → also.now ≡ scores.now → threshold ≤ over → over ≤ most_score → (x.second ≡ 0 → ⊥)
      → (y.refusal ≡ 0) × (1 ≤ y.second) × (y.second ≤ x.second)
  reached_higher ηs before also over y t p e f h most n =
      let own = scores.now in
      let by = earlier.now in
      let long = is.0.scored.long in
      let granted = fit_threshold by own over (record { scored = is.0.scored; small = most }) in
      let other = p ∙ (λ k. hour_reached (e k) (f k) over) ∙ hour_verdict by own over granted in
      let first = ap (λ (a : Verdict). a.second) is.1 in
      let b = higher by own threshold over h (named by own threshold long) (named by own over long) (λ z. n (first ∙ z)) in
      (ap (λ (a : Verdict). a.refusal) other, rw other b.0, rw (first, other) b.1)
