-- What an answer is: refused, its number alone; else what the definitions say of scores and a threshold that fit. By the tests of the refusal. Assumes nothing.
use Prim.Native.Nat.{ℕ}
use mathlib.Core.Path.{◌≡◌, refl}
use mathlib.Core.List.{List}
use borrow.Author.Tests.{leb-true, le-leb}
use Rattle.whole.proofs.Choice.{all_passed, passed_all, kept_new, kept_old}
use Rattle.whole.proofs.Refused.{number_is}
use Rattle.units.specs.Limits.{most_score}
use Rattle.rate.proofs.Rates.{fit_by, by_fit}
use Rattle.reached.specs.Reached.{verdict_tests, verdict_refusal, verdict_of, no_verdict, hour_reached}
use Rattle.reached.specs.Accepted.{ThresholdFits}
use Rattle.reached.specs.declared.Verdict.{Verdict}

module _ (earlier scores : List ℕ) (threshold : ℕ) where
  pub threshold_fit : verdict_refusal earlier scores threshold ≡ 0 → ThresholdFits earlier scores threshold
  unfolding verdict_refusal
  threshold_fit e =
      let p = all_passed (verdict_tests earlier scores threshold) refl e in
      record { scored = fit_by earlier scores p.0 p.1.0; small = leb-true threshold most_score p.1.1.0 }

  pub fit_threshold : ThresholdFits earlier scores threshold → verdict_refusal earlier scores threshold ≡ 0
  unfolding verdict_refusal
  fit_threshold f =
      let p = by_fit earlier scores f.scored in passed_all (verdict_tests earlier scores threshold) (p.0, (p.1, (le-leb threshold most_score f.small, tt)))

  pub verdict_refusal_lem : (hour_reached earlier scores threshold).refusal ≡ verdict_refusal earlier scores threshold
  unfolding hour_reached
  verdict_refusal_lem = number_is (λ (r : Verdict). r.refusal) no_verdict (verdict_refusal earlier scores threshold) _ refl refl refl

  pub hour_verdict : verdict_refusal earlier scores threshold ≡ 0 → hour_reached earlier scores threshold ≡ verdict_of earlier scores threshold
  unfolding hour_reached
  hour_verdict e = kept_new _ _ e

  pub hour_no_verdict : (verdict_refusal earlier scores threshold ≡ 0 → ⊥) → hour_reached earlier scores threshold ≡ no_verdict (verdict_refusal earlier scores threshold)
  unfolding hour_reached
  hour_no_verdict n = kept_old _ _ n
