-- The refusal decides; else the fees by the factor that the rate finds.
use Rattle.std.proofs.Common.{◌≡◌, ℤ, pos, rules, sym, ap, ◌∙◌}
use mir.Syntax.{w64}
use mir.Val.{SFits, to_z, of_z}
use mir.Facts.{to_z-of_z}
use Rattle.whole.proofs.Choice.{kept_new, kept_old}
use Rattle.bands.specs.Bands.{bands_fit, factor_answer}
use Rattle.std.specs.Result.{result_unwrap_or}
use Rattle.settlement.specs.Settlement.{refused_hour, earned_by, settled_of, at_refusal, settled_at}
use Rattle.settlement.proofs.Laws.{bands_test, at_fit, paid_within}
use Rattle.settlement.proofs.settled_at.Goals as goal

pub returns-then-k-ne0 : goal.returns-then-k-ne0
unfolding settled_at
returns-then-k-ne0 c =
    let a = c.args in
    let n : c.at_refusal-k.result ≡ at_refusal a.terms (bands_fit a.thresholds.now a.factors.now) a.energy a.rate =
    simp (c.is_ok-banded.ensures.value, c.check.ensures, bands_test a.thresholds.now a.factors.now) at c.at_refusal-k.ensures in
    c.refused_hour.ensures ∙ ap refused_hour n ∙ sym (kept_old _ _ (λ z. c.if-k-ne0.true (n ∙ z)))

pub earned-requires : goal.earned-requires
earned-requires c =
    let a = c.args in
    let n : c.at_refusal-k.result ≡ at_refusal a.terms (bands_fit a.thresholds.now a.factors.now) a.energy a.rate =
    simp (c.is_ok-banded.ensures.value, c.check.ensures, bands_test a.thresholds.now a.factors.now) at c.at_refusal-k.ensures in
    paid_within (at_fit _ _ _ _ (sym n ∙ c.if-k-ne0.false)).paid

pub returns : goal.returns
unfolding settled_at settled_of
returns c =
    let a = c.args in
    let n : c.at_refusal-k.result ≡ at_refusal a.terms (bands_fit a.thresholds.now a.factors.now) a.energy a.rate =
    simp (c.is_ok-banded.ensures.value, c.check.ensures, bands_test a.thresholds.now a.factors.now) at c.at_refusal-k.ensures in
    let f : SFits w64 c.unwrap_or-factor.result = search rules in
    let factor : to_z w64 (of_z w64 c.unwrap_or-factor.result) ≡ result_unwrap_or (factor_answer a.thresholds.now a.factors.now a.rate) (pos 0) =
    to_z-of_z f ∙ (rw c.factor.ensures at c.unwrap_or-factor.ensures) in
    c.earned.ensures ∙ ap (λ (z : ℤ). earned_by a.terms z a.energy a.rate) factor ∙ sym (kept_new _ _ (sym n ∙ c.if-k-ne0.false))
