-- Straight-line code that mirrors the definition; the amount fits.
use Rattle.std.proofs.Common.{◌≡◌, pos, ◌+ℤ◌, rules, ◌∙◌}
use mir.Syntax.{w64}
use mir.Val.{SFits, to_z, of_z}
use mir.Facts.{to_z-of_z}
use Rattle.bands.specs.Bands.{factor_answer}
use Rattle.std.specs.Result.{result_unwrap_or}
use Rattle.fees.specs.Fees.{fee_answer, quality_answer}
use Rattle.hour.specs.Hour.{settled_of, granted_hour}
use Rattle.hour.proofs.Laws.{amount_fits}
use Rattle.hour.proofs.settled.Goals as goal

pub overflow_add-result : goal.overflow_add-result
overflow_add-result c =
    let q : SFits w64 c.quality_part.result.dollars.0 = search rules in
    let e : SFits w64 c.args.energy.0 = search rules in
    let sum : SFits w64 (c.quality_part.result.dollars.0 +ℤ c.args.energy.0) = rw c.quality_part.ensures (amount_fits _ _ _ c.args.energy c.requires) in
    rw (to_z-of_z q, to_z-of_z e) sum

pub returns : goal.returns
unfolding settled_of granted_hour
returns c =
    let a = c.args in
    let t = a.terms in
    let f : SFits w64 t.clearing = search rules in
    let g : SFits w64 t.performance = search rules in
    let h : SFits w64 c.unwrap_or-factor.result = search rules in
    let q : SFits w64 c.quality_part.result.dollars.0 = search rules in
    let e : SFits w64 a.energy.0 = search rules in
    let sum : SFits w64 (c.quality_part.result.dollars.0 +ℤ a.energy.0) = rw c.quality_part.ensures (amount_fits _ _ _ a.energy c.requires) in
    let factor : to_z w64 (of_z w64 c.unwrap_or-factor.result) ≡ (result_unwrap_or (factor_answer a.thresholds.now a.factors.now a.rate) (pos 0)) = to_z-of_z h ∙ (rw c.factor.ensures at c.unwrap_or-factor.ensures) in
    let capacity : c.fee.result ≡ fee_answer t.clearing t.capacity = rw (to_z-of_z f) at c.fee.ensures in
    let performance : c.fee-2.result ≡ fee_answer t.performance t.capacity = rw (to_z-of_z g) at c.fee-2.ensures in
    let quality : c.quality_part.result ≡ quality_answer (fee_answer t.clearing t.capacity).dollars (fee_answer t.performance t.capacity).dollars (result_unwrap_or (factor_answer a.thresholds.now a.factors.now a.rate) (pos 0)) =
    rw (factor, capacity, performance) at c.quality_part.ensures in
    rw (to_z-of_z q, to_z-of_z e, to_z-of_z sum, factor, quality, capacity, performance)
