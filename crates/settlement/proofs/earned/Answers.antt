-- Straight-line code that mirrors the definition; the amount fits.
use Rattle.std.proofs.Common.{◌≡◌, ◌+ℤ◌, rules}
use mir.Syntax.{w64}
use mir.Val.{SFits}
use mir.Facts.{to_z-of_z}
use Rattle.fees.specs.Fees.{fee_answer, quality_answer}
use Rattle.settlement.specs.Settlement.{earned_by, granted_hour}
use Rattle.settlement.proofs.Laws.{amount_fits}
use Rattle.settlement.proofs.earned.Goals as goal

pub overflow_add-result : goal.overflow_add-result
overflow_add-result c =
    let q : SFits w64 c.quality_part.result.dollars.0 = search rules in
    let e : SFits w64 c.args.energy.0 = search rules in
    let sum : SFits w64 (c.quality_part.result.dollars.0 +ℤ c.args.energy.0) = rw c.quality_part.ensures (amount_fits _ _ _ c.args.energy c.requires) in
    rw (to_z-of_z q, to_z-of_z e) sum

pub returns : goal.returns
unfolding earned_by granted_hour
returns c =
    let t = c.args.terms in
    let f : SFits w64 t.clearing = search rules in
    let g : SFits w64 t.performance = search rules in
    let q : SFits w64 c.quality_part.result.dollars.0 = search rules in
    let e : SFits w64 c.args.energy.0 = search rules in
    let sum : SFits w64 (c.quality_part.result.dollars.0 +ℤ c.args.energy.0) = rw c.quality_part.ensures (amount_fits _ _ _ c.args.energy c.requires) in
    let capacity : c.fee.result ≡ fee_answer t.clearing t.capacity = rw (to_z-of_z f) at c.fee.ensures in
    let performance : c.fee-2.result ≡ fee_answer t.performance t.capacity = rw (to_z-of_z g) at c.fee-2.ensures in
    let quality : c.quality_part.result ≡ quality_answer (fee_answer t.clearing t.capacity).dollars (fee_answer t.performance t.capacity).dollars c.args.factor =
    rw (to_z-of_z c.ranges.factor, capacity, performance) at c.quality_part.ensures in
    rw (to_z-of_z q, to_z-of_z e, to_z-of_z sum, to_z-of_z c.ranges.factor, quality, capacity, performance)
