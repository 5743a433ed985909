-- Each quarter's part is small enough for the sum to fit.
use Rattle.std.proofs.Common.{◌≡◌, ◌+◌, pos, ◌+ℤ◌, sym, ◌∙◌, arith}
use mathlib.Core.Path.{ap₂}
use mir.Syntax.{w64}
use mir.Val.{to_z, of_z}
use mir.Facts.{to_z-of_z}
use Rattle.whole.specs.Folds.{sum_to}
use Rattle.whole.proofs.Folds.{fold_none, fold_step}
use Rattle.whole.proofs.Signed.{back, within_fits}
use Rattle.fees.specs.Fees.{quarter_part}
use Rattle.fees.proofs.Laws.{energy_fits, parts_within}
use Rattle.fees.proofs.four_quarters.Goals as goal

pub loop-q-init : goal.loop-q-init
loop-q-init c = sym (fold_none (pos 0) ◌+ℤ◌ _)

-- the sum with one quarter more
next : (c : goal.After-quarter_part-sum) →
    let a = c.args in
    to_z w64 c.loop-q.sum-bits +ℤ to_z w64 (of_z w64 c.quarter_part-sum.result)
    ≡ sum_to (c.loop-q.q + 1) (quarter_part a.powers.now a.targets.now (to_z w64 (of_z w64 a.discharge)) (to_z w64 (of_z w64 a.charge)))
next c = ap₂ ◌+ℤ◌ c.loop-q.invariant (back w64 c.quarter_part-sum.type_inv c.quarter_part-sum.ensures) ∙ sym (fold_step (pos 0) ◌+ℤ◌ _ _)

pub overflow_add-sum : goal.overflow_add-sum
overflow_add-sum c =
    rw (next c, to_z-of_z c.ranges.discharge, to_z-of_z c.ranges.charge)
    (within_fits w64 tt (parts_within (energy_fits _ _ _ _ c.requires) (c.loop-q.q + 1) (omega arith)))

pub loop-q-preserved : goal.loop-q-preserved
loop-q-preserved c = to_z-of_z (overflow_add-sum c) ∙ next c

pub returns : goal.returns
returns c =
    let n : c.loop-q.q ≡ 4 = omega arith in
    rw (to_z-of_z c.ranges.discharge, to_z-of_z c.ranges.charge) at (rw n at c.loop-q.invariant)
