-- A turn tests one number more; at the end all were passed.
use Rattle.std.proofs.Common.{rules, ◌≡◌, pos, get_or, length, true, sym, ap₂, ◌∙◌, SFits}
use Rattle.std.specs.Int.{w64}
use mir.Facts.{to_z-of_z}
use mathlib.Core.Bool.{◌&&◌}
use native.Mathlib.Omega.{arith}
use Rattle.whole.specs.Whole.{all_in_range}
use Rattle.whole.proofs.Folds.{fold_none, fold_step}
use Rattle.whole.proofs.all_within.Goals as goal

pub loop-x-init : goal.loop-x-init
loop-x-init c = fold_none true ◌&&◌ _

pub loop-x-preserved : goal.loop-x-preserved
loop-x-preserved c =
    let f : SFits w64 (get_or c.args.run.now c.loop-x.x-index (pos 0)) = search rules in
    let kept = rw (to_z-of_z c.ranges.low, to_z-of_z c.ranges.high) at c.loop-x.invariant in
    rw (to_z-of_z c.ranges.low, to_z-of_z c.ranges.high) (fold_step true ◌&&◌ _ _ ∙ ap₂ ◌&&◌ kept (sym (rw (to_z-of_z f, to_z-of_z c.ranges.low, to_z-of_z c.ranges.high) at c.within-all.ensures)))

pub returns : goal.returns
unfolding all_in_range
returns c = let n : c.loop-x.x-index ≡ length c.args.run.now = omega arith in
    sym (rw (to_z-of_z c.ranges.low, to_z-of_z c.ranges.high, n) at c.loop-x.invariant)
