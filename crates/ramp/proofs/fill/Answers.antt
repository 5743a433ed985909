-- `ramp::fill` meets its contract: the seconds that move are those of the ramp, and the others its target. Assumes nothing.
use Rattle.std.proofs.Common.{◌≡◌, ◌+◌, ◌++◌, length, ap, ap₂, ◌∙◌, arith, rules, w64}
use Rattle.std.proofs.Math.Facts.{to_z-of_z}
use Rattle.std.proofs.Math.ListN.{replicate}
use Rattle.whole.proofs.Runs.{filled_more, filled_all}
use Rattle.whole.proofs.Signed.{back}
use Rattle.units.specs.Limits.{seconds_of_quarter}
use Rattle.ramp.specs.Ramp.{ramp_at}
use Rattle.ramp.proofs.Laws.{ramp_is}
use Rattle.ramp.proofs.Level.{listed_level}
use Rattle.ramp.proofs.fill.Goals as goal

pub loop-i-preserved : goal.loop-i-preserved
loop-i-preserved c =
    let f = ramp_at c.args.last c.args.target in
    let moves = c.split_at_mut-moves.result.0.now in
    let next : c.loop-i.i + 1 ≡ 1 + c.loop-i.i = omega arith in
    let second = (rw (to_z-of_z c.ranges.last, to_z-of_z c.ranges.target) at c.ramping.ensures) ∙ ap f next in
    let v = back w64 c.ramping.type_inv second in
    rw (to_z-of_z c.ranges.last, to_z-of_z c.ranges.target) (rw (v, rw (to_z-of_z c.ranges.last, to_z-of_z c.ranges.target) at c.loop-i.invariant) (filled_more f 1 moves c.loop-i.i (omega arith)))

pub returns : goal.returns
returns c =
    let f = ramp_at c.args.last c.args.target in
    let moves = c.split_at_mut-moves.result.0.now in
    let level = c.split_at_mut-moves.result.1.now in
    let i = c.loop-i.i in
    let n : i ≡ length moves = omega arith in
    let moved = (rw (to_z-of_z c.ranges.last, to_z-of_z c.ranges.target) at c.loop-i.invariant) ∙ filled_all f 1 moves i n in
    let left : c.fill.new.self ≡ replicate (length level) c.args.target = search rules in
    let long : i + length level ≡ seconds_of_quarter = omega arith in
    let stays = rw (to_z-of_z c.ranges.last, to_z-of_z c.ranges.target) at c.moving.ensures.1 in
    ap₂ ◌++◌ moved left ∙ listed_level f c.args.target 1 i (length level) (λ j h. stays (1 + j) (omega arith)) ∙ ramp_is c.args.last c.args.target (i + length level) long
