-- The loop's invariant: the first i of the seconds that move are those of the ramp.
use Rattle.std.proofs.Common.{◌≡◌}
use Rattle.whole.specs.Runs.{filled}
use Rattle.ramp.specs.Ramp.{ramp_at}
use Rattle.ramp.proofs.fill.Given as goal

abbrev pub invariant-loop-i : goal.invariant-loop-i
invariant-loop-i l = l.moves ≡ filled (ramp_at l.last l.target) 1 l.initial.moves l.i
