-- The loop's invariant: the first q quarters of the run are those of the plan.
use Rattle.std.proofs.Common.{◌≡◌, ◌*◌}
use Rattle.whole.specs.Runs.{filled}
use Rattle.units.specs.Limits.{seconds_of_quarter}
use Rattle.ramp.specs.Ramp.{transfer_at}
use Rattle.ramp.proofs.fill_hour.Given as goal

abbrev pub invariant-loop-q : goal.invariant-loop-q
invariant-loop-q l = l.seconds ≡ filled (transfer_at l.targets) 0 l.initial.seconds (l.q * seconds_of_quarter)
