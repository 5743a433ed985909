-- `head::places`: days of 24 hours each. Assumes nothing.
use native.Mathlib.Omega.{arith}
use Rattle.units.specs.Limits.{hours_of_day}
use Rattle.history.proofs.Days.{hours_even}
use Rattle.head.proofs.places.Goals as goal

pub returns : goal.returns
returns c = omega (arith, hours_even hours_of_day c.args.days)
