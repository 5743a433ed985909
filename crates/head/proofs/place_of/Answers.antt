-- `head::place_of`: the places before the hour's day are days of 24 hours each. Assumes nothing.
use Prim.Native.Nat.{◌-◌}
use native.Mathlib.Omega.{arith}
use Rattle.units.specs.Limits.{hours_of_day}
use Rattle.history.proofs.Days.{hours_even}
use Rattle.head.proofs.place_of.Goals as goal

pub overflow_add-result : goal.overflow_add-result
overflow_add-result c = record { fits = omega (arith, c.places.ensures, hours_even hours_of_day (c.args.day - 1)) }
