-- What the two calls are lent to fill and what they leave there, by name: their contracts' arguments, once, as the toolchain reads them off the source (a lent
-- run is a `MutBor`, whose list is `now` of it).
use Rattle.std.specs.Prelude.{List, ℤ}
use contract.Lifetimes.{Lfts}
use Rattle.std.specs.Borrow.{Bor, MutBor}
use Rattle.units.specs.declared.Kilowatts.{Kilowatts}

-- `ramp`: the lent run, of what is handed in and of what is left
abbrev pub RampArguments : Type 0
RampArguments = Kilowatts × (Kilowatts × (MutBor (List ℤ) × Unit {0}))

abbrev pub ramp_run : Lfts 1 → RampArguments → List ℤ
ramp_run κs (last, (target, (seconds, end))) = seconds.now

-- `plan`
abbrev pub PlanArguments : Type 0
PlanArguments = Bor (List ℤ) × (MutBor (List ℤ) × Unit {0})

abbrev pub plan_run : Lfts 2 → PlanArguments → List ℤ
plan_run κs (targets, (seconds, end)) = seconds.now
