-- What `run_scores` is lent to fill and what it leaves there, by name: its contract's arguments, once, as the toolchain reads them off the source (a lent run is
-- a `MutBor`, whose list is `now` of it).
use Rattle.std.specs.Prelude.{ℕ, List, ℤ}
use contract.Lifetimes.{Lfts}
use Rattle.std.specs.Borrow.{Bor, MutBor}
use Rattle.units.specs.declared.Kilowatts.{Kilowatts}
use Rattle.units.specs.declared.Millihertz.{Millihertz}

abbrev pub ScoresArguments : Type 0
ScoresArguments = Bor (List ℤ) × (Bor (List ℤ) × (Bor (List ℤ) × (Kilowatts × (Millihertz × (MutBor (List ℕ) × Unit {0})))))

abbrev pub scores_run : Lfts 4 → ScoresArguments → List ℕ
scores_run κs (powers, (frequencies, (transfers, (capacity, (reference, (scores, end)))))) = scores.now
