-- Document 01, "Units": the quantities by their numbers. A figure in megawatts reaches a kilowatt rule only through this conversion.
use Rattle.std.specs.Prelude.{ℤ, pos, ◌*ℤ◌, Result, Ok, Err}
use Rattle.whole.specs.Choice.{pick}
use Rattle.units.specs.Limits.{is_award}
use Rattle.units.specs.declared.refusal.Refusal.{Refusal}
use Rattle.units.specs.declared.refusal.Refusal.TheVariants.{BadTransfer}
use Rattle.units.specs.declared.Kilowatts.{Kilowatts}
use Rattle.units.specs.declared.Megawatts.{Megawatts}
use Rattle.units.specs.declared.Millihertz.{Millihertz}
use Rattle.units.specs.declared.Dollars.{Dollars}

abbrev pub kilowatts : ℤ → Kilowatts
kilowatts z = record { 0 = z }

abbrev pub megawatts : ℤ → Megawatts
megawatts z = record { 0 = z }

abbrev pub millihertz : ℤ → Millihertz
millihertz z = record { 0 = z }

abbrev pub dollars : ℤ → Dollars
dollars z = record { 0 = z }

-- whole megawatts from -100 to 100, times 1,000; others are refused with 10
unfoldable pub in_kilowatts : Megawatts → Result Kilowatts Refusal
in_kilowatts award = pick (is_award award.0) (Ok (kilowatts (award.0 *ℤ pos 1000))) (Err BadTransfer)
