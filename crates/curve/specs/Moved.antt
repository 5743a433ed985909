-- What the theorems of document 02, #107 (proofs/Accepted.antt, proofs/Moved.antt) are stated in: what fits; the curve as document 01 has it, with no reference; millihertz, moved.
use Rattle.std.specs.Prelude.{◌≡◌, true, Result, Ok, Err, ℤ, pos, ◌+ℤ◌}
use Rattle.whole.specs.Choice.{pick}
use Rattle.units.specs.Limits.{nominal, is_reference, is_frequency}
use Rattle.units.specs.declared.refusal.Refusal.{Refusal}
use Rattle.units.specs.declared.refusal.Refusal.TheVariants.{BadReading}
use Rattle.units.specs.Units.{millihertz}
use Rattle.units.specs.declared.Millihertz.{Millihertz}
use Rattle.curve.specs.Curve.{bounds_at}
use Rattle.curve.specs.declared.Bounds.{Bounds}

-- each test of the refusal, as a fact
pub record CurveFits (f r : Millihertz) : Type 0 where
  pub reference : is_reference r.0 ≡ true
  pub frequency : is_frequency f.0 ≡ true

-- "At 60,000 the old answers are shown to stand": the pair of a frequency in its range; others are refused with 4
unfoldable pub curve_unmoved : Millihertz → Result Bounds Refusal
curve_unmoved frequency = pick (is_frequency frequency.0) (Ok (bounds_at frequency.0)) (Err BadReading)

-- the reference where nobody moves it
abbrev pub unmoved : Millihertz
unmoved = millihertz (pos nominal)

-- millihertz, moved by d
abbrev pub moved_by : ℤ → Millihertz → Millihertz
moved_by d f = millihertz (f.0 +ℤ d)
