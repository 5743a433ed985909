-- What only mirrors the code: where the table is read.
use Rattle.std.specs.Prelude.{ℕ, min, ℤ, pos, ◌+ℤ◌, ◌-ℤ◌}
use Rattle.whole.specs.Whole.{up}
use Rattle.units.specs.Limits.{nominal}
use Rattle.curve.specs.Curve.{reach, last_place}

-- how far a frequency lies past the first corner, which stands around a reference
abbrev pub past_first : ℤ → ℤ → ℤ
past_first reference f = f -ℤ (reference -ℤ pos reach)

-- the place among the table's pairs that is read so far past the first corner: before the table the first, after it the last
unfoldable pub place_past : ℤ → ℕ
place_past steps = min (up steps) last_place

-- that of a distance, and so of a frequency
abbrev pub place_by : ℤ → ℕ
place_by d = place_past (d +ℤ pos reach)

unfoldable pub place_at : ℤ → ℕ
place_at f = place_by (f -ℤ pos nominal)
