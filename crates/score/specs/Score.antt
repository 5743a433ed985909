-- Document 01, "A second's score" (document 001, section 1.3.1): percent output, and its score by the bounds of a frequency, the curve's corners around a reference (document 02, #107).
use Rattle.std.specs.Prelude.{ℕ, ◌-◌, min, Bool, ◌&&◌, List, [], ◌∷◌, ℤ, pos, nat_abs, ◌-ℤ◌, ◌*ℤ◌}
use Rattle.whole.specs.Choice.{pick, in_order, kept}
use Rattle.whole.specs.Whole.{in_range, apart, nearest}
use Rattle.units.specs.Refusals.{bad_capacity, bad_reference, bad_reading, bad_transfer}
use Rattle.units.specs.Limits.{is_capacity, is_reference, is_power, is_frequency, is_transfer, most_score}
use Rattle.units.specs.declared.Kilowatts.{Kilowatts}
use Rattle.units.specs.declared.Millihertz.{Millihertz}
use Rattle.curve.specs.Curve.{upper_by, lower_by}
use Rattle.score.specs.declared.Scored.{Scored}

-- the nearest whole percent of (power minus scheduled transfer) over capacity
unfoldable pub percent_output : ℤ → ℤ → ℤ → ℤ
percent_output power transfer capacity = nearest ((power -ℤ transfer) *ℤ pos 100) (nat_abs capacity)

-- 100 within the two bounds, ends included; otherwise 100 less the distance to the nearer bound, and never below 0
unfoldable pub score_of : ℤ → ℤ → ℤ → ℕ
score_of output upper lower = pick (in_range lower upper output) most_score (most_score - min (apart output upper) (apart output lower))

-- a second's reading
abbrev pub is_reading : ℤ → ℤ → Bool
is_reading power frequency = is_power power && is_frequency frequency

-- "Order. Hour, and calls for a part of its work", and "19 .. directly after 2" (document 02, #107): 2, 19, 10, 4
abbrev pub score_tests : Kilowatts → Kilowatts → Kilowatts → Millihertz → Millihertz → List (Bool × ℕ)
score_tests power transfer capacity frequency reference =
    (is_capacity capacity.0, bad_capacity)
    ∷ (is_reference reference.0, bad_reference)
    ∷ (is_transfer transfer.0, bad_transfer)
    ∷ (is_reading power.0 frequency.0, bad_reading)
    ∷ []

unfoldable pub second_refusal : Kilowatts → Kilowatts → Kilowatts → Millihertz → Millihertz → ℕ
second_refusal power transfer capacity frequency reference = in_order (score_tests power transfer capacity frequency reference)

-- a second's power, judged by the pair of a frequency: the caller hands in that of the second before
unfoldable pub judged_by : Kilowatts → Kilowatts → Kilowatts → Millihertz → Millihertz → ℕ
judged_by power transfer capacity frequency reference =
    score_of (percent_output power.0 transfer.0 capacity.0) (upper_by reference.0 frequency.0) (lower_by reference.0 frequency.0)

abbrev pub no_score : ℕ → Scored
no_score k = record { refusal = k; score = 0 }

unfoldable pub second_score : Kilowatts → Kilowatts → Kilowatts → Millihertz → Millihertz → Scored
second_score power transfer capacity frequency reference =
    let k = second_refusal power transfer capacity frequency reference in
    kept k (record { refusal = 0; score = judged_by power transfer capacity frequency reference }) (no_score k)
