-- What only mirrors the code: percents by an inverse, and the tests of a run's seconds, looked at once.
use Rattle.std.specs.Prelude.{ℕ, ◌+◌, ◌*◌, ◌/◌, Bool, ◌&&◌, List, [], ◌∷◌, ℤ, pos, get_or}
use Rattle.whole.specs.Choice.{unless, in_order}
use Rattle.units.specs.Refusals.{bad_capacity, bad_reference, bad_reading, bad_transfer}
use Rattle.units.specs.Limits.{is_capacity, is_reference, most_power, are_powers, are_frequencies, most_transfer, is_transfer, are_transfers}
use Rattle.units.specs.declared.Kilowatts.{Kilowatts}
use Rattle.units.specs.declared.Millihertz.{Millihertz}
use Rattle.score.specs.Score.{is_reading}

-- what a division by twice d is made by, where many are: n / (2 d) is n times the inverse over 2^44 (proofs/ByInverse.antt)
abbrev pub scale : ℕ
scale = 17592186044416

unfoldable pub inverse_of : ℕ → ℕ
inverse_of d = scale / (2 * d) + 1

-- from this capacity on, in kW, the product fits 64 bits
abbrev pub least_by_inverse : ℕ
least_by_inverse = 32

-- no percent output is larger: that of 1 kW
abbrev pub most_output : ℕ
most_output = (most_power + most_transfer) * 100

-- 2, 19; then what the rest says
unfoldable pub award_refusal : Kilowatts → Millihertz → ℕ → ℕ
award_refusal capacity reference rest = unless (is_capacity capacity.0) bad_capacity (unless (is_reference reference.0) bad_reference rest)

-- whether a second's transfer, power and frequency lie in their ranges; and the second at place i
unfoldable pub second_fits : ℤ → ℤ → ℤ → Bool
second_fits power frequency transfer = is_transfer transfer && is_reading power frequency

abbrev pub fit_at : List ℤ → List ℤ → List ℤ → ℕ → Bool
fit_at powers frequencies transfers i = second_fits (get_or powers i (pos 0)) (get_or frequencies i (pos 0)) (get_or transfers i (pos 0))

-- 10, 4
abbrev pub seconds_refusal : List ℤ → List ℤ → List ℤ → ℕ
seconds_refusal powers frequencies transfers =
    in_order ((are_transfers transfers, bad_transfer) ∷ (are_powers powers && are_frequencies frequencies, bad_reading) ∷ [])
