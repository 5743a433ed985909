-- What only mirrors the code: the hourly rate in one pass, which carries the last three scores; and what is refused before it.
use Rattle.std.specs.Prelude.{ℕ, max, List, [], ◌∷◌, length}
use Rattle.whole.specs.Choice.{pick, in_order}
use Rattle.units.specs.Refusals.{wrong_length, bad_reading}
use Rattle.units.specs.Limits.{most_score}
use Rattle.rate.specs.Rolling.{smallest_from, rate_lengths_fit, are_scores, no_rate}
use Rattle.rate.specs.declared.Rated.{Rated}

-- the rolling rates as one pass finds them, from the last three scores alone, newest first, a missing one as 0
abbrev pub carried : ℕ → ℕ → ℕ → List ℕ → List ℕ
carried a b c [] = []
carried a b c (x ∷ xs) = max x (max a (max b c)) ∷ carried x a b xs

unfoldable pub rate_after : ℕ → ℕ → ℕ → List ℕ → Rated
rate_after last second third scores =
    pick (are_scores scores)
    (record { refusal = 0; rate = smallest_from most_score (carried last second third scores) })
    (no_rate bad_reading)

-- all but the test of the hour's own scores, of which there are so many: 1, 4
unfoldable pub earlier_refusal : List ℕ → ℕ → ℕ
earlier_refusal earlier seconds =
    in_order ((rate_lengths_fit (length earlier) seconds, wrong_length) ∷ (are_scores earlier, bad_reading) ∷ [])
