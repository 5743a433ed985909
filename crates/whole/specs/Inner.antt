-- What only mirrors the code: when `sum` takes a sum, and what it answers.
use Rattle.std.specs.Prelude.{ℕ, Bool, ◌&&◌, List, Option, Some, None, leb, ℤ, pos, length}
use Rattle.whole.specs.Choice.{pick}
use Rattle.whole.specs.Folds.{sum_of}
use Rattle.whole.specs.Whole.{minus, all_in_range}

-- a sum that cannot overflow: at most 1,000,000 numbers from -10^12 to 10^12. Of any other run no sum is taken.
abbrev pub most_terms : ℕ
most_terms = 1000000

abbrev pub most_term : ℕ
most_term = 1000000000000

abbrev pub summable : List ℤ → Bool
summable xs = leb (length xs) most_terms && all_in_range (minus most_term) (pos most_term) xs

unfoldable pub summed : List ℤ → Option ℤ
summed xs = pick (summable xs) (Some (sum_of xs)) None
