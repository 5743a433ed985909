-- What only mirrors the code: earlier scores in an array of four.
use Rattle.std.specs.Prelude.{ℕ, min, List, ℤ, length, take}
use Rattle.numbers.specs.Numbers.{as_bytes}
use Rattle.numbers.specs.declared.Earlier.{Earlier}

-- all; of more than four the first four, since more than three are refused whatever they say (document 02, #102)
unfoldable pub first_four : List ℤ → Earlier
first_four n = record { count = min (length n) 4; scores = as_bytes n 4 }

abbrev pub taken : Earlier → List ℕ
taken earlier = take earlier.count earlier.scores
