-- The parts of a question's numbers, where the cut found them.
use Rattle.std.specs.Prelude.{List, ℤ, drop}
use Rattle.whole.specs.Runs.{listed}
use Rattle.numbers.specs.Numbers.{number, part}
use Rattle.numbers.specs.declared.Span.{Span}
use Rattle.numbers.specs.declared.Places.{Places}
use Rattle.hours.specs.Hours.{HourNumbers, hour_numbers}

-- the first twelve numbers, zeros past the end
unfoldable pub head_of : List ℤ → List ℤ
head_of n = listed (number n) 0 12

-- the entries of a list
abbrev pub entries_in : List ℤ → Span → List ℤ
entries_in n span = part n span.start span.end

-- an hour's numbers, its terms among the first: its bands are the first list, its earlier scores the second
abbrev pub given_in : List ℤ → List ℤ → Places → HourNumbers
given_in terms n places =
    hour_numbers terms (entries_in n places.first) places.second.counted (entries_in n places.second) (drop places.tail n)
