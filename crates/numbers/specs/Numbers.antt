-- A question's numbers, place by place, and what they are read as (docs/DESK.md, "Questions").
use Rattle.std.specs.Prelude.{ℕ, ◌+◌, ◌-◌, ◌*◌, Bool, List, ℤ, pos, length, get_or, take, drop}
use Rattle.whole.specs.Choice.{pick}
use Rattle.whole.specs.Runs.{listed}
use Rattle.whole.specs.Whole.{up, in_range}

abbrev pub number : List ℤ → ℕ → ℤ
number n i = get_or n i (pos 0)

-- those from a place on, up to another
abbrev pub part : List ℤ → ℕ → ℕ → List ℤ
part n start end = take (end - start) (drop start n)

-- a number outside 0 to 255 is taken as 255
abbrev pub is_byte : ℤ → Bool
is_byte z = in_range (pos 0) (pos 255) z

unfoldable pub byte_of : ℤ → ℕ
byte_of z = pick (is_byte z) (up z) 255

-- numbers as bytes, so many from the first on
unfoldable pub as_bytes : List ℤ → ℕ → List ℕ
as_bytes n many = listed (λ i. byte_of (number n i)) 0 many

-- numbers as scores: one that no byte holds is taken as 255, which is no score
abbrev pub scores_in : List ℤ → List ℕ
scores_in n = as_bytes n (length n)

-- one column of pairs: every second number from a place on, so many of them
unfoldable pub column : List ℤ → ℕ → ℕ → List ℤ
column n start many = listed (λ i. number n (start + 2 * i)) 0 many
