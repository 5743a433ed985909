-- Desk rule, "Reading": the sorts of bytes (ASCII). A byte of no sort is one that no word and no number holds.
use Rattle.std.specs.Prelude.{ℕ, ◌-◌, Bool, ◌&&◌, ◌||◌, eqb, leb}

abbrev pub line_byte : ℕ
line_byte = 10

-- `#`: a comment, from it to the line end
abbrev pub hash : ℕ
hash = 35

-- `-`
abbrev pub sign : ℕ
sign = 45

-- "separators: space, tab, comma, carriage return (0D), line end (0A)"
unfoldable pub separates : ℕ → Bool
separates b = eqb b 32 || eqb b 9 || eqb b 44 || eqb b 13 || eqb b line_byte

-- "Tokens are the longest runs of bytes that are neither separators nor #."
unfoldable pub parts : ℕ → Bool
parts b = separates b || eqb b hash

-- "letters: a to z and _"
unfoldable pub is_letter : ℕ → Bool
is_letter b = (leb 97 b && leb b 122) || eqb b 95

unfoldable pub is_digit : ℕ → Bool
is_digit b = leb 48 b && leb b 57

unfoldable pub digit_of : ℕ → ℕ
digit_of b = b - 48
