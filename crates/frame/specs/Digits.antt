-- Document 01, "Frames": the digits 0-9 A-F, each one byte of a line (ASCII), and a byte as two digits, the higher first.
use Rattle.std.specs.Prelude.{ℕ, ◌+◌, ◌-◌, ◌*◌, ◌/◌, ◌%◌, Bool, true, ◌&&◌, ◌||◌, List, [], ◌∷◌, ltb, leb}
use Rattle.whole.specs.Choice.{pick}

-- the digit of a value below 16: 0-9 stand from 48 on, A-F from 65, which is 55 and ten
unfoldable pub hex_digit_of : ℕ → ℕ
hex_digit_of v = pick (ltb v 10) (48 + v) (55 + v)

-- the digits that are allowed, and their values
unfoldable pub is_hex_digit : ℕ → Bool
is_hex_digit d = leb 48 d && ltb d 58 || leb 65 d && ltb d 71

unfoldable pub hex_value_of : ℕ → ℕ
hex_value_of d = pick (ltb d 65) (d - 48) (d - 55)

abbrev pub all_digits : List ℕ → Bool
all_digits [] = true
all_digits (d ∷ ds) = is_hex_digit d && all_digits ds

-- the digits of bytes, and the bytes of digits
abbrev pub digits_of : List ℕ → List ℕ
digits_of [] = []
digits_of (b ∷ bs) = hex_digit_of (b / 16) ∷ hex_digit_of (b % 16) ∷ digits_of bs

abbrev pub bytes_of : List ℕ → List ℕ
bytes_of [] = []
bytes_of (h ∷ []) = []
bytes_of (h ∷ l ∷ ds) = (hex_value_of h * 16 + hex_value_of l) ∷ bytes_of ds
