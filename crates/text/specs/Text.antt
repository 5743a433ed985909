-- Numbers as they are printed (ASCII), and a text put into a run at a place. Desk rule: a text that does not fit is not begun.
use Rattle.std.specs.Prelude.{ℕ, zero, suc, ◌+◌, ◌/◌, ◌%◌, Bool, List, [], ◌∷◌, ◌++◌, ltb, leb, ℤ, pos, negsuc, length, take, drop}
use Rattle.whole.specs.Choice.{pick}

-- a number's decimal digits, at most k of them, the highest first and no zero before the others
abbrev pub spelled : ℕ → ℕ → List ℕ
spelled zero n = []
spelled (suc k) n = pick (ltb n 10) ((48 + n) ∷ []) (spelled k (n / 10) ++ ((48 + n % 10) ∷ []))

-- a number below 10^20, which every number of 64 bits is
unfoldable pub decimal_of : ℕ → List ℕ
decimal_of n = spelled 20 n

-- the same with a minus sign where it is below 0
unfoldable pub signed_text : ℤ → List ℕ
signed_text (pos n) = decimal_of n
signed_text (negsuc n) = 45 ∷ decimal_of (suc n)

-- what ends a line
abbrev pub end_of_line : List ℕ
end_of_line = 10 ∷ []

-- a run with a text put at a place
unfoldable pub put : List ℕ → ℕ → List ℕ → List ℕ
put out at text = take at out ++ (text ++ drop (at + length text) out)

-- whether a run has room from a place on for a text of that length
abbrev pub fits : ℕ → ℕ → ℕ → Bool
fits room at long = leb (at + long) room

-- the place after a text that fits, or the same place
unfoldable pub place_after : List ℕ → ℕ → List ℕ → ℕ
place_after out at text = pick (fits (length out) at (length text)) (at + length text) at

-- the run with a text that fits, or as it was
unfoldable pub with_text : List ℕ → ℕ → List ℕ → List ℕ
with_text out at text = pick (fits (length out) at (length text)) (put out at text) out
