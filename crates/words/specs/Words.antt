-- Words: as bytes of a line, and as the code that a question is named by.
use Rattle.std.specs.Prelude.{ℕ, ◌+◌, ◌-◌, ◌*◌, ◌^◌, List, [], ◌∷◌, leb, length}
use Prim.Native.Char.{code}
use Prim.Native.String as text
use Rattle.whole.specs.Choice.{pick}

-- the bytes of a text (ASCII)
abbrev pub bytes : text.String → List ℕ
bytes text.[] = []
bytes (text.◌∷◌ c cs) = code c ∷ bytes cs

-- a letter's place: a is 1, .., z is 26, _ is 27
unfoldable pub letter_of : ℕ → ℕ
letter_of b = pick (leb 97 b) (b - 96) 27

-- each place counts its digit times the base to the power of how many places follow
module _ (base : ℕ) (digit : ℕ → ℕ) where
  abbrev pub letters_placed : List ℕ → ℕ
  letters_placed [] = 0
  letters_placed (b ∷ bs) = digit b * base ^ length bs + letters_placed bs

-- a word's code: base 32 over its letters, the first letter highest
abbrev pub code_of : List ℕ → ℕ
code_of = letters_placed 32 letter_of

abbrev pub word_of : text.String → ℕ
word_of word = code_of (bytes word)
