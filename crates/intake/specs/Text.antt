-- Document 01, "Frames": what the program prints, byte by byte (ASCII).
use Rattle.std.specs.Prelude.{ℕ, List, [], ◌∷◌, ◌++◌, ℤ}
use Rattle.text.specs.Text.{decimal_of, signed_text}
use Rattle.lines.specs.Lines.{line_end}

-- "the line number, a space, and 0 or the refusal"
unfoldable pub verdict_text : ℕ → ℕ → List ℕ
verdict_text number refusal = decimal_of number ++ (32 ∷ (decimal_of refusal ++ (line_end ∷ [])))

abbrev pub total_word : List ℕ
total_word = 116 ∷ 111 ∷ 116 ∷ 97 ∷ 108 ∷ 32 ∷ []

-- "at the end `total` and the month total"
unfoldable pub total_text : ℤ → List ℕ
total_text total = total_word ++ (signed_text total ++ (line_end ∷ []))
