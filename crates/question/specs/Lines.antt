-- What a question prints: a refusal's number and the fields, on one line, byte by byte.
use Rattle.std.specs.Prelude.{ℕ, List, [], ◌∷◌, ◌++◌, ℤ}
use Rattle.text.specs.Text.{decimal_of, signed_text, end_of_line}
use Rattle.words.specs.Replies.{Reply}

-- numbers are separated by one space
abbrev pub field : ℤ → List ℕ
field z = 32 ∷ signed_text z

abbrev pub fields_text : List ℤ → List ℕ
fields_text [] = []
fields_text (z ∷ zs) = field z ++ fields_text zs

unfoldable pub line_text : Reply → List ℕ
line_text r = decimal_of r.refusal ++ (fields_text r.fields ++ end_of_line)
