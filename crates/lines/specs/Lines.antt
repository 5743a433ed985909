-- Document 01, "Frames": "A line end is the byte 0A"; "a last line without one counts if it has a byte".
use Rattle.std.specs.Prelude.{ℕ, List, [], ◌∷◌, ◌++◌, eqb, length}
use Rattle.whole.specs.Choice.{pick}

abbrev pub line_end : ℕ
line_end = 10

-- the lines of an input, after the bytes of a line that has begun
abbrev pub lines_after : List ℕ → List ℕ → List (List ℕ)
lines_after begun [] = pick (eqb (length begun) 0) [] (begun ∷ [])
lines_after begun (b ∷ bs) = pick (eqb b line_end) (begun ∷ lines_after [] bs) (lines_after (begun ++ (b ∷ [])) bs)

abbrev pub lines_of : List ℕ → List (List ℕ)
lines_of input = lines_after [] input

-- the bytes before the first line end, or all of them
abbrev pub before_end : List ℕ → List ℕ
before_end [] = []
before_end (b ∷ bs) = pick (eqb b line_end) [] (b ∷ before_end bs)
