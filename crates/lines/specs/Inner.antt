-- What only mirrors the code: the line ends of bytes, whether a line is begun at their end, and whether no byte is a line end.
use Rattle.std.specs.Prelude.{ℕ, ◌+◌, ◌-◌, Bool, true, false, not, ◌&&◌, List, [], ◌∷◌, eqb, length, get_or}
use Rattle.whole.specs.Choice.{pick}
use Rattle.lines.specs.Lines.{line_end}

abbrev pub ends_of : List ℕ → ℕ
ends_of [] = 0
ends_of (b ∷ bs) = pick (eqb b line_end) 1 0 + ends_of bs

abbrev pub is_begun : List ℕ → Bool
is_begun bs = pick (eqb (length bs) 0) false (not (eqb (get_or bs (length bs - 1) 0) line_end))

abbrev pub no_end : List ℕ → Bool
no_end [] = true
no_end (b ∷ bs) = not (eqb b line_end) && no_end bs
