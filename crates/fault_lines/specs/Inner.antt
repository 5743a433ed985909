-- What only mirrors the code: the run that a line is spelled in.
use Rattle.std.specs.Prelude.{ℕ}

-- room for any of these lines
abbrev pub most_bytes : ℕ
most_bytes = 64
