-- What only mirrors the code: a frame's line as it is made, and one or two of them as they are put.
use Rattle.std.specs.Prelude.{ℕ, List, ◌++◌, replicate}
use Rattle.whole.specs.Choice.{or_else, kept}
use Rattle.frame.specs.Frame.{line_digits, write_refusal, written}
use Rattle.frame.specs.declared.Entry.{Entry}
use Rattle.text.specs.Text.{end_of_line}
use Rattle.frame_lines.specs.Text.{alone_text}
use Rattle.frame_lines.specs.declared.Lined.{Lined}

-- the writer's number and the line, which is only line ends where it is refused
unfoldable pub lined_of : Entry → Lined
lined_of entry = record { refusal = write_refusal entry line_digits; bytes = written entry (replicate line_digits 10) ++ end_of_line }

-- one line, or two, or the number of a refusal alone
abbrev pub one_text : ℕ → List ℕ → List ℕ
one_text k bytes = kept k bytes (alone_text k)

abbrev pub two_text : ℕ → List ℕ → Lined → List ℕ
two_text k bytes second = let n = or_else k second.refusal in kept n (bytes ++ second.bytes) (alone_text n)
