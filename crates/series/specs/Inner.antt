-- What only mirrors the code: an answer whose fields are put at the start of a lent run.
use Rattle.std.specs.Prelude.{List, ◌++◌, ℤ, length, drop}
use Rattle.words.specs.Replies.{Reply}
use Rattle.series.specs.declared.Ran.{Ran}

unfoldable pub ran_of : Reply → Ran
ran_of r = record { refusal = r.refusal; count = length r.fields }

unfoldable pub ran_left : Reply → List ℤ → List ℤ
ran_left r run = r.fields ++ drop (length r.fields) run
