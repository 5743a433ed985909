-- What only mirrors the code: the run that an answer is put into.
use Rattle.std.specs.Prelude.{ℕ, ◌*◌, List, leb, length}
use Rattle.whole.specs.Choice.{pick}
use Rattle.units.specs.Refusals.{wrong_length}
use Rattle.units.specs.Limits.{seconds_of_quarter}
use Rattle.text.specs.Text.{put}
use Rattle.question.specs.declared.Answered.{Answered}

-- an answer in a lent run, which has 32,768 places at least or is refused with 1

abbrev pub room : ℕ
room = 32768

unfoldable pub answered : ℕ → List ℕ → Answered
answered places text = pick (leb room places) (record { refusal = 0; written = length text }) (record { refusal = wrong_length; written = 0 })

unfoldable pub printed : List ℕ → List ℕ → List ℕ
printed out text = pick (leb room (length out)) (put out 0 text) out

-- the most places of a line's fields: those of a quarter's powers, 22 each; an hour's scores take fewer
abbrev pub most_fields : ℕ
most_fields = 22 * seconds_of_quarter
