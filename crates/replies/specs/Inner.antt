-- What only mirrors the code: a chunk of the input, or its end, with the lent run that a question's numbers go into and the one that its reply is put into.
-- What the chunks of an input and its end come to together is said in transcript.
use Rattle.std.specs.Prelude.{ℕ, Bool, ◌&&◌, List, [], eqb, leb, ℤ, length, take}
use Rattle.whole.specs.Choice.{pick}
use Rattle.units.specs.Refusals.{wrong_length}
use Rattle.text.specs.Text.{put}
use Rattle.asked.specs.Asking.{most_numbers}
use Rattle.asked.specs.Inner.{answer_in, run_in, last_of, last_run}
use Rattle.asked.specs.declared.Asked.{Asked}
use Rattle.asked.specs.declared.State.{State}
use Rattle.asked.specs.declared.Reached.{Reached}
use Rattle.question.specs.Inner.{room}
use Rattle.question.specs.Questions.{reply_text}
use Rattle.replies.specs.declared.Replied.{Replied}

-- the reply to a question, its numbers the first of the run
unfoldable pub reply_of : Asked → List ℤ → List ℕ
reply_of asked run = reply_text asked.word asked.line asked.fault asked.place (take asked.count run)

unfoldable pub tell_text : Bool → Asked → List ℤ → List ℕ
tell_text ended asked run = pick ended (reply_of asked run) []

-- what is said where the reading came to this, and what is answered
unfoldable pub reached_text : Reached → List ℤ → List ℕ
reached_text reached run = tell_text reached.ended reached.asked run

unfoldable pub replied_to : Reached → List ℤ → Replied
replied_to reached run = record { refusal = 0; state = reached.state; taken = reached.taken; written = length (reached_text reached run) }

-- the lent runs: 8,192 numbers, and room for an answer; any other is refused with 1, and nothing is changed
unfoldable pub runs_fit_in : ℕ → ℕ → Bool
runs_fit_in numbers out = eqb numbers most_numbers && leb room out

abbrev pub unreplied : State → Replied
unreplied state = record { refusal = wrong_length; state = state; taken = 0; written = 0 }

-- ---- a chunk: what is answered, and what is left in the runs

unfoldable pub replied_of : State → List ℕ → List ℤ → List ℕ → Replied
replied_of state chunk run out =
    pick (runs_fit_in (length run) (length out)) (replied_to (answer_in state chunk) (run_in state chunk run)) (unreplied state)

unfoldable pub replied_run : State → List ℕ → List ℤ → List ℕ → List ℤ
replied_run state chunk run out = pick (runs_fit_in (length run) (length out)) (run_in state chunk run) run

unfoldable pub replied_out : State → List ℕ → List ℤ → List ℕ → List ℕ
replied_out state chunk run out =
    pick (runs_fit_in (length run) (length out)) (put out 0 (reached_text (answer_in state chunk) (run_in state chunk run))) out

-- ---- the input's end: the same

unfoldable pub last_replied : State → List ℤ → List ℕ → Replied
last_replied state run out =
    pick (runs_fit_in (length run) (length out)) (replied_to (last_of state) (last_run state run)) (unreplied state)

unfoldable pub last_replied_run : State → List ℤ → List ℕ → List ℤ
last_replied_run state run out = pick (runs_fit_in (length run) (length out)) (last_run state run) run

unfoldable pub last_replied_out : State → List ℤ → List ℕ → List ℕ
last_replied_out state run out =
    pick (runs_fit_in (length run) (length out)) (put out 0 (reached_text (last_of state) (last_run state run))) out
