-- What only mirrors the code: the lent run that a question's numbers go into, and the state that is carried through a chunk.
use Rattle.std.specs.Prelude.{ℕ, suc, Bool, true, false, List, [], ◌∷◌, eqb, ℤ, length, set}
use Rattle.whole.specs.Choice.{pick, kept}
use Rattle.units.specs.Refusals.{wrong_length}
use Rattle.tokens.specs.Bytes.{parts}
use Rattle.tokens.specs.Tokens.{token_number}
use Rattle.tokens.specs.declared.Token.{Token}
use Rattle.asked.specs.Asking.{most_numbers, nothing, token_fault, begins, stepped, last_state, state_next}
use Rattle.asked.specs.declared.State.{State}
use Rattle.asked.specs.declared.Reached.{Reached}

-- the run, with the token's number at the next place
unfoldable pub stored : ℕ → Token → List ℤ → List ℤ
stored count token run = kept (token_fault count token) (set run count (token_number token).value) run

unfoldable pub run_stepped : State → ℕ → List ℤ → List ℤ
run_stepped state b run = pick (parts b) (stored state.asked.count state.token run) run

-- ---- a chunk, up to the byte that begins the next question

abbrev pub taken_in : State → List ℕ → ℕ
taken_in state [] = 0
taken_in state (b ∷ bs) = pick (begins state b) 0 (suc (taken_in (stepped state b) bs))

abbrev pub state_in : State → List ℕ → State
state_in state [] = state
state_in state (b ∷ bs) = pick (begins state b) state (state_in (stepped state b) bs)

abbrev pub run_in : State → List ℕ → List ℤ → List ℤ
run_in state [] run = run
run_in state (b ∷ bs) run = pick (begins state b) run (run_in (stepped state b) bs (run_stepped state b run))

abbrev pub ended_in : State → List ℕ → Bool
ended_in state [] = false
ended_in state (b ∷ bs) = pick (begins state b) true (ended_in (stepped state b) bs)

-- a run of any other length is refused with 1, and then nothing is changed
abbrev pub is_run : List ℤ → Bool
is_run run = eqb (length run) most_numbers

abbrev pub refused : State → Reached
refused state = record { refusal = wrong_length; asked = nothing; state = state; taken = 0; ended = false }

-- what is handed back of a state that was reached: its question, and the state to go on with
unfoldable pub reached_of : State → ℕ → Bool → Reached
reached_of state taken ended =
    record { refusal = 0; asked = state.asked; state = pick ended (state_next state) state; taken = taken; ended = ended }

abbrev pub answer_in : State → List ℕ → Reached
answer_in state chunk = reached_of (state_in state chunk) (taken_in state chunk) (ended_in state chunk)

unfoldable pub read_of : State → List ℕ → List ℤ → Reached
read_of state chunk run = pick (is_run run) (answer_in state chunk) (refused state)

unfoldable pub read_run : State → List ℕ → List ℤ → List ℤ
read_run state chunk run = pick (is_run run) (run_in state chunk run) run

-- ---- the input's end: the token that has begun ends, and so does the question that is open

abbrev pub last_of : State → Reached
last_of state = reached_of (last_state state) 0 (last_state state).asked.opened

abbrev pub last_run : State → List ℤ → List ℤ
last_run state run = stored state.asked.count state.token run

unfoldable pub end_of : State → List ℤ → Reached
end_of state run = pick (is_run run) (last_of state) (refused state)

unfoldable pub end_run : State → List ℤ → List ℤ
end_run state run = pick (is_run run) (last_run state run) run
