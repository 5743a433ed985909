-- Desk rule, "Reading": the questions of a whole input, by the same steps, the numbers of each in a list of their own.
use Rattle.std.specs.Prelude.{ℕ, List, [], ◌∷◌, ◌++◌, ℤ, take}
use Rattle.whole.specs.Choice.{pick, kept}
use Rattle.tokens.specs.Bytes.{parts}
use Rattle.tokens.specs.Tokens.{token_number}
use Rattle.asked.specs.Asking.{start_state, token_fault, begins, stepped, last_state, state_next}
use Rattle.tokens.specs.declared.Token.{Token}
use Rattle.asked.specs.declared.Asked.{Asked}
use Rattle.asked.specs.declared.State.{State}

-- a question that has ended: its word and line, its numbers, its first fault with its line
pub record Posed : Type 0 where
  pub word : ℕ
  pub line : ℕ
  pub numbers : List ℤ
  pub fault : ℕ
  pub place : ℕ

abbrev pub posed_of : Asked → List ℤ → Posed
posed_of asked numbers = record { word = asked.word; line = asked.line; numbers = numbers; fault = asked.fault; place = asked.place }

-- the numbers that a state and its run stand for
abbrev pub numbers_in : State → List ℤ → List ℤ
numbers_in state run = take state.asked.count run

-- the numbers with the one that the token is, if it is one and finds room
unfoldable pub numbers_with : ℕ → Token → List ℤ → List ℤ
numbers_with count token numbers = kept (token_fault count token) (numbers ++ ((token_number token).value ∷ [])) numbers

unfoldable pub numbers_stepped : State → ℕ → List ℤ → List ℤ
numbers_stepped state b numbers = pick (parts b) (numbers_with state.asked.count state.token numbers) numbers

-- what is left to ask at the input's end
unfoldable pub last_question : State → List ℤ → List Posed
last_question state numbers =
    pick (last_state state).asked.opened (posed_of (last_state state).asked (numbers_with state.asked.count state.token numbers) ∷ []) []

-- the questions from a state on, its numbers so far given (`let`: the rest is not computed where no question ends)
abbrev pub questions_from : State → List ℤ → List ℕ → List Posed
questions_from state numbers [] = last_question state numbers
questions_from state numbers (b ∷ bs) =
    pick (begins state b)
    (let rest = questions_from (stepped (state_next state) b) [] bs in posed_of state.asked numbers ∷ rest)
    (questions_from (stepped state b) (numbers_stepped state b numbers) bs)

unfoldable pub questions : List ℕ → List Posed
questions input = questions_from start_state [] input
