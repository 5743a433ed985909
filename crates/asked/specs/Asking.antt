-- Desk rule, "Reading": what each byte does to the question that is read.
use Rattle.std.specs.Prelude.{ℕ, ◌+◌, min, Bool, true, false, ◌&&◌, eqb, ltb}
use Rattle.whole.specs.Choice.{pick, unless, or_else, kept}
use Rattle.words.specs.Faults.{not_question, too_many}
use Rattle.tokens.specs.Bytes.{line_byte, parts}
use Rattle.tokens.specs.Tokens.{no_word, grown, after, begins_word, token_number}
use Rattle.tokens.specs.declared.Token.{Token}
use Rattle.tokens.specs.declared.Token.TheVariants.{Between, Comment, Word, Sign, Number, Below, Other}
use Rattle.asked.specs.declared.Asked.{Asked}
use Rattle.asked.specs.declared.State.{State}

-- "A question holds at most 8,192 numbers"
abbrev pub most_numbers : ℕ
most_numbers = 8192

-- no question: no token was seen
abbrev pub nothing : Asked
nothing = record { opened = false; word = 0; line = 0; count = 0; fault = 0; place = 0 }

unfoldable pub start_state : State
start_state = record { asked = nothing; token = Between; line = 1 }

-- ---- a token ends

-- "A token whose first byte is a letter begins a question": its word, or fault 101
unfoldable pub named : ℕ → ℕ → ℕ → Asked
named count line code =
    pick (ltb code no_word)
    (record { opened = true; word = code; line = line; count = count; fault = 0; place = 0 })
    (record { opened = true; word = 0; line = line; count = count; fault = not_question; place = line })

-- "Any other token belongs to the question that is open. If none is open, it opens one that has fault 101 (at this token's line)."
unfoldable pub asking : Asked → ℕ → Asked
asking asked line = pick asked.opened asked (named asked.count line no_word)

-- "The first fault of a question counts, with the line of the token that has it."
unfoldable pub faulted : Asked → ℕ → ℕ → Asked
faulted asked fault line =
    pick (eqb asked.fault 0)
    (record { opened = asked.opened; word = asked.word; line = asked.line; count = asked.count; fault = fault; place = line })
    asked

-- a token's fault, or that its question has no room for one number more
unfoldable pub fault_in : ℕ → ℕ → ℕ
fault_in count fault = or_else fault (unless (ltb count most_numbers) too_many 0)

-- the token is no number, or too large, or finds no room
abbrev pub token_fault : ℕ → Token → ℕ
token_fault count token = fault_in count (token_number token).fault

abbrev pub one_more : Asked → Asked
one_more asked =
    record { opened = asked.opened; word = asked.word; line = asked.line; count = asked.count + 1; fault = asked.fault; place = asked.place }

unfoldable pub with_token : Asked → ℕ → Token → Asked
with_token asked line token =
    kept (token_fault asked.count token) (one_more (asking asked line)) (faulted (asking asked line) (token_fault asked.count token) line)

-- the question once the token has ended
abbrev pub finished : Asked → ℕ → Token → Asked
finished asked line Between = asked
finished asked line Comment = asked
finished asked line (Word code) = named asked.count line code
finished asked line Sign = with_token asked line Sign
finished asked line (Number size) = with_token asked line (Number size)
finished asked line (Below size) = with_token asked line (Below size)
finished asked line Other = with_token asked line Other

-- ---- a byte

-- "Lines are counted from 1": past the largest number of 64 bits the count stays
unfoldable pub line_after : ℕ → ℕ → ℕ
line_after line b = pick (eqb b line_byte) (min (line + 1) 18446744073709551615) line

-- "A question ends where the next question's word begins"
unfoldable pub begins : State → ℕ → Bool
begins state b = state.asked.opened && begins_word state.token b

unfoldable pub stepped : State → ℕ → State
stepped state b =
    pick (parts b)
    (record { asked = finished state.asked state.line state.token; token = after state.token b; line = line_after state.line b })
    (record { asked = state.asked; token = grown state.token b; line = state.line })

-- ---- the input's end, and the next question

unfoldable pub last_state : State → State
last_state state = record { asked = finished state.asked state.line state.token; token = Between; line = state.line }

-- once a question has ended: the same line, nothing asked
unfoldable pub state_next : State → State
state_next state = record { asked = nothing; token = state.token; line = state.line }
