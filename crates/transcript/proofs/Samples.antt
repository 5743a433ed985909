-- What the definitions make of sample inputs, by computation. Assumes nothing.
use Prim.Native.Nat.{ℕ, ◌+◌, ◌*◌}
use Prim.Native.Char.{code}
use Prim.Native.String as text
use mathlib.Core.Path.{◌≡◌, refl}
use mathlib.Core.List.{List, [], ◌∷◌}
use lib.IntN.{ℤ, pos, negsuc}
use Rattle.whole.specs.Whole.{minus}
use Rattle.tokens.specs.Bytes.{separates, parts, is_letter, is_digit, digit_of}
use Rattle.words.specs.Words.{letter_of}
use Rattle.tokens.specs.Tokens.{word_with, size_with, numbered, lowered, begun, after, begins_word, size_number, below_number}
use Rattle.asked.specs.Asking.{start_state, named, asking, faulted, fault_in, with_token, stepped, begins, line_after, last_state, state_next}
use Rattle.transcript.specs.Questions.{Posed, numbers_with, numbers_stepped, last_question, questions}

abbrev bytes : text.String → List ℕ
bytes text.[] = []
bytes (text.◌∷◌ c cs) = code c ∷ bytes cs

-- a question without a fault, and one with
abbrev asks : ℕ → ℕ → List ℤ → Posed
asks word line numbers = record { word = word; line = line; numbers = numbers; fault = 0; place = 0 }

abbrev faults : ℕ → ℕ → List ℤ → ℕ → ℕ → Posed
faults word line numbers fault place = record { word = word; line = line; numbers = numbers; fault = fault; place = place }

-- the code of `fee`
abbrev fee : ℕ
fee = (6 * 32 + 5) * 32 + 5

abbrev questions_of : List text.String → List (List Posed)
questions_of [] = []
questions_of (t ∷ ts) = questions (bytes t) ∷ questions_of ts

-- two questions and a comment; no token; a number before any word, a word of 13 letters, one with a digit, and the first fault of two; the ends of
-- 64 bits, one past each, and what is no number
samples :
    questions_of
    ("fee 12,-7 # fee 3\n\n a_b\t007"
    ∷ " ,\n# fee 12"
    ∷ "\n12 fee\nabcdefghijklm 5\nfee1 fee 1-2 9223372036854775808"
    ∷ "fee 9223372036854775807 -9223372036854775808 -0\nfee 9223372036854775808\nfee -9223372036854775809\nfee --3 6.5"
    ∷ [])
    ≡ (asks fee 1 (pos 12 ∷ negsuc 6 ∷ []) ∷ asks ((1 * 32 + 27) * 32 + 2) 3 (pos 7 ∷ []) ∷ [])
    ∷ []
    ∷ (faults 0 2 (pos 12 ∷ []) 101 2 ∷ asks fee 2 [] ∷ faults 0 3 (pos 5 ∷ []) 101 3 ∷ faults 0 4 [] 101 4 ∷ faults fee 4 [] 105 4 ∷ [])
    ∷ (asks fee 1 (pos 9223372036854775807 ∷ minus 9223372036854775808 ∷ pos 0 ∷ [])
    ∷ faults fee 2 [] 102 2 ∷ faults fee 3 [] 102 3 ∷ faults fee 4 [] 105 4 ∷ [])
    ∷ []
unfolding questions last_question numbers_stepped numbers_with start_state named asking faulted fault_in with_token stepped begins begins_word size_number below_number line_after last_state state_next word_with size_with numbered lowered begun after separates parts is_letter letter_of is_digit digit_of
samples = refl
