-- The program's state as it is kept, and no rule of the papers: a line that has begun, up to 25 bytes of it, and a book whose places are two lent runs. An input comes in
-- chunks of any size.
use Rattle.std.specs.Prelude.{ℕ, ◌+◌, ◌/◌, Bool, false, List, [], ◌∷◌, ◌++◌, ltb, leb, eqb, ℤ, length, take, set, replicate}
use Rattle.whole.specs.Choice.{pick, unless, in_order, kept}
use Rattle.units.specs.Refusals.{wrong_length}
use Rattle.history.specs.Inner.{runs_fit, ledger_refusal}
use Rattle.head.specs.Rules.{month_rules}
use Rattle.head.specs.Inner.{fresh_head}
use Rattle.text.specs.Text.{put}
use Rattle.book.specs.Book.{Book}
use Rattle.book.specs.Inner.{book_of, cover_of}
use Rattle.lines.specs.Lines.{line_end}
use Rattle.intake.specs.Text.{total_text}
use Rattle.intake.specs.Answers.{answers_to, book_after_all, book_total}
use Rattle.intake.specs.declared.Line.{Line}
use Rattle.intake.specs.declared.Progress.{Progress}
use Rattle.intake.specs.declared.Fed.{Fed}
use Rattle.intake.specs.declared.Finished.{Finished}

-- ---- a line that has begun: no frame is longer than 24 bytes, so what is cut off past 25 decides nothing

unfoldable pub held_in : Line → List ℕ
held_in line = take line.len line.bytes

unfoldable pub empty_line : Line
empty_line = record { bytes = replicate 25 0; len = 0 }

unfoldable pub pushed : Line → ℕ → Line
pushed line b = pick (ltb line.len 25) (record { bytes = set line.bytes line.len b; len = line.len + 1 }) line

abbrev pub kept_in : Line → List ℕ → Line
kept_in line [] = line
kept_in line (b ∷ bs) = kept_in (pushed line b) bs

-- the lines that end in a chunk, and the line that it leaves begun
abbrev pub lines_in : Line → List ℕ → List (List ℕ)
lines_in line [] = []
lines_in line (b ∷ bs) = pick (eqb b line_end) (held_in line ∷ lines_in empty_line bs) (lines_in (pushed line b) bs)

abbrev pub left_in : Line → List ℕ → Line
left_in line [] = line
left_in line (b ∷ bs) = pick (eqb b line_end) (left_in empty_line bs) (left_in (pushed line b) bs)

-- the line at the input's end, if it has a byte
unfoldable pub last_in : Line → List (List ℕ)
last_in line = pick (eqb line.len 0) [] (held_in line ∷ [])

-- ---- the first state

unfoldable pub first_progress : Progress
first_progress = record { cover = record { count = 0; opened = false; head = fresh_head 0 }; line = empty_line }

-- ---- what is handed in: 1 for a run that is not the ledger's, 22 for an opened ledger that no run of calls hands back

abbrev pub book_refusal : Book → ℕ
book_refusal book =
    let R = month_rules book.days in
    pick book.opened (ledger_refusal R book.board) (in_order ((runs_fit R book.board, wrong_length) ∷ []))

-- ---- a chunk

-- room for twelve bytes of answer for each byte: 1; then what the state shows
unfoldable pub feed_refusal : Book → ℕ → ℕ → ℕ
feed_refusal book chunk out = unless (leb chunk (out / 12)) wrong_length (book_refusal book)

module _ (state : Progress) (chunk : List ℕ) (marks : List Bool) (amounts : List ℤ) where
  abbrev pub chunk_text : List ℕ
  chunk_text = answers_to (book_of state.cover marks amounts) (lines_in state.line chunk)

  abbrev pub chunk_book : Book
  chunk_book = book_after_all (book_of state.cover marks amounts) (lines_in state.line chunk)

  abbrev pub chunk_state : Progress
  chunk_state = record { cover = cover_of chunk_book; line = left_in state.line chunk }

  module _ (out : List ℕ) where
    abbrev pub fed_number : ℕ
    fed_number = feed_refusal (book_of state.cover marks amounts) (length chunk) (length out)

    -- the answer and what is left in the runs; a refusal changes nothing
    unfoldable pub fed_of : Fed
    fed_of =
        kept fed_number
        (record { refusal = 0; state = chunk_state; written = length chunk_text })
        (record { refusal = fed_number; state = state; written = 0 })

    unfoldable pub fed_marks : List Bool
    fed_marks = kept fed_number chunk_book.board.marks marks

    unfoldable pub fed_amounts : List ℤ
    fed_amounts = kept fed_number chunk_book.board.amounts amounts

    unfoldable pub fed_out : List ℕ
    fed_out = kept fed_number (put out 0 chunk_text) out

-- ---- the input's end

-- room for an answer and the total: 1; then what the state shows
unfoldable pub end_refusal : Book → ℕ → ℕ
end_refusal book out = unless (leb 40 out) wrong_length (book_refusal book)

module _ (state : Progress) (marks : List Bool) (amounts : List ℤ) where
  abbrev pub last_book : Book
  last_book = book_after_all (book_of state.cover marks amounts) (last_in state.line)

  abbrev pub last_answer : List ℕ
  last_answer = answers_to (book_of state.cover marks amounts) (last_in state.line)

  abbrev pub last_text : List ℕ
  last_text = last_answer ++ total_text (book_total last_book)

  module _ (out : List ℕ) where
    abbrev pub end_number : ℕ
    end_number = end_refusal (book_of state.cover marks amounts) (length out)

    unfoldable pub finished_of : Finished
    finished_of = kept end_number (record { refusal = 0; written = length last_text }) (record { refusal = end_number; written = 0 })

    unfoldable pub end_marks : List Bool
    end_marks = kept end_number last_book.board.marks marks

    unfoldable pub end_amounts : List ℤ
    end_amounts = kept end_number last_book.board.amounts amounts

    unfoldable pub end_out : List ℕ
    end_out = kept end_number (put out 0 last_text) out
