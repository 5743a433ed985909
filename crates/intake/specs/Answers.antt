-- Document 01, "Frames": what the program answers to all lines of an input, and the month total at its end.
use Rattle.std.specs.Prelude.{ℕ, ◌+◌, false, List, [], ◌∷◌, ◌++◌, ltb, ℤ, pos}
use Rattle.whole.specs.Choice.{pick}
use Rattle.history.specs.Board.{fresh, total_on}
use Rattle.head.specs.Rules.{month_rules}
use Rattle.frame.specs.Frame.{reading_of}
use Rattle.book.specs.Book.{Book, reading_refusal, book_in}
use Rattle.lines.specs.Lines.{lines_of}
use Rattle.intake.specs.Text.{verdict_text, total_text}

-- no line answered, no month opened
abbrev pub first_book : Book
first_book = record { count = 0; opened = false; days = 0; board = fresh (month_rules 0) }

-- "It reads at most 1,000,000 lines and ignores the rest."
abbrev pub most_lines : ℕ
most_lines = 1000000

-- ---- one line

abbrev pub counted_to : ℕ → Book → Book
counted_to n book = record { count = n; opened = book.opened; days = book.days; board = book.board }

unfoldable pub answer_to : Book → List ℕ → List ℕ
answer_to book line = pick (ltb book.count most_lines) (verdict_text (book.count + 1) (reading_refusal book (reading_of line))) []

unfoldable pub book_after : Book → List ℕ → Book
book_after book line = pick (ltb book.count most_lines) (counted_to (book.count + 1) (book_in book (reading_of line))) book

-- ---- all lines

abbrev pub answers_to : Book → List (List ℕ) → List ℕ
answers_to book [] = []
answers_to book (l ∷ ls) = answer_to book l ++ answers_to (book_after book l) ls

abbrev pub book_after_all : Book → List (List ℕ) → Book
book_after_all book [] = book
book_after_all book (l ∷ ls) = book_after_all (book_after book l) ls

-- "the month total, 0 if no month was opened"
unfoldable pub book_total : Book → ℤ
book_total book = pick book.opened (total_on (month_rules book.days) book.board) (pos 0)

-- the whole output of the whole input
unfoldable pub ledger_transcript : List ℕ → List ℕ
ledger_transcript input = answers_to first_book (lines_of input) ++ total_text (book_total (book_after_all first_book (lines_of input)))
