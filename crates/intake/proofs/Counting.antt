-- One line answered, or ignored where the most lines were answered. By the count. Assumes nothing.
use Prim.Native.Nat.{ℕ, ◌+◌, ◌≤◌, ◌<◌}
use mathlib.Core.Path.{◌≡◌, refl}
use mathlib.Core.List.{List, []}
use borrow.Author.Tests.{lt-ltb, le-ltb}
use Rattle.frame.specs.Frame.{reading_of}
use Rattle.book.specs.Book.{Book, reading_refusal, book_in}
use Rattle.intake.specs.Text.{verdict_text}
use Rattle.intake.specs.Answers.{counted_to, most_lines, answer_to, book_after}

module _ (book : Book) (line : List ℕ) where
  pub answered_none : most_lines ≤ book.count → (answer_to book line ≡ []) × (book_after book line ≡ book)
  unfolding answer_to book_after
  answered_none h = rw (le-ltb book.count most_lines h) (refl, refl)

  pub answered_one : book.count < most_lines
      → (answer_to book line ≡ verdict_text (book.count + 1) (reading_refusal book (reading_of line))) × (book_after book line ≡ counted_to (book.count + 1) (book_in book (reading_of line)))
  unfolding answer_to book_after
  answered_one h = rw (lt-ltb book.count most_lines h) (refl, refl)
