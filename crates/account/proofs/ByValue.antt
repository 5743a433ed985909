-- What the program answers to a call and keeps of it is what the ledger's call by value answers and hands back, 22 first. By the laws of a board in form. Assumes nothing.
use mathlib.Core.Path.{◌≡◌, sym, ap, ◌∙◌}
use mathlib.Core.Bool.{Bool, true}
use lib.IntN.{ℤ}
use Rattle.units.specs.Refusals.{told_number}
use Rattle.history.specs.Rules.{Call}
use Rattle.history.specs.Board.{Board, well_formed, refusal_of, next_of}
use Rattle.history.proofs.Board.{good_well, good_refusal, good_left}
use Rattle.head.specs.Rules.{Fee, Item, month_rules}
use Rattle.head.specs.Inner.{standing_after}
use Rattle.head.proofs.Sound.{month_sound}
use Rattle.month.specs.Month.{board_of, month_of, month_answer}
use Rattle.month.proofs.Core.{board_all, answer_number, answer_left}
use Rattle.book.specs.Book.{Book, call_refusal, call_book}
use Rattle.intake.specs.Inner.{book_refusal}
use Rattle.intake.proofs.Kept.{book_days, book_good}

module _ (book : Book) (c : Call Fee Item) (k : book_refusal book ≡ 0) (o : book.opened ≡ true) where
  well : well_formed (month_rules book.days) book.board ≡ true
  well = good_well (month_rules book.days) (month_sound book.days (book_days book k o)) book.board (book_good book k o)

  answered_on : call_refusal book c ≡ refusal_of (month_rules book.days) book.board c
  unfolding call_refusal refusal_of
  answered_on = rw (o, well) (good_refusal (month_rules book.days) (month_sound book.days (book_days book k o)) book.board (book_good book k o) c)

  handed_on : (call_book book c).board ≡ next_of (month_rules book.days) book.board c
  unfolding call_book next_of
  handed_on = rw (o, well) (good_left (month_rules book.days) (month_sound book.days (book_days book k o)) book.board (book_good book k o) c)

  -- the month by value has the book's board
  same_board : book.board ≡ board_of (month_of book.days book.board)
  same_board = sym (board_all book.days book.board)

  pub answered_by_value : call_refusal book c ≡ told_number (month_answer (month_of book.days book.board) c)
  answered_by_value = answered_on ∙ ap (λ (b : Board Fee Bool ℤ). refusal_of (month_rules book.days) b c) same_board ∙ sym (answer_number (month_of book.days book.board) c)

  pub handed_by_value : (call_book book c).board ≡ board_of (standing_after (month_of book.days book.board) (month_answer (month_of book.days book.board) c))
  handed_by_value =
      handed_on ∙ ap (λ (b : Board Fee Bool ℤ). next_of (month_rules book.days) b c) same_board ∙ sym (answer_left (month_of book.days book.board) c).1
