-- Document 01, "Frames" and "Numbers that are turned away", and document 02, #101: what the program answers to a line, and what it keeps from line to line. Its ledger may stand on any two runs:
-- 1 is answered where they are not the ledger's.
use Rattle.std.specs.Prelude.{ℕ, Bool, true, not, ◌∷◌, Result, Ok, Err, eqb, ℤ}
use Rattle.std.proofs.Math.Option.{Option, none, some}
use Rattle.whole.specs.Choice.{pick, unless, in_order, kept}
use Rattle.units.specs.Refusals.{bad_kind, not_open, paper_number}
use Rattle.units.specs.declared.refusal.Refusal.{Refusal}
use Rattle.history.specs.Rules.{Call, post, replace, withdraw, loss_fee, close}
use Rattle.history.specs.Board.{Board, fresh}
use Rattle.history.specs.Inner.{open_tests, ruled_in, handed_in}
use Rattle.head.specs.Rules.{Fee, basic, excess, Item, amount_item, month_rules}
use Rattle.frame.specs.Kinds.{open_kind, post_kind, replace_kind, withdraw_kind, basic_fee_kind, close_kind, excess_fee_kind}
use Rattle.frame.specs.declared.Entry.{Entry}

-- how many lines were answered, whether a month was opened, its days, and its ledger
pub record Book : Type 0 where
  pub count : ℕ
  pub opened : Bool
  pub days : ℕ
  pub board : Board Fee Bool ℤ

-- ---- one frame

-- the ledger's call of a frame that is no open; a kind that is not named is no call
unfoldable pub call_of : Entry → Option (Call Fee Item)
call_of e =
    pick (eqb e.kind post_kind) (some (post e.day e.hour (amount_item e.amount.0)))
    (pick (eqb e.kind replace_kind) (some (replace e.day e.hour (amount_item e.amount.0)))
    (pick (eqb e.kind withdraw_kind) (some (withdraw e.day e.hour))
    (pick (eqb e.kind basic_fee_kind) (some (loss_fee basic e.amount.0))
    (pick (eqb e.kind excess_fee_kind) (some (loss_fee excess e.amount.0))
    (pick (eqb e.kind close_kind) (some close) none)))))

-- an open: 14 where it is the second, then 1 and 6
unfoldable pub open_refusal : Book → ℕ → ℕ
open_refusal book days = in_order ((not book.opened, not_open) ∷ open_tests (month_rules days) book.board)

unfoldable pub open_book : Book → ℕ → Book
open_book book days =
    kept (open_refusal book days) (record { count = book.count; opened = true; days = days; board = fresh (month_rules days) }) book

-- any other frame: 14 before a month is open, then the ledger's
unfoldable pub call_refusal : Book → Call Fee Item → ℕ
call_refusal book c = unless book.opened not_open (ruled_in (month_rules book.days) book.board c)

unfoldable pub call_book : Book → Call Fee Item → Book
call_book book c =
    pick book.opened
    (record { count = book.count; opened = book.opened; days = book.days; board = handed_in (month_rules book.days) book.board c }) book

-- a frame that is no call: 14, then 13. No line that is read comes to it (proofs/Asked.antt)
abbrev pub asked_refusal : Book → Option (Call Fee Item) → ℕ
asked_refusal book none = unless book.opened not_open bad_kind
asked_refusal book (some c) = call_refusal book c

abbrev pub asked_book : Book → Option (Call Fee Item) → Book
asked_book book none = book
asked_book book (some c) = call_book book c

unfoldable pub frame_refusal : Book → Entry → ℕ
frame_refusal book e = pick (eqb e.kind open_kind) (open_refusal book e.day) (asked_refusal book (call_of e))

unfoldable pub frame_book : Book → Entry → Book
frame_book book e = pick (eqb e.kind open_kind) (open_book book e.day) (asked_book book (call_of e))

-- ---- one line

-- "A line that doesn't read as a frame never reaches the ledger."
abbrev pub reading_refusal : Book → Result Entry Refusal → ℕ
reading_refusal book (Ok e) = frame_refusal book e
reading_refusal book (Err r) = paper_number r

abbrev pub book_in : Book → Result Entry Refusal → Book
book_in book (Ok e) = frame_book book e
book_in book (Err r) = book
