-- What the code keeps and works with, and no rule of the papers: a cover is a book without its places, which are two lent runs; the steps of one line by their kinds.
use Rattle.std.specs.Prelude.{ℕ, Bool, true, List, eqb, Result, Ok, Err, ℤ}
use Rattle.std.proofs.Math.Option.{Option, none, some}
use Rattle.whole.specs.Choice.{pick}
use Rattle.units.specs.Refusals.{wrong_length, bad_kind, paper_number, told_number}
use Rattle.units.specs.declared.refusal.Refusal.{Refusal}
use Rattle.units.specs.Units.{dollars}
use Rattle.history.specs.Rules.{Call, post, replace, withdraw, loss_fee, close}
use Rattle.history.specs.Board.{Board}
use Rattle.history.specs.Inner.{ruled_in, handed_in}
use Rattle.head.specs.Rules.{Fee, basic, excess, Item, amount_item, month_rules}
use Rattle.head.specs.Inner.{board_in, headed_of, standing_after}
use Rattle.head.specs.declared.Head.{Head}
use Rattle.frame.specs.Kinds.{post_kind, replace_kind, withdraw_kind, basic_fee_kind, close_kind, excess_fee_kind}
use Rattle.frame.specs.declared.Entry.{Entry}
use Rattle.book.specs.Book.{Book}
use Rattle.book.specs.declared.Cover.{Cover}
use Rattle.book.specs.declared.Taken.{Taken}

-- ---- the book of a cover and its two runs, and back

abbrev pub book_of : Cover → List Bool → List ℤ → Book
book_of cover marks amounts = record { count = cover.count; opened = cover.opened; days = cover.head.days; board = board_in cover.head marks amounts }

abbrev pub cover_of : Book → Cover
cover_of book =
    record {
      count = book.count;
      opened = book.opened;
      head = record { days = book.days; closed = book.board.closed; basic = dollars (book.board.fee basic); excess = dollars (book.board.fee excess) };
    }

-- ---- the steps of one line

-- a call that touches a place; any other kind is no such call
abbrev pub place_call : Entry → Option (Call Fee Item)
place_call e =
    pick (eqb e.kind post_kind) (some (post e.day e.hour (amount_item e.amount.0)))
    (pick (eqb e.kind replace_kind) (some (replace e.day e.hour (amount_item e.amount.0)))
    (pick (eqb e.kind withdraw_kind) (some (withdraw e.day e.hour)) none))

-- what it answers, 13 for no call, and the board that it leaves
abbrev pub place_number : ℕ → Board Fee Bool ℤ → Option (Call Fee Item) → ℕ
place_number days b none = bad_kind
place_number days b (some c) = ruled_in (month_rules days) b c

abbrev pub place_left : ℕ → Board Fee Bool ℤ → Option (Call Fee Item) → Board Fee Bool ℤ
place_left days b none = b
place_left days b (some c) = handed_in (month_rules days) b c

-- a call that touches none
abbrev pub head_call : ℕ → ℤ → Option (Call Fee Item)
head_call kind amount =
    pick (eqb kind basic_fee_kind) (some (loss_fee basic amount))
    (pick (eqb kind excess_fee_kind) (some (loss_fee excess amount))
    (pick (eqb kind close_kind) (some close) none))

-- a refusal, and the cover as it was; and a head's answer in the cover's place
abbrev pub turned : ℕ → Cover → Taken
turned k cover = record { refusal = k; cover = cover }

abbrev pub with_head : Cover → Result Head Refusal → Taken
with_head cover headed = record { refusal = told_number headed; cover = record { count = cover.count; opened = cover.opened; head = standing_after cover.head headed } }

-- what an open comes to, by the head's answer
abbrev pub open_taken : Cover → Result Head Refusal → Taken
open_taken cover (Ok head) = record { refusal = 0; cover = record { count = cover.count; opened = true; head = head } }
open_taken cover (Err r) = turned (paper_number r) cover

-- a head's answer: 1 where the runs are not the ledger's; and 13 for no call
abbrev pub on_head : Cover → Bool → Result Head Refusal → Taken
on_head cover runs headed = pick runs (with_head cover headed) (turned wrong_length cover)

abbrev pub head_taken : Cover → Bool → Option (Call Fee Item) → Taken
head_taken cover runs none = turned bad_kind cover
head_taken cover runs (some c) = on_head cover runs (headed_of cover.head c)
