-- The line of `dreg_frame`, `edreg_frame` and `sreg_frame`: the post of the hour that was asked; the two lines of `loss_frames`: the settings of the two fees; and `desk | ledger`: what the ledger's
-- program answers to those lines.
use Rattle.std.specs.Prelude.{ℕ, ◌≡◌, true, List, ◌++◌, Ok, ℤ, pos, drop}
use Rattle.history.specs.Rules.{Call}
use Rattle.head.specs.Rules.{Fee, basic, excess, loss_fee_refusal}
use Rattle.frame.specs.Kinds.{post_kind, basic_fee_kind, excess_fee_kind}
use Rattle.frame.specs.Frame.{reading_of, line_of}
use Rattle.frame.specs.declared.Entry.{Entry}
use Rattle.book.specs.Book.{Book, call_refusal, call_book, reading_refusal, book_in}
use Rattle.numbers.specs.Numbers.{number}
use Rattle.words.specs.declared.Hour as words
use Rattle.numbers.specs.declared.Places.{Places}
use Rattle.hours.specs.Hours.{Basis, hour_asked, settlement}
use Rattle.loss.specs.declared.LossFee.{LossFee}
use Rattle.frames.specs.Frames.{hour_post, fee_entry, loss_frames}
use Rattle.frames.specs.declared.Framed.{Framed}
use Rattle.question.specs.Parts.{head_of, given_in}
use Rattle.frame_lines.specs.Text.{entry_text, frame_text}

-- DAY HOUR, then an hour, its terms after them; and the frame that posts its amount
abbrev pub hour_framed : words.Hour → List ℤ → Places → Basis
hour_framed asks n places = hour_asked asks (given_in (head_of (drop 2 n)) n places)

abbrev pub hour_frame : words.Hour → List ℤ → Places → Framed
hour_frame asks n places = hour_post asks (head_of n) (given_in (head_of (drop 2 n)) n places)

-- a post of an hour
abbrev pub posting : ℕ → ℕ → Basis → Entry
posting day hour h = record { kind = post_kind; day = day; hour = hour; amount = (settlement h).amount }

-- the line posts the hour that was asked, and reads back as that post
pub record Posts (asks : words.Hour) (n : List ℤ) (places : Places) (day hour : ℕ) : Type 0 where
  pub accepted : (settlement (hour_framed asks n places)).refusal ≡ 0
  pub day_asked : pos day ≡ number n 0
  pub hour_asked_lem : pos hour ≡ number n 1
  pub text : frame_text (hour_frame asks n places) ≡ entry_text (posting day hour (hour_framed asks n places))
  pub reads : reading_of (line_of (posting day hour (hour_framed asks n places))) ≡ Ok (posting day hour (hour_framed asks n places))

-- ---- `desk | ledger`

-- what the ledger's program answers to it, and keeps
pub record Piped (asks : words.Hour) (n : List ℤ) (places : Places) (book : Book) (day hour : ℕ) : Type 0 where
  pub posted : Posts asks n places day hour
  pub answered : reading_refusal book (reading_of (line_of (posting day hour (hour_framed asks n places))))
      ≡ call_refusal book (Call.post day hour (true, (settlement (hour_framed asks n places)).amount.0))
  pub kept : book_in book (reading_of (line_of (posting day hour (hour_framed asks n places))))
      ≡ call_book book (Call.post day hour (true, (settlement (hour_framed asks n places)).amount.0))

-- ---- the loss fees (document 02, #101)

-- the entries that set the two fees of a loss
abbrev pub basic_set : LossFee → Entry
basic_set l = fee_entry basic_fee_kind l.basic

abbrev pub excess_set : LossFee → Entry
excess_set l = fee_entry excess_fee_kind l.excess

-- an entry's line sets a fee to an amount: it reads back, the amount is in the ledger's range, and the ledger's program answers it and keeps its book as for that setting by hand
pub record SetsFee (entry : Entry) (f : Fee) (z : ℤ) (book : Book) : Type 0 where
  pub reads : reading_of (line_of entry) ≡ Ok entry
  pub fits : loss_fee_refusal z ≡ 0
  pub answered : reading_refusal book (reading_of (line_of entry)) ≡ call_refusal book (Call.loss_fee f z)
  pub kept : book_in book (reading_of (line_of entry)) ≡ call_book book (Call.loss_fee f z)

-- the two lines of `loss_frames` by the loss that was asked, the second on the book that the first left
pub record SetsFees (n : List ℤ) (l : LossFee) (book : Book) : Type 0 where
  pub text : frame_text (loss_frames (head_of n)) ≡ entry_text (basic_set l) ++ entry_text (excess_set l)
  pub basic_set_lem : SetsFee (basic_set l) basic l.basic.0 book
  pub excess_set_lem : SetsFee (excess_set l) excess l.excess.0 (book_in book (reading_of (line_of (basic_set l))))
