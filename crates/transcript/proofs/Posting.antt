-- A frame that `dreg_frame` or `edreg_frame` prints posts the hour that was asked: the hour is accepted, its day and its place in the day are the numbers
-- that were asked for, and the line reads back as the post of its amount. The two frames that `loss_frames` prints set the fees of the loss that was asked. By the frame's round
-- trip. Assumes nothing.
use Prim.Native.Nat.{ℕ, ◌<◌}
use mathlib.Core.Path.{◌≡◌, refl, ap, ◌∙◌}
use mathlib.Core.Bool.{true, false, ◌&&◌}
use mathlib.Core.List.{List, ◌++◌}
use mathlib.Core.Option.{some}
use native.Mathlib.Omega.{arith}
use lib.Dec.{eqb}
use lib.IntN.{ℤ, pos, negsuc}
use mir.Syntax.{w64}
use mir.Val.{SFits}
use Rattle.whole.specs.Whole.{in_range}
use Rattle.whole.proofs.Choice.{by_test, and_both, passed, both_passed, kept_new}
use Rattle.whole.proofs.Signed.{inside, within_fits}
use Rattle.whole.proofs.Sums.{in_within_below}
use Rattle.frame.specs.Kinds.{open_kind, post_kind, basic_fee_kind, excess_fee_kind}
use Rattle.frame.specs.Frame.{in_form, reading_of, line_of, write_refusal}
use Rattle.frame.specs.declared.Entry.{Entry}
use Rattle.std.specs.Prelude.{Ok}
use Rattle.history.specs.Rules.{Call}
use Rattle.head.specs.Rules.{Fee, basic, excess}
use Rattle.book.specs.Book as book
use Rattle.book.specs.Book.{Book, call_of, frame_book, reading_refusal, book_in}
use Rattle.frame.proofs.RoundTrip.{read_written}
use borrow.Author.Rules.{rules}
use Rattle.units.specs.Limits.{seconds_of_hour, most_loss_fee, is_loss_fee}
use Rattle.hour.specs.Hour.{refused_hour}
use Rattle.numbers.specs.Numbers.{number, is_byte, byte_of}
use Rattle.words.specs.declared.Hour as words
use Rattle.numbers.specs.declared.Places.{Places}
use Rattle.hours.specs.Hours.{Basis, settled_by, settlement}
use Rattle.hours.proofs.HourLaws.{amount_by}
use Rattle.units.specs.declared.Dollars.{Dollars}
use Rattle.loss.proofs.Laws.{loss_posts}
use Rattle.frames.specs.Frames.{framed_by, hour_post, fee_entry, loss_asked, fee_frames, loss_frames}
use Rattle.std.specs.Prelude.{Ok}
use Rattle.loss.specs.declared.LossFee.{LossFee}
use Rattle.question.specs.Parts.{head_of}
use Rattle.transcript.specs.Posts.{hour_framed, hour_frame, posting, Posts, Piped, basic_set, SetsFee, SetsFees}
use Rattle.frame_lines.specs.Text.{entry_text, framed_refusal, frame_text}

-- a number that is a byte, as a byte
byte_is : (z : ℤ) → is_byte z ≡ true → pos (byte_of z) ≡ z
unfolding byte_of
byte_is (pos n) e = rw e
byte_is (negsuc n) e = let b = inside e in absurd (omega arith)

byte_below : (z : ℤ) → byte_of z < 256
unfolding byte_of
byte_below (pos n) =
    by_test (is_byte (pos n)) (λ (t : is_byte (pos n) ≡ true). let b = inside t in rw t (omega arith)) (λ (t : is_byte (pos n) ≡ false). rw t (omega arith))
byte_below (negsuc n) =
    by_test (is_byte (negsuc n)) (λ (t : is_byte (negsuc n) ≡ true). rw t (omega arith)) (λ (t : is_byte (negsuc n) ≡ false). rw t (omega arith))

amount_fits : (h : Basis) → SFits w64 (settlement h).amount.0
unfolding settled_by refused_hour
amount_fits h =
    by_test h.fits
    (λ (t : h.fits ≡ true). rw t (within_fits w64 tt (amount_by h.asked h.state h.hour seconds_of_hour)))
    (λ (t : h.fits ≡ false). rw t (search rules))

entry_is : (asks : words.Hour) (n : List ℤ) (places : Places) → (hour_frame asks n places).refusal ≡ 0 → (hour_frame asks n places).entry ≡ posting (byte_of (number n 0)) (byte_of (number n 1)) (hour_framed asks n places)
unfolding hour_post framed_by head_of byte_of in_range
entry_is asks n places k = kept_new _ _ k

reads_back : (z x : ℤ) (h : Basis) → let e = posting (byte_of z) (byte_of x) h in reading_of (line_of e) ≡ Ok e
unfolding in_form
reads_back z x h =
    read_written (posting (byte_of z) (byte_of x) h) (record { kind = omega arith; day = byte_below z; hour = byte_below x; amount = amount_fits h }) refl

pub posts : (asks : words.Hour) (n : List ℤ) (places : Places) → framed_refusal (hour_frame asks n places) ≡ 0 → Posts asks n places (byte_of (number n 0)) (byte_of (number n 1))
unfolding hour_post framed_by head_of frame_text
posts asks n places z =
    let h = hour_framed asks n places in
    let day = number n 0 in
    let hour = number n 1 in
    let k = (both_passed _ (write_refusal (hour_frame asks n places).entry 24) z).0 in
    let p = both_passed (settlement h).refusal _ k in
    let b = and_both (is_byte day) (is_byte hour) (passed (is_byte day && is_byte hour) 5 0 (passed (is_byte (pos post_kind)) 12 _ p.1).1).0 in
    record {
      accepted = p.0;
      day_asked = byte_is day b.0;
      hour_asked_lem = byte_is hour b.1;
      text = kept_new _ _ z ∙ ap entry_text (entry_is asks n places k);
      reads = reads_back day hour h;
    }

-- `desk | ledger`: the line is answered as the post by hand of the amount that the hour comes to, and leaves the book that this post leaves
pub books_the_hour : (asks : words.Hour) (n : List ℤ) (places : Places) (book : Book) → framed_refusal (hour_frame asks n places) ≡ 0
    → Piped asks n places book (byte_of (number n 0)) (byte_of (number n 1))
unfolding book.frame_refusal frame_book call_of
books_the_hour asks n places book z =
    let p = posts asks n places z in
    record { posted = p; answered = ap (reading_refusal book) p.reads; kept = ap (book_in book) p.reads }

-- ---- the loss fees

-- an entry that names a fee's setting, by its form and its range
sets_fee : (kind : ℕ) (fee : Dollars) (f : Fee) (book : Book) → kind < 256 → in_form (fee_entry kind fee) ≡ true → eqb kind open_kind ≡ false → call_of (fee_entry kind fee) ≡ some (Call.loss_fee f fee.0)
    → is_loss_fee fee.0 ≡ true → SetsFee (fee_entry kind fee) f fee.0 book
unfolding book.frame_refusal frame_book
sets_fee kind fee f book k form call names range =
    record {
      reads = reads;
      fits = rw range;
      answered = ap (reading_refusal book) reads ∙ rw (call, names);
      kept = ap (book_in book) reads ∙ rw (call, names);
    }
  where
    reads : reading_of (line_of (fee_entry kind fee)) ≡ Ok (fee_entry kind fee)
    reads =
        read_written (fee_entry kind fee)
        (record { kind = k; day = omega arith; hour = omega arith; amount = within_fits w64 tt (in_within_below {k = most_loss_fee} range) }) form

pub books_the_fees : (n : List ℤ) (book : Book) (l : LossFee) → loss_asked n ≡ Ok l → SetsFees n l book
unfolding loss_frames head_of frame_text write_refusal call_of in_form
books_the_fees n book l e =
    let fits = loss_posts (number n 0) (number n 1) (number n 2) (number n 3) l e in
    record {
      text = ap (λ a. frame_text (fee_frames a)) e;
      basic_set_lem = sets_fee basic_fee_kind l.basic basic book (omega arith) refl refl refl fits.0;
      excess_set_lem = sets_fee excess_fee_kind l.excess excess (book_in book (reading_of (line_of (basic_set l)))) (omega arith) refl refl refl fits.1;
    }
