-- Demand 1 of one line: a refusal gives its number only and leaves the cover and the two lent runs as they were. By what the line reads as. Assumes nothing.
use mathlib.Core.Path.{◌≡◌, refl, ◌∙◌}
use mathlib.Core.Bool.{true, false}
use mathlib.Core.Option.{Option, none, some}
use lib.Dec.{eqb}
use Rattle.whole.specs.Refused.{RefusedKeeps}
use Rattle.whole.proofs.Choice.{by_test, kept_old}
use Rattle.history.specs.Rules.{Call}
use Rattle.history.specs.Inner.{ruled_in, handed_in}
use Rattle.head.specs.Rules.{Fee, Item, month_rules}
use Rattle.board.specs.Calls.{lent_marks, lent_amounts, lent_runs}
use Rattle.frame.specs.Kinds.{open_kind}
use Rattle.frame.specs.Frame.{reading_of}
use Rattle.frame.specs.declared.Entry.{Entry}
use Rattle.std.specs.Prelude.{Result, Ok, Err}
use Rattle.units.specs.declared.refusal.Refusal.{Refusal}
use Rattle.book.specs.Book.{Book, call_of, open_book, call_refusal, call_book, asked_refusal, asked_book, frame_refusal, frame_book, reading_refusal, book_in}
use Rattle.book.specs.Inner.{book_of, cover_of}
use Rattle.book.proofs.take.Reads as take_reads
use Rattle.book.proofs.take.Kinds as take_kinds

asked_same : (book : Book) (c : Option (Call Fee Item)) → (asked_refusal book c ≡ 0 → ⊥) → asked_book book c ≡ book
unfolding call_refusal call_book handed_in
asked_same book none f = refl
asked_same book (some c) f =
    by_test book.opened
    (λ (o : book.opened ≡ true).
    let same = kept_old {k = ruled_in (month_rules book.days) book.board c} _ book.board (λ z. f (rw o z)) in
    rw o (λ i. record { count = book.count; opened = true; days = book.days; board = same i }))
    (λ (o : book.opened ≡ false). rw o)

reading_same : (book : Book) (r : Result Entry Refusal) → (reading_refusal book r ≡ 0 → ⊥) → book_in book r ≡ book
unfolding frame_refusal frame_book open_book
reading_same book (Ok e) f =
    by_test (eqb e.kind open_kind)
    (λ (t : eqb e.kind open_kind ≡ true). rw t (kept_old _ book (λ z. f (rw t z))))
    (λ (t : eqb e.kind open_kind ≡ false). rw t (asked_same book (call_of e) (λ z. f (rw t z))))
reading_same book (Err r) f = refl

-- the line stands between the cover and the runs
take_refused_keeps : RefusedKeeps 3 take_kinds.ps take_kinds.r (λ κs x. x.refusal) (λ κs a k. record { refusal = k; cover = a.0 })
    (λ κs a. lent_runs a.1) (λ κs s. lent_runs s.1) take_reads.Post
take_refused_keeps κs a x s p f =
    let same = p.1 ∙ reading_same (book_of a.0 (lent_marks a.1) (lent_amounts a.1)) (reading_of a.1.0.now) (λ z. f (p.0 ∙ z)) in
    ((λ i. record { refusal = x.refusal; cover = cover_of (same i) }), λ i. ((same i).board.marks, (same i).board.amounts))
