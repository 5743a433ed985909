-- Whatever lines are read, the program's ledger stays one that runs of calls hand back: what `feed` and `finish` test of a state stays so line by line. So its total is
-- the month total. By cases of the line. Assumes nothing.
use Prim.Native.Nat.{ℕ, ◌*◌, ◌/◌, ◌≤◌}
use mathlib.Core.Path.{◌≡◌, refl, ◌∙◌}
use mathlib.Core.Bool.{true, false, not}
use mathlib.Core.List.{List, [], ◌∷◌}
use mathlib.Core.Option.{Option, none, some}
use native.Mathlib.Omega.{arith}
use lib.Dec.{leb, eqb, ltb}
use lib.IntN.{pos}
use borrow.Author.Tests.{leb-true, eqb-true}
use Rattle.whole.proofs.Choice.{by_test, passed, all_passed, kept_new}
use Rattle.units.specs.Limits.{is_days}
use Rattle.units.specs.Refusals.{wrong_length, not_in_month}
use Rattle.history.specs.Rules.{Call}
use Rattle.history.specs.Board.{fresh, well_formed, total_on}
use Rattle.history.specs.Inner.{runs_fit, open_ruling, ledger_refusal, handed_in, total_in}
use Rattle.history.proofs.Board.{Good, well_opens, good_runs, good_ledger, fresh_good}
use Rattle.history.proofs.Steps.{left_stays}
use Rattle.head.specs.Rules.{Fee, Item, month_rules}
use Rattle.head.proofs.Sound.{month_sound}
use Rattle.board.proofs.Sums.{ledger_form}
use Rattle.frame.specs.Kinds.{open_kind}
use Rattle.frame.specs.Frame.{reading_of}
use Rattle.std.specs.Prelude.{Ok}
use Rattle.units.specs.Units.{dollars}
use Rattle.board.specs.Board.{told_of}
use Rattle.frame.specs.declared.Entry.{Entry}
use Rattle.std.specs.Prelude.{Result, Ok, Err}
use Rattle.units.specs.declared.refusal.Refusal.{Refusal}
use Rattle.book.specs.Book.{Book, call_of, open_refusal, open_book, call_book, asked_book, frame_book, book_in}
use Rattle.intake.specs.Answers.{most_lines, book_after, book_after_all, book_total}
use Rattle.intake.specs.Inner.{book_refusal, feed_refusal, end_refusal}

-- ---- what the test says

module _ (book : Book) (k : book_refusal book ≡ 0) where
  -- an opened ledger has 28 to 31 days and is in form
  module _ (o : book.opened ≡ true) where
    pub tested : ledger_refusal (month_rules book.days) book.board ≡ 0
    tested = rw o at k

    pub book_good : Good (month_rules book.days) book.board
    book_good = ledger_form book.days book.board tested

    pub book_days : is_days book.days ≡ true
    unfolding ledger_refusal
    book_days =
        let R = month_rules book.days in
        well_opens R book.board (passed (well_formed R book.board) 21 0 (passed (runs_fit R book.board) 0 _ tested).1).0

  pub book_runs : runs_fit (month_rules book.days) book.board ≡ true
  book_runs =
      by_test book.opened
      (λ (o : book.opened ≡ true). good_runs (month_rules book.days) (month_sound book.days (book_days o)) book.board (book_good o))
      (λ (o : book.opened ≡ false). (passed (runs_fit (month_rules book.days) book.board) 0 0 (rw o at k)).0)

-- ---- what `feed` and `finish` test, where they go on

pub feed_room : (book : Book) (chunk out : ℕ) → feed_refusal book chunk out ≡ 0 → 12 * chunk ≤ out
unfolding feed_refusal
feed_room book chunk out e = let h = leb-true chunk (out / 12) (passed (leb chunk (out / 12)) 0 _ e).0 in omega arith

pub end_room : (book : Book) (out : ℕ) → end_refusal book out ≡ 0 → (40 ≤ out) × (book_refusal book ≡ 0)
unfolding end_refusal
end_room book out e = let p = passed (leb 40 out) 0 _ e in (leb-true 40 out p.0, p.1)

-- ---- it stays so

call_kept : (book : Book) (c : Call Fee Item) → book_refusal book ≡ 0 → book_refusal (call_book book c) ≡ 0
unfolding call_book
call_kept book c k =
    by_test book.opened
    (λ (o : book.opened ≡ true).
    let R = month_rules book.days in
    let sound = month_sound book.days (book_days book k o) in
    rw o (good_ledger R sound (handed_in R book.board c) (left_stays R sound book.board (book_good book k o) c)))
    (λ (o : book.opened ≡ false). rw o (rw o at k))

asked_kept : (book : Book) (c : Option (Call Fee Item)) → book_refusal book ≡ 0 → book_refusal (asked_book book c) ≡ 0
asked_kept book none k = k
asked_kept book (some c) k = call_kept book c k

open_kept : (book : Book) (days : ℕ) → book_refusal book ≡ 0 → book_refusal (open_book book days) ≡ 0
unfolding open_book open_refusal open_ruling
open_kept book days k =
    by_test (eqb (open_refusal book days) 0)
    (λ (t : eqb (open_refusal book days) 0 ≡ true).
    let z = (passed (not book.opened) 13 _ (eqb-true (open_refusal book days) 0 t)).1 in
    let d = (all_passed ((runs_fit (month_rules days) book.board, wrong_length) ∷ (is_days days, not_in_month) ∷ []) refl z).1.0 in
    rw t (good_ledger (month_rules days) (month_sound days d) (fresh (month_rules days)) (fresh_good (month_rules days) (month_sound days d))))
    (λ (t : eqb (open_refusal book days) 0 ≡ false). rw t k)

frame_kept : (book : Book) (e : Entry) → book_refusal book ≡ 0 → book_refusal (frame_book book e) ≡ 0
unfolding frame_book
frame_kept book e k =
    by_test (eqb e.kind open_kind)
    (λ (t : eqb e.kind open_kind ≡ true). rw t (open_kept book e.day k))
    (λ (t : eqb e.kind open_kind ≡ false). rw t (asked_kept book (call_of e) k))

in_kept : (book : Book) (r : Result Entry Refusal) → book_refusal book ≡ 0 → book_refusal (book_in book r) ≡ 0
in_kept book (Ok e) k = frame_kept book e k
in_kept book (Err r) k = k

after_kept : (book : Book) (l : List ℕ) → book_refusal book ≡ 0 → book_refusal (book_after book l) ≡ 0
unfolding book_after
after_kept book l k =
    by_test (ltb book.count most_lines)
    (λ (t : ltb book.count most_lines ≡ true). rw t (in_kept book (reading_of l) k))
    (λ (t : ltb book.count most_lines ≡ false). rw t k)

pub all_kept : (book : Book) (ls : List (List ℕ)) → book_refusal book ≡ 0 → book_refusal (book_after_all book ls) ≡ 0
all_kept book [] k = k
all_kept book (l ∷ ls) k = all_kept (book_after book l) ls (after_kept book l k)

-- ---- the total in place is the month total

pub total_told_is : (book : Book) → book_refusal book ≡ 0 → book.opened ≡ true → told_of (total_in (month_rules book.days) book.board) ≡ Ok (dollars (book_total book))
unfolding book_total total_in
total_told_is book k o = rw (tested book k o, o)

pub total_is_lem : (book : Book) → book_refusal book ≡ 0 → book.opened ≡ true → (total_in (month_rules book.days) book.board).1 ≡ book_total book
unfolding book_total total_in
total_is_lem book k o = kept_new (total_on (month_rules book.days) book.board) (pos 0) (tested book k o) ∙ rw o
