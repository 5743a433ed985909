-- Demand 3 through the program: what it prints of an input is what the history of the input's frames tells, each line its number as the history rules and then the
-- total of that history. The book goes on agreeing with the account, line by line: from the theory of any ledger. Assumes nothing.
use Prim.Native.Nat.{ℕ, zero, suc, ◌+◌}
use mathlib.Core.Path.{◌≡◌, refl, sym, ap, ap₂, ◌∙◌, subst, subst⁻¹}
use mathlib.Core.Bool.{true, false}
use mathlib.Core.List.{List, [], ◌∷◌, ◌++◌}
use mathlib.Core.Option.{Option, none, some}
use native.Mathlib.Omega.{arith}
use lib.Dec.{eqb}
use lib.IntN.{ℤ, pos}
use lib.ListN.{take, length-replicate}
use borrow.Author.Tests.{eqb-true, eq-eqb}
use Rattle.whole.specs.Choice.{pick, kept}
use Rattle.whole.proofs.Choice.{by_test, both, passed}
use Rattle.history.specs.Rules.{Call}
use Rattle.history.specs.Board.{fresh, handed}
use Rattle.history.specs.Inner.{runs_fit, open_ruling}
use Rattle.history.specs.History.{Recorded, Ruled}
use Rattle.history.proofs.Board.{good_refusal, good_left}
use Rattle.history.proofs.Steps.{Told, recorded, ruled, start_told, next_told}
use Rattle.history.proofs.Readouts.{total_is_lem}
use Rattle.units.specs.Limits.{is_days, month_places}
use Rattle.head.specs.Rules.{Fee, Item, month_rules}
use Rattle.head.proofs.Sound.{month_sound}
use Rattle.frame.specs.Kinds.{open_kind}
use Rattle.frame.specs.Frame.{reading_of}
use Rattle.std.specs.Prelude.{Result, Ok, Err}
use Rattle.units.specs.declared.refusal.Refusal.{Refusal}
use Rattle.frame.specs.declared.Entry.{Entry}
use Rattle.lines.specs.Lines.{lines_of}
use Rattle.intake.specs.Text.{verdict_text, total_text}
use Rattle.book.specs.Book.{Book, call_of, open_refusal, open_book, call_refusal, call_book, asked_refusal, asked_book, frame_refusal, frame_book, reading_refusal, book_in}
use Rattle.intake.specs.Answers.{first_book, counted_to, most_lines, answer_to, answers_to, book_after, book_after_all, book_total, ledger_transcript}
use Rattle.account.specs.Account.{Account, first_account, open_number, call_number, call_history, asked_number, asked_history, line_number, account_in, account_after, lines_told, total_after, history_of, printed_of}
use Rattle.intake.proofs.Counting.{answered_one}
use Rattle.account.proofs.Transcript.{ignored}

-- the book agrees with the account: no month is open in either, and the runs are the ledger's; or both have one of the same days, and its board tells the history, whose calls were all answered as
-- document 01 rules
abbrev pub Agrees : Option ℕ → List (Recorded Fee Item) → Book → Type 0
Agrees none h book = (book.opened ≡ false) × (runs_fit (month_rules 0) book.board ≡ true)
Agrees (some days) h book = (book.opened ≡ true) × (book.days ≡ days) × (is_days days ≡ true) × Told (month_rules days) h book.board × Ruled (month_rules days) h

-- ---- a call

called_number : (book : Book) (month : Option ℕ) (h : List (Recorded Fee Item)) (c : Call Fee Item) → Agrees month h book → call_refusal book c ≡ call_number month_rules month h c
unfolding call_refusal
called_number book none h c g = rw g.0
called_number book (some days) h c (o, d, i, t, r) =
    let R = month_rules days in
    rw (o, d) (good_refusal R (month_sound days i) book.board t.good c ∙ ruled R h book.board t c)

called_next : (book : Book) (month : Option ℕ) (h : List (Recorded Fee Item)) (c : Call Fee Item) → Agrees month h book → Agrees month (call_history month_rules month h c) (call_book book c)
unfolding call_book
called_next book none h c g = rw g.0 (refl, g.1)
called_next book (some days) h c (o, d, i, t, r) =
    let R = month_rules days in
    let sound = month_sound days i in
    let number = ruled R h book.board t c in
    let told = subst (λ (k : ℕ). Told R (recorded c k ∷ h) (handed R book.board c)) number (next_told R sound h book.board t c) in
    rw (o, d) (refl, refl, i, rw (good_left R sound book.board t.good c) told, (refl, r))

asked_number_lem : (book : Book) (month : Option ℕ) (h : List (Recorded Fee Item)) (c : Option (Call Fee Item)) → Agrees month h book → asked_refusal book c ≡ asked_number month_rules month h c
asked_number_lem book none h none g = rw g.0
asked_number_lem book (some days) h none g = rw g.0
asked_number_lem book none h (some c) g = called_number book none h c g
asked_number_lem book (some days) h (some c) g = called_number book (some days) h c g

asked_next : (book : Book) (month : Option ℕ) (h : List (Recorded Fee Item)) (c : Option (Call Fee Item)) → Agrees month h book → Agrees month (asked_history month_rules month h c) (asked_book book c)
asked_next book month h none g = g
asked_next book month h (some c) g = called_next book month h c g

-- ---- an open

opened_number : (book : Book) (month : Option ℕ) (h : List (Recorded Fee Item)) (days : ℕ) → Agrees month h book → open_refusal book days ≡ open_number month days
unfolding open_refusal open_ruling
opened_number book none h days g = rw (g.0, g.1)
opened_number book (some d) h days g = rw g.0

opened_next : (book : Book) (a : Account) (days : ℕ) → Agrees a.month a.history book →
    let next = kept (open_number a.month days) (record { month = some days; history = [] }) a in
    Agrees next.month next.history (open_book book days)
unfolding open_book
opened_next book a days g =
    by_test (eqb (open_refusal book days) 0)
    (λ (t : eqb (open_refusal book days) 0 ≡ true).
    let n : open_number a.month days ≡ 0 = sym number ∙ eqb-true (open_refusal book days) 0 t in
    let i = opens a.month n in
    rw (t, eq-eqb (open_number a.month days) 0 n) (refl, refl, i, start_told (month_rules days) (month_sound days i), tt))
    (λ (t : eqb (open_refusal book days) 0 ≡ false).
    let n : eqb (open_number a.month days) 0 ≡ false = ap (λ (k : ℕ). eqb k 0) (sym number) ∙ t in
    rw (t, n) g)
  where
    number : open_refusal book days ≡ open_number a.month days
    number = opened_number book a.month a.history days g

    opens : (month : Option ℕ) → open_number month days ≡ 0 → is_days days ≡ true
    opens none e = (passed (is_days days) 5 0 e).0
    opens (some d) e = absurd (omega arith)

-- ---- a line

line_number_lem : (book : Book) (a : Account) (r : Result Entry Refusal) → Agrees a.month a.history book → reading_refusal book r ≡ line_number month_rules a r
unfolding frame_refusal
line_number_lem book a (Ok e) g = ap₂ (pick (eqb e.kind open_kind)) (opened_number book a.month a.history e.day g) (asked_number_lem book a.month a.history (call_of e) g)
line_number_lem book a (Err r) g = refl

line_next : (book : Book) (a : Account) (r : Result Entry Refusal) → Agrees a.month a.history book → Agrees (account_in month_rules a r).month (account_in month_rules a r).history (book_in book r)
unfolding frame_book
line_next book a (Ok e) g =
    by_test (eqb e.kind open_kind)
    (λ (t : eqb e.kind open_kind ≡ true). rw t (opened_next book a e.day g))
    (λ (t : eqb e.kind open_kind ≡ false). rw t (asked_next book a.month a.history (call_of e) g))
line_next book a (Err r) g = g

-- that a line was counted is no part of it
counted_agrees : (month : Option ℕ) (h : List (Recorded Fee Item)) (n : ℕ) (book : Book) → Agrees month h book → Agrees month h (counted_to n book)
counted_agrees none h n book g = g
counted_agrees (some days) h n book g = g

-- ---- all lines, of which k more are read

module _ (book : Book) (a : Account) (l : List ℕ) (k : ℕ) (e : book.count + suc k ≡ most_lines) (g : Agrees a.month a.history book) where
  one : (answer_to book l ≡ verdict_text (book.count + 1) (line_number month_rules a (reading_of l))) × (book_after book l ≡ counted_to (book.count + 1) (book_in book (reading_of l)))
  one =
      let d = answered_one book l (omega arith) in
      (d.0 ∙ ap (verdict_text (book.count + 1)) (line_number_lem book a (reading_of l) g), d.1)

  next_count : (book_after book l).count ≡ book.count + 1
  next_count = ap (λ (b : Book). b.count) one.1

  next_agrees : Agrees (account_in month_rules a (reading_of l)).month (account_in month_rules a (reading_of l)).history (book_after book l)
  next_agrees =
      subst⁻¹ (Agrees (account_in month_rules a (reading_of l)).month (account_in month_rules a (reading_of l)).history) one.1
      (counted_agrees (account_in month_rules a (reading_of l)).month (account_in month_rules a (reading_of l)).history (book.count + 1) (book_in book (reading_of l)) (line_next book a (reading_of l) g))

lines_told_lem : (book : Book) (a : Account) (ls : List (List ℕ)) (k : ℕ) → book.count + k ≡ most_lines → Agrees a.month a.history book
    → (answers_to book ls ≡ lines_told month_rules reading_of book.count a (take k ls)) × Agrees (account_after month_rules reading_of a (take k ls)).month (account_after month_rules reading_of a (take k ls)).history (book_after_all book ls)
lines_told_lem book a ls zero e g =
    let none = ignored book ls (omega arith) in
    (none.0, subst⁻¹ (Agrees a.month a.history) none.1 g)
lines_told_lem book a [] (suc k) e g = (refl, g)
lines_told_lem book a (l ∷ ls) (suc k) e g =
    let n = next_count book a l k e g in
    let rest = lines_told_lem (book_after book l) (account_in month_rules a (reading_of l)) ls k (omega arith) (next_agrees book a l k e g) in (
      ap₂ ◌++◌ (one book a l k e g).0 (rest.0 ∙ ap (λ (m : ℕ). lines_told month_rules reading_of m (account_in month_rules a (reading_of l)) (take k ls)) n),
      rest.1,
    )

total_told_lem : (month : Option ℕ) (h : List (Recorded Fee Item)) (book : Book) → Agrees month h book → book_total book ≡ total_after month_rules month h
unfolding book_total
total_told_lem none h book g = rw g.0
total_told_lem (some days) h book (o, d, i, t, r) = rw (o, d) (total_is_lem (month_rules days) (month_sound days i) h book.board t)

-- before any line the runs are the ledger's
first_runs : runs_fit (month_rules 0) first_book.board ≡ true
unfolding fresh
first_runs = both (eq-eqb _ month_places (length-replicate month_places false)) (eq-eqb _ month_places (length-replicate month_places (pos 0)))

-- FROM AN INPUT'S BYTES TO DEMAND 3: the transcript is what the history of the input's frames tells
pub transcript_told : (input : List ℕ) → ledger_transcript input ≡ printed_of input
unfolding ledger_transcript printed_of history_of
transcript_told input =
    let t = lines_told_lem first_book first_account (lines_of input) most_lines refl (refl, first_runs) in
    ap₂ (λ (s : List ℕ) (z : ℤ). s ++ total_text z) t.0 (total_told_lem (history_of input).month (history_of input).history (book_after_all first_book (lines_of input)) t.1)

-- and every call of that history was answered as document 01 rules after those before it
pub history_ruled : (input : List ℕ) (days : ℕ) → (history_of input).month ≡ some days → Ruled (month_rules days) (history_of input).history
unfolding history_of
history_ruled input days m = go _ m (lines_told_lem first_book first_account (lines_of input) most_lines refl (refl, first_runs)).1
  where
    go : (month : Option ℕ) → month ≡ some days → Agrees month (history_of input).history (book_after_all first_book (lines_of input)) → Ruled (month_rules days) (history_of input).history
    go none e g = let z : ◌≡◌ {A = ℕ} 0 1 = cc in absurd (omega arith)
    go (some d) e g = let same : d ≡ days = cc in subst (λ (n : ℕ). Ruled (month_rules n) (history_of input).history) same g.4
