-- One line, from its parts: what the calls in place answer and leave is what the book says. By the tests. Assumes nothing.
use Prim.Native.Nat.{ℕ}
use mathlib.Core.Path.{◌≡◌, refl, sym, ap, ◌∙◌, subst}
use mathlib.Core.Bool.{Bool, true, false, ◌||◌}
use mathlib.Core.List.{List}
use mathlib.Core.Option.{Option, none, some}
use lib.Dec.{eqb}
use lib.IntN.{ℤ}
use borrow.Author.Tests.{eq-eqb, ne_eqb, eqb-true, eqb-false}
use Rattle.std.specs.Prelude.{Result, Ok, Err}
use Rattle.whole.specs.Choice.{pick}
use Rattle.whole.proofs.Choice.{clash, by_test, kept_new, kept_old}
use Rattle.units.specs.Refusals.{wrong_length, not_open, told_number, result_by}
use Rattle.units.specs.declared.refusal.Refusal.{Refusal}
use Rattle.units.proofs.Numbered.{answered_ok, answered_refused}
use Rattle.history.specs.Rules.{Call, post, replace, withdraw, loss_fee, close}
use Rattle.history.specs.Board.{Board, fresh}
use Rattle.history.specs.Inner.{runs_fit, open_ruling, open_left, ruled_in, handed_in}
use Rattle.head.specs.Rules.{Fee, basic, excess, Item, amount_item, month_rules}
use Rattle.head.specs.Inner.{board_in, fresh_head}
use Rattle.head.specs.declared.Head.{Head}
use Rattle.head.proofs.Heads.{Heads, fees_all, fresh_in, heads_fee, heads_close}
use Rattle.board.specs.Board.{opened_in}
use Rattle.board.proofs.Core.{ruled_number, opened_is, open_number_lem}
use Rattle.frame.specs.Kinds.{open_kind, post_kind, replace_kind, withdraw_kind, basic_fee_kind, close_kind, excess_fee_kind, uses_hour}
use Rattle.frame.specs.declared.Entry.{Entry}
use Rattle.book.specs.Book.{Book, call_of, open_refusal, open_book, call_refusal, call_book, asked_refusal, asked_book, frame_refusal, frame_book}
use Rattle.book.specs.Inner.{book_of, cover_of, place_call, place_number, place_left, head_call, open_taken, head_taken}
use Rattle.book.specs.declared.Cover.{Cover}
use Rattle.book.specs.declared.Taken.{Taken}

-- a cover and the two runs have all of a book
pub book_all : (book : Book) → book_of (cover_of book) book.board.marks book.board.amounts ≡ book
book_all book i =
    let b = book.board in
    record { count = book.count; opened = book.opened; days = book.days; board = record { closed = b.closed; fee = fees_all b.fee i; marks = b.marks; amounts = b.amounts } }

-- ---- the call of a frame, by its kind

module _ (e : Entry) where
  pub call_touches : uses_hour e.kind ≡ true → call_of e ≡ place_call e
  unfolding call_of
  call_touches u =
      go (post e.day e.hour (amount_item e.amount.0)) (replace e.day e.hour (amount_item e.amount.0)) (withdraw e.day e.hour) (head_call e.kind e.amount.0)
      (eqb e.kind post_kind) (eqb e.kind replace_kind) (eqb e.kind withdraw_kind) u
    where
      go : (a b c : Call Fee Item) (h : Option (Call Fee Item)) (p r w : Bool) → (p || r || w) ≡ true → pick p (some a) (pick r (some b) (pick w (some c) h)) ≡ pick p (some a) (pick r (some b) (pick w (some c) none))
      go a b c h true r w u = refl
      go a b c h false true w u = refl
      go a b c h false false true u = refl
      go a b c h false false false u = clash u

  pub call_other : uses_hour e.kind ≡ false → call_of e ≡ head_call e.kind e.amount.0
  unfolding call_of
  call_other u =
      go (post e.day e.hour (amount_item e.amount.0)) (replace e.day e.hour (amount_item e.amount.0)) (withdraw e.day e.hour) (head_call e.kind e.amount.0)
      (eqb e.kind post_kind) (eqb e.kind replace_kind) (eqb e.kind withdraw_kind) u
    where
      go : (a b c : Call Fee Item) (h : Option (Call Fee Item)) (p r w : Bool) → (p || r || w) ≡ false → pick p (some a) (pick r (some b) (pick w (some c) h)) ≡ h
      go a b c h true r w u = clash (sym u)
      go a b c h false true w u = clash (sym u)
      go a b c h false false true u = clash (sym u)
      go a b c h false false false u = refl

-- ---- any call but an open

module _ (cover : Cover) (ms : List Bool) (xs : List ℤ) where
  -- what was answered, and the book that was left
  abbrev pub Came : Option (Call Fee Item) → ℕ → Book → Type 0
  Came c k next = (k ≡ asked_refusal (book_of cover ms xs) c) × (next ≡ asked_book (book_of cover ms xs) c)

  pub called_14 : (c : Option (Call Fee Item)) → cover.opened ≡ false → Came c not_open (book_of cover ms xs)
  unfolding call_refusal call_book
  called_14 none o = rw o (refl, refl)
  called_14 (some c) o = rw o (refl, refl)

  pub called : (c : Call Fee Item) (head : Head) (ns : List Bool) (ys : List ℤ) (k : ℕ) → cover.opened ≡ true
      → k ≡ ruled_in (month_rules cover.head.days) (board_in cover.head ms xs) c
      → board_in head ns ys ≡ handed_in (month_rules cover.head.days) (board_in cover.head ms xs) c
      → head.days ≡ cover.head.days
      → Came (some c) k (book_of (record { count = cover.count; opened = cover.opened; head = head }) ns ys)
  unfolding call_refusal call_book
  called c head ns ys k o number board days =
      rw o (number, λ i. record { count = cover.count; opened = true; days = days i; board = board i })

  -- ---- one that touches a place, or none

  pub called_place : (c : Option (Call Fee Item)) (ns : List Bool) (ys : List ℤ) (k : ℕ) → cover.opened ≡ true
      → k ≡ place_number cover.head.days (board_in cover.head ms xs) c
      → board_in cover.head ns ys ≡ place_left cover.head.days (board_in cover.head ms xs) c
      → Came c k (book_of cover ns ys)
  called_place none ns ys k o number board =
      (rw o number, λ i. record { count = cover.count; opened = cover.opened; days = cover.head.days; board = board i })
  called_place (some c) ns ys k o number board = called c cover.head ns ys k o number board refl

  -- what is answered there is told by its number
  pub place_told : (c : Option (Call Fee Item)) → let k = place_number cover.head.days (board_in cover.head ms xs) c in told_number (result_by {A = Unit {0}} k tt) ≡ k
  place_told none = refl
  place_told (some c) = ruled_number cover.head.days (board_in cover.head ms xs) c

  -- ---- one that touches no place

  abbrev runs_are : Bool
  runs_are = runs_fit (month_rules cover.head.days) (board_in cover.head ms xs)

  -- runs that are not the ledger's are refused with 1
  called_1 : (c : Call Fee Item) → cover.opened ≡ true → runs_are ≡ false → Came (some c) wrong_length (book_of cover ms xs)
  unfolding ruled_in handed_in
  called_1 c o runs = called c cover.head ms xs wrong_length o (rw runs) (rw runs) refl

  head_called : (c : Call Fee Item) → cover.opened ≡ true → (runs_are ≡ true → Heads cover.head ms xs c)
      → Came (some c) (head_taken cover runs_are (some c)).refusal (book_of (head_taken cover runs_are (some c)).cover ms xs)
  head_called c o h =
      by_test runs_are
      (λ (t : runs_are ≡ true). let n = h t in rw t (called c _ ms xs _ o n.number n.board n.days))
      (λ (t : runs_are ≡ false). rw t (called_1 c o t))

  pub called_head : (kind : ℕ) (amount : ℤ) → cover.opened ≡ true
      → Came (head_call kind amount) (head_taken cover runs_are (head_call kind amount)).refusal (book_of (head_taken cover runs_are (head_call kind amount)).cover ms xs)
  called_head kind amount o = go (eqb kind basic_fee_kind) (eqb kind excess_fee_kind) (eqb kind close_kind)
    where
      go : (b e s : Bool) →
          let c = pick b (some (loss_fee basic amount)) (pick e (some (loss_fee excess amount)) (pick s (some close) none)) in
          Came c (head_taken cover runs_are c).refusal (book_of (head_taken cover runs_are c).cover ms xs)
      go true e s = head_called (loss_fee basic amount) o (λ t. heads_fee cover.head ms xs t basic amount)
      go false true s = head_called (loss_fee excess amount) o (λ t. heads_fee cover.head ms xs t excess amount)
      go false false true = head_called close o (λ t. heads_close cover.head ms xs t)
      go false false false = rw o (refl, refl)

  -- ---- an open

  module _ (days : ℕ) where
    abbrev Opened : ℕ → Book → Type 0
    Opened k next = (k ≡ open_refusal (book_of cover ms xs) days) × (next ≡ open_book (book_of cover ms xs) days)

    pub opened_14 : cover.opened ≡ true → Opened not_open (book_of cover ms xs)
    unfolding open_refusal open_book
    opened_14 o = rw o (refl, refl)

    abbrev ruling : ℕ
    ruling = open_ruling (month_rules days) (board_in (fresh_head days) ms xs)

    -- by the head that was answered, and the runs that were left
    pub opened_by : (headed : Result Head Refusal) (taken : Taken) (ns : List Bool) (ys : List ℤ) → cover.opened ≡ false → taken ≡ open_taken cover headed → headed ≡ opened_in days ms xs
        → ns ≡ (open_left (month_rules days) (board_in (fresh_head days) ms xs)).marks → ys ≡ (open_left (month_rules days) (board_in (fresh_head days) ms xs)).amounts
        → Opened taken.refusal (book_of taken.cover ns ys)
    unfolding open_left open_refusal open_book open_ruling fresh
    opened_by headed taken ns ys o e h m x =
        subst (λ (t : Taken). Opened t.refusal (book_of t.cover ns ys)) (sym (e ∙ ap (open_taken cover) h))
        (by_test (eqb ruling 0)
        (λ (t : eqb ruling 0 ≡ true).
        let z = eqb-true ruling 0 t in
        let new = kept_new (fresh (month_rules days)) start z in
        let granted = opened_is days ms xs ∙ answered_ok (fresh_head days) z in
        let opens : board_in (fresh_head days) ns ys ≡ board_in (fresh_head days) (fresh (month_rules days)).marks (fresh (month_rules days)).amounts =
        (λ i. board_in (fresh_head days) ((m ∙ ap (λ (b : Board Fee Bool ℤ). b.marks) new) i) ((x ∙ ap (λ (b : Board Fee Bool ℤ). b.amounts) new) i)) in
        subst (λ (y : Result Head Refusal). Opened (open_taken cover y).refusal (book_of (open_taken cover y).cover ns ys)) (sym granted)
        (rw (o, t) (sym z, λ i. record { count = cover.count; opened = true; days = days; board = (opens ∙ fresh_in days) i })))
        (λ (t : eqb ruling 0 ≡ false).
        let f : ruling ≡ 0 → ⊥ = eqb-false ruling 0 t in
        let old = kept_old (fresh (month_rules days)) start f in
        let away = opened_is days ms xs ∙ answered_refused (fresh_head days) f in
        let number = ap told_number (sym away) ∙ open_number_lem days ms xs in
        subst (λ (y : Result Head Refusal). Opened (open_taken cover y).refusal (book_of (open_taken cover y).cover ns ys)) (sym away)
        (rw (o, t) (
          number,
          λ i. record { count = cover.count; opened = false; days = cover.head.days; board = board_in cover.head ((m ∙ ap (λ (b : Board Fee Bool ℤ). b.marks) old) i) ((x ∙ ap (λ (b : Board Fee Bool ℤ). b.amounts) old) i) },
        ))))
      where
        start : Board Fee Bool ℤ
        start = board_in (fresh_head days) ms xs

-- ---- a frame

module _ (book : Book) (e : Entry) where
  pub framed_open : e.kind ≡ open_kind → (frame_refusal book e ≡ open_refusal book e.day) × (frame_book book e ≡ open_book book e.day)
  unfolding frame_refusal frame_book
  framed_open k = rw (eq-eqb e.kind open_kind k) (refl, refl)

  pub framed_call : (e.kind ≡ open_kind → ⊥) → (frame_refusal book e ≡ asked_refusal book (call_of e)) × (frame_book book e ≡ asked_book book (call_of e))
  unfolding frame_refusal frame_book
  framed_call k = rw (ne_eqb e.kind open_kind k) (refl, refl)
