-- The calls by value, over the calls in place: 22, and a month put together from what a call in place answered and left; and the marks that are set. By rewriting
-- with the test for 22, and a mark after the other. Assumes nothing.
use Prim.Native.Nat.{ℕ, zero, suc, ◌+◌, ◌≤◌, ◌<◌}
use mathlib.Core.Path.{◌≡◌, refl, sym, ap, ap₂, ◌∙◌}
use mathlib.Core.Bool.{Bool, true, false, not}
use mathlib.Core.List.{List}
use native.Mathlib.Omega.{arith}
use borrow.Author.Tests.{not-true, not-false}
use lib.IntN.{ℤ, pos}
use lib.ListN.{length, replicate, take, get_or}
use Rattle.std.specs.List.{count_by}
use Rattle.std.proofs.lemmas.List.Sums.{count_by_more_yes, count_by_more_no}
use Rattle.std.proofs.lemmas.List.{take_all}
use native.Mathlib.Nat.{add-zero}
use Rattle.whole.specs.Folds.{fold_to, count_to}
use Rattle.std.specs.Prelude.{Result, Ok, Err}
use Rattle.std.specs.Result.{is_ok}
use lib.Dec.{eqb}
use mir.Val.{bool_byte}
use Rattle.whole.specs.Choice.{pick, unless}
use Rattle.whole.proofs.Choice.{by_test, kept_new}
use Rattle.history.specs.Rules.{Call, Deed, call_tests}
use Rattle.history.specs.Board.{Board, well_formed, filled_at, ruling_on, next_on, handed, refusal_of, next_of}
use Rattle.history.specs.Inner.{runs_fit, ruled_in, handed_in}
use Rattle.history.proofs.Board.{Good, well_good, well_opens, good_runs, good_refusal, CameAt}
use Rattle.units.specs.Limits.{is_days, month_places}
use Rattle.units.specs.Refusals.{not_reachable, not_in_month, told_number, refused_as, result_by}
use Rattle.units.specs.declared.refusal.Refusal.{Refusal}
use Rattle.units.proofs.Numbered.{let_through, answered_ok}
use Rattle.head.specs.Rules.{Fee, Item}
use Rattle.head.specs.Inner.{place_of, board_in, fresh_head, head_on, opened_head, headed_of, standing_after}
use Rattle.head.specs.declared.Head.{Head}
use Rattle.head.proofs.HourPlaces.{place_for}
use Rattle.head.proofs.Sound.{month_sound}
use Rattle.head.proofs.Heads.{Heads, fees_all, err_moves}
use Rattle.board.proofs.Core.{known_unless, known_in_order, known_number, call_known}
use Rattle.board.specs.Board.{place_ruled, place_handed}
use Rattle.month.specs.Month.{rules_of, board_of, month_of, fresh_month, open_of, month_answer}
use Rattle.month.specs.Inner.{month_head, month_in, booked_of, head_booked}
use Rattle.month.specs.declared.Month.{Month}

-- a month has all of its board
pub board_all : (days : ℕ) (b : Board Fee Bool ℤ) → board_of (month_of days b) ≡ b
board_all days b i = record { closed = b.closed; fee = fees_all b.fee i; marks = b.marks; amounts = b.amounts }

-- a well-formed month opens, and is a board in form
pub well_days : (m : Month) → well_formed (rules_of m) (board_of m) ≡ true → is_days m.days ≡ true
well_days m = well_opens (rules_of m) (board_of m)

pub record Formed (m : Month) : Type 0 where
  pub well : well_formed (rules_of m) (board_of m) ≡ true
  pub good : Good (rules_of m) (board_of m)

-- from the test of 22 as the code takes it
pub formed : (m : Month) {t : Bool} → t ≡ well_formed (rules_of m) (board_of m) → not t ≡ false → length m.marks ≡ month_places → length m.amounts ≡ month_places → Formed m
formed m {t} test passed lf lx =
    let w = sym test ∙ not-false t passed in
    record { well = w; good = well_good (rules_of m) (month_sound m.days (well_days m w)) (board_of m) w lf lx }

-- 22
pub answer_22 : (m : Month) (c : Call Fee Item) {t : Bool} → t ≡ well_formed (rules_of m) (board_of m) → not t ≡ true → refused_as not_reachable ≡ month_answer m c
unfolding month_answer refusal_of
answer_22 m c {t} test failed = rw (sym test ∙ not-true t failed)

-- on a ledger in form a call is refused for nothing but the ruling
pub answer_in_lem : (m : Month) (c : Call Fee Item) → Formed m → result_by (ruled_in (rules_of m) (board_of m) c) (month_of m.days (next_on (rules_of m) (board_of m) c)) ≡ month_answer m c
unfolding month_answer refusal_of
answer_in_lem m c f =
    let ruled = good_refusal (rules_of m) (month_sound m.days (well_days m f.well)) (board_of m) f.good c in
    rw f.well (λ i. result_by (ruled i) (month_of m.days (next_on (rules_of m) (board_of m) c)))

-- a head's answer by a number, with places
booked_by : (k : ℕ) (h : Head) (fs : List Bool) (xs : List ℤ) → booked_of (result_by k h) fs xs ≡ result_by k (month_in h fs xs)
booked_by k h fs xs = go (eqb k 0)
  where
    go : (t : Bool) → booked_of (pick t (Ok h) (refused_as k)) fs xs ≡ pick t (Ok (month_in h fs xs)) (refused_as k)
    go true = refl
    go false = refl

-- a call on the head: the head is the month's, and its runs are the ledger's; 22 first
pub answer_head : (m : Month) (c : Call Fee Item) → length m.marks ≡ month_places → length m.amounts ≡ month_places
    → (runs_fit (rules_of m) (board_of m) ≡ true → Heads (month_head m) m.marks m.amounts c)
    → (headed : Result Head Refusal) (head : Head) → headed ≡ headed_of head c → head ≡ month_head m → head_booked m headed ≡ month_answer m c
unfolding head_booked
answer_head m c lf lx heads headed head n h =
    ap (head_booked m) (n ∙ ap (λ (x : Head). headed_of x c) h)
    ∙ by_test (well_formed (rules_of m) (board_of m))
    (λ (w : well_formed (rules_of m) (board_of m) ≡ true).
    let f = formed m refl (ap not w) lf lx in
    let is = heads (good_runs (rules_of m) (month_sound m.days (well_days m w)) (board_of m) f.good) in
    let b = next_on (rules_of m) (board_of m) c in
    let k = ruled_in (rules_of m) (board_of m) c in
    rw w
    (ap (λ (x : Result Head Refusal). booked_of x m.marks m.amounts) is.granted
    ∙ booked_by k (head_on m.days b) m.marks m.amounts
    ∙ (λ i. result_by k (month_in (head_on m.days b) (sym is.marks i) (sym is.amounts i)))
    ∙ answer_in_lem m c f))
    (λ (w : well_formed (rules_of m) (board_of m) ≡ false). rw w (answer_22 m c refl (ap not w)))

-- a call at a place: the head is the month's, and the place that of the call's day and hour
module _ (m : Month) (c : Call Fee Item) (deed : Deed Item) (d x : ℕ) (came : CameAt (rules_of m) (board_of m) d x (place_of d x) (place_for m.days d x) c deed)
    (head : Head) (place : ℕ) (f : Formed m) (h : head ≡ month_head m) (p : place ≡ place_of d x) where
  ruled_is : place_ruled head m.marks m.amounts place deed ≡ ruled_in (rules_of m) (board_of m) c
  ruled_is = ap₂ (λ (h : Head) (p : ℕ). place_ruled h m.marks m.amounts p deed) h p ∙ came.0

  pub away_at : (r : Refusal) → Err r ≡ result_by {A = Unit {0}} (place_ruled head m.marks m.amounts place deed) tt → Err r ≡ month_answer m c
  away_at r e =
      err_moves (ruled_in (rules_of m) (board_of m) c) tt (month_of m.days (next_on (rules_of m) (board_of m) c)) r (e ∙ ap (λ (k : ℕ). result_by k tt) ruled_is)
      ∙ answer_in_lem m c f

  pub answer_at : (gs : List Bool) (ys : List ℤ) → Ok tt ≡ result_by {A = Unit {0}} (place_ruled head m.marks m.amounts place deed) tt
      → board_in head gs ys ≡ place_handed head m.marks m.amounts place deed → Ok (month_in (month_head m) gs ys) ≡ month_answer m c
  unfolding handed_in
  answer_at gs ys e left =
      let z : ruled_in (rules_of m) (board_of m) c ≡ 0 = sym ruled_is ∙ let_through _ tt (sym e) in
      let board = ap (λ (y : Head). board_in y gs ys) (sym h) ∙ left ∙ ap₂ (λ (y : Head) (q : ℕ). place_handed y m.marks m.amounts q deed) h p ∙ came.1 ∙ kept_new _ (board_of m) z in
      ap (λ (b : Board Fee Bool ℤ). Ok (month_of m.days b)) board
      ∙ sym (answered_ok (month_of m.days (next_on (rules_of m) (board_of m) c)) z)
      ∙ answer_in_lem m c f

-- a call's number, and the board that stands after it
pub answer_number : (m : Month) (c : Call Fee Item) → told_number (month_answer m c) ≡ refusal_of (rules_of m) (board_of m) c
unfolding month_answer refusal_of ruling_on
answer_number m c =
    let k = known_unless (well_formed (rules_of m) (board_of m)) not_reachable _ refl (known_in_order (call_tests (rules_of m) m.closed (filled_at (rules_of m) (board_of m)) c) (call_known m.days (board_of m) c)) in
    known_number (refusal_of (rules_of m) (board_of m) c) (month_of m.days (next_on (rules_of m) (board_of m) c)) k

pub answer_left : (m : Month) (c : Call Fee Item) → ((standing_after m (month_answer m c)).days ≡ m.days) × (board_of (standing_after m (month_answer m c)) ≡ next_of (rules_of m) (board_of m) c)
unfolding month_answer refusal_of next_of handed
answer_left m c =
    by_test (well_formed (rules_of m) (board_of m))
    (λ (w : well_formed (rules_of m) (board_of m) ≡ true). rw w (go (eqb (ruling_on (rules_of m) (board_of m) c) 0)))
    (λ (w : well_formed (rules_of m) (board_of m) ≡ false). rw w (refl, refl))
  where
    next : Board Fee Bool ℤ
    next = next_on (rules_of m) (board_of m) c

    go : (t : Bool) → let n = standing_after m (pick t (Ok (month_of m.days next)) (refused_as (ruling_on (rules_of m) (board_of m) c))) in (n.days ≡ m.days) × (board_of n ≡ pick t next (board_of m))
    go true = (refl, board_all m.days next)
    go false = (refl, refl)

-- whether nothing was refused
pub ok_by : (k : ℕ) → is_ok (result_by {A = Unit {0}} k tt) ≡ eqb k 0
ok_by k = go (eqb k 0)
  where
    go : (t : Bool) → is_ok (pick t (Ok tt) (refused_as {A = Unit {0}} k)) ≡ t
    go true = refl
    go false = refl

-- an open, from the head's answer
pub open_is : (days : ℕ) → booked_of (opened_head days) (replicate month_places false) (replicate month_places (pos 0)) ≡ open_of days
unfolding open_of opened_head fresh_month
open_is days = booked_by (unless (is_days days) not_in_month 0) (fresh_head days) (replicate month_places false) (replicate month_places (pos 0))

-- one mark more, and a mark as a number
pub mark_more : (xs : List Bool) (n : ℕ) → n < length xs → count_by (λ x. x) (take (n + 1) xs) ≡ count_by (λ x. x) (take n xs) + bool_byte (get_or xs n false)
mark_more xs n h =
    by_test (get_or xs n false)
    (λ (t : get_or xs n false ≡ true). rw t (count_by_more_yes (λ x. x) xs n false h t))
    (λ (t : get_or xs n false ≡ false). rw t (count_by_more_no (λ x. x) xs n false h t ∙ sym (add-zero _)))

pub byte_le : (b : Bool) → bool_byte b ≤ 1
byte_le true = omega arith
byte_le false = omega arith

-- the marks that are set, counted as a list and by their places
marks_to : (xs : List Bool) (n : ℕ) → n ≤ length xs → count_by (λ x. x) (take n xs) ≡ count_to n (λ p. get_or xs p false)
unfolding fold_to
marks_to xs zero h = refl
marks_to xs (suc n) h =
    let so_far = marks_to xs n (omega arith) in
    let next : n + 1 ≡ suc n = omega arith in
    by_test (get_or xs n false)
    (λ (t : get_or xs n false ≡ true). rw t (ap (λ k. count_by (λ x. x) (take k xs)) (sym next) ∙ count_by_more_yes (λ x. x) xs n false (omega arith) t ∙ ap (λ k. k + 1) so_far))
    (λ (t : get_or xs n false ≡ false). rw t (ap (λ k. count_by (λ x. x) (take k xs)) (sym next) ∙ count_by_more_no (λ x. x) xs n false (omega arith) t ∙ so_far ∙ sym (add-zero _)))

pub marks_counted : (xs : List Bool) (n : ℕ) → length xs ≡ n → count_by (λ x. x) xs ≡ count_to n (λ p. get_or xs p false)
marks_counted xs n l = ap (count_by (λ x. x)) (sym (take_all n xs (omega (arith, l)))) ∙ marks_to xs n (omega (arith, l))
