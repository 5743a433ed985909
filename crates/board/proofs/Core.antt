-- The calls in place: what a call at a place leaves, refused or let through; a call at the place of its day and hour; what an open answers and leaves; the total. By the number. Assumes nothing.
use Prim.Native.Nat.{ℕ}
use mathlib.Core.Path.{◌≡◌, refl, sym, ap, ap₂, ◌∙◌}
use Rattle.std.specs.Prelude.{Result, Ok, Err}
use mathlib.Core.Bool.{Bool, true, false}
use mathlib.Core.List.{List, [], ◌∷◌, ◌++◌}
use native.Mathlib.Omega.{arith}
use lib.Dec.{eqb}
use lib.IntN.{ℤ, pos}
use lib.ListN.{length, set, replicate}
use borrow.Author.Tests.{eqb-true}
use Rattle.whole.specs.Choice.{pick, unless, in_order}
use Rattle.whole.proofs.Choice.{by_test, and_both, all_passed, kept_new, kept_old}
use Rattle.units.proofs.Numbered.{numbered_number, no_refusal, same_answer, answered_ok}
use Rattle.units.proofs.Numbered.{let_through as granted_by}
use Rattle.units.specs.Limits.{is_days, is_amount, is_loss_fee, month_places}
use Rattle.units.specs.Refusals.{wrong_length, bad_money, not_in_month, not_reachable, paper_number, refusal_numbered, told_number, refused_as, result_by}
use Rattle.units.specs.declared.refusal.Refusal.{Refusal}
use Rattle.units.specs.declared.Dollars.{Dollars}
use Rattle.units.specs.Units.{dollars}
use Rattle.history.specs.Rules.{Call, Deed, left, call_tests}
use Rattle.history.specs.Board.{Board, well_formed, filled_at, fresh, total_on}
use Rattle.history.specs.Inner.{runs_fit, lent_tests, open_ruling, open_left, ledger_refusal, handed_at, ruled_in, handed_in, total_in}
use Rattle.history.proofs.Board.{CameAt}
use Rattle.head.specs.Rules.{Fee, Item, month_rules}
use Rattle.head.specs.Inner.{place_of, board_in, fresh_head, opened_head}
use Rattle.head.specs.declared.Head.{Head}
use Rattle.head.proofs.HourPlaces.{place_for}
use Rattle.head.proofs.Heads.{err_moves}
use Rattle.board.specs.Inner.{opened_on}
use Rattle.board.specs.Board.{place_ruled, place_handed, opened_in, told_of}

module _ (head : Head) (ms : List Bool) (xs : List ℤ) (place : ℕ) (deed : Deed Item) where
  pub turned_away : (r : Refusal) → Err r ≡ result_by {A = Unit {0}} (place_ruled head ms xs place deed) tt → board_in head ms xs ≡ place_handed head ms xs place deed
  unfolding handed_at
  turned_away r e = sym (kept_old _ (board_in head ms xs) (λ z. no_refusal (e ∙ answered_ok tt z)))

  pub let_through : Ok tt ≡ result_by {A = Unit {0}} (place_ruled head ms xs place deed) tt → (ns : List Bool) (ys : List ℤ) → ns ≡ set ms place (left (month_rules head.days) deed).0
      → ys ≡ set xs place (left (month_rules head.days) deed).1 → board_in head ns ys ≡ place_handed head ms xs place deed
  unfolding handed_at
  let_through e ns ys marks amounts = ap₂ (board_in head) marks amounts ∙ sym (kept_new _ (board_in head ms xs) (granted_by _ tt (sym e)))

-- a refusal of the papers has a number
some_number : (r : Refusal) → paper_number r ≡ 0 → ⊥
some_number r z = let n : ◌≡◌ {A = ℕ} 22 0 = ap paper_number (ap refusal_numbered (sym z) ∙ numbered_number r) ∙ z in absurd (omega arith)

-- a call at the place of its day and hour is the call by them
pub call_at : (head : Head) (ms : List Bool) (xs : List ℤ) (d x : ℕ) (c : Call Fee Item) (deed : Deed Item) → CameAt (month_rules head.days) (board_in head ms xs) d x (place_of d x) (place_for head.days d x) c deed
    → (place : ℕ) → place ≡ place_of d x → (y : Result (Unit {0}) Refusal) (b : Board Fee Bool ℤ) → y ≡ result_by (place_ruled head ms xs place deed) tt → b ≡ place_handed head ms xs place deed
    → (y ≡ result_by (ruled_in (month_rules head.days) (board_in head ms xs) c) tt) × (b ≡ handed_in (month_rules head.days) (board_in head ms xs) c)
call_at head ms xs d x c deed came place p y b answer left = (
  answer ∙ ap (λ (q : ℕ). result_by (place_ruled head ms xs q deed) tt) p ∙ ap (λ (k : ℕ). result_by k tt) came.0,
  left ∙ ap (λ (q : ℕ). place_handed head ms xs q deed) p ∙ came.1,
)

-- a number that a refusal has, or 0
abbrev pub Known : ℕ → Type 0
Known k = told_number (result_by {A = Unit {0}} k tt) ≡ k

pub known_unless : (t : Bool) (n rest : ℕ) → Known n → Known rest → Known (unless t n rest)
known_unless true n rest a b = b
known_unless false n rest a b = a

abbrev pub Knowns : List (Bool × ℕ) → Type 0
Knowns [] = Unit {0}
Knowns (t ∷ ts) = Known t.1 × Knowns ts

pub known_in_order : (ts : List (Bool × ℕ)) → Knowns ts → Known (in_order ts)
known_in_order [] h = refl
known_in_order (t ∷ ts) h = known_unless t.0 t.1 (in_order ts) h.0 (known_in_order ts h.1)

-- what an answer by a number tells
pub known_number : {A : Type 0} (k : ℕ) (a : A) → Known k → told_number (result_by k a) ≡ k
known_number {A = A} k a = by (eqb k 0)
  where
    by : (t : Bool) → told_number (pick t (Ok tt) (refused_as {A = Unit {0}} k)) ≡ k → told_number (pick t (Ok a) (refused_as {A = A} k)) ≡ k
    by true e = e
    by false e = e

pub call_known : (days : ℕ) (b : Board Fee Bool ℤ) (c : Call Fee Item) → Knowns (call_tests (month_rules days) b.closed (filled_at (month_rules days) b) c)
call_known days b (Call.post d x a) = (refl, (refl, (known_unless (is_amount a.1) bad_money 0 refl refl, (refl, tt))))
call_known days b (Call.replace d x a) = (refl, (refl, (known_unless (is_amount a.1) bad_money 0 refl refl, (refl, tt))))
call_known days b (Call.withdraw d x) = (refl, (refl, (refl, tt)))
call_known days b (Call.loss_fee f z) = (refl, (known_unless (is_loss_fee z) bad_money 0 refl refl, tt))
call_known days b Call.close = (refl, tt)

-- what keeps a call is told by its number
pub ruled_number : (days : ℕ) (b : Board Fee Bool ℤ) (c : Call Fee Item) → let k = ruled_in (month_rules days) b c in told_number (result_by {A = Unit {0}} k tt) ≡ k
unfolding ruled_in
ruled_number days b c = known_in_order (lent_tests (month_rules days) b ++ call_tests (month_rules days) b.closed (filled_at (month_rules days) b) c) (refl, (refl, call_known days b c))

-- an open: its number is the ruling, and both runs are cleared or left
module _ (days : ℕ) (ms : List Bool) (xs : List ℤ) where
  abbrev before_open : Board Fee Bool ℤ
  before_open = board_in (fresh_head days) ms xs

  pub opened_is : opened_in days ms xs ≡ result_by (open_ruling (month_rules days) before_open) (fresh_head days)
  unfolding opened_in opened_head open_ruling
  opened_is = by (runs_fit (month_rules days) before_open) (is_days days)
    where
      by : (t d : Bool) → pick t (result_by (unless d not_in_month 0) (fresh_head days)) (refused_as wrong_length) ≡ result_by (in_order ((t, wrong_length) ∷ (d, not_in_month) ∷ [])) (fresh_head days)
      by true true = refl
      by true false = refl
      by false d = refl

  pub open_number_lem : told_number (opened_in days ms xs) ≡ open_ruling (month_rules days) before_open
  unfolding opened_in opened_head open_ruling
  open_number_lem = by (runs_fit (month_rules days) before_open) (is_days days)
    where
      by : (t d : Bool) → told_number (pick t (result_by (unless d not_in_month 0) (fresh_head days)) (refused_as wrong_length)) ≡ in_order ((t, wrong_length) ∷ (d, not_in_month) ∷ [])
      by true true = refl
      by true false = refl
      by false d = refl

  pub open_refused : (told_number (opened_in days ms xs) ≡ 0 → ⊥) → before_open ≡ open_left (month_rules days) before_open
  unfolding open_left
  open_refused f = sym (kept_old _ before_open (λ z. f (open_number_lem ∙ z)))

  pub open_head : (head : Head) → opened_in days ms xs ≡ Ok head → head ≡ fresh_head days
  unfolding opened_in opened_head
  open_head head = by (runs_fit (month_rules days) before_open) (is_days days)
    where
      by : (t d : Bool) → pick t (result_by (unless d not_in_month 0) (fresh_head days)) (refused_as wrong_length) ≡ Ok head → head ≡ fresh_head days
      by true true e = sym (same_answer e)
      by true false e = no_refusal e
      by false d e = no_refusal e

  pub open_cleared : told_number (opened_in days ms xs) ≡ 0
      → (replicate (length ms) false ≡ (open_left (month_rules days) before_open).marks) × (replicate (length xs) (pos 0) ≡ (open_left (month_rules days) before_open).amounts)
  unfolding open_left open_ruling fresh
  open_cleared e =
      let z = sym open_number_lem ∙ e in
      let runs = (all_passed ((runs_fit (month_rules days) before_open, wrong_length) ∷ (is_days days, not_in_month) ∷ []) refl z).0 in
      let long = and_both (eqb (length ms) month_places) (eqb (length xs) month_places) runs in
      let new = sym (kept_new (fresh (month_rules days)) before_open z) in (
        ap (λ (n : ℕ). replicate n false) (eqb-true (length ms) month_places long.0) ∙ ap (λ (b : Board Fee Bool ℤ). b.marks) new,
        ap (λ (n : ℕ). replicate n (pos 0)) (eqb-true (length xs) month_places long.1) ∙ ap (λ (b : Board Fee Bool ℤ). b.amounts) new,
      )

  -- no refusal of the papers is 0
  err_some : {A : Type 0} (r : Refusal) (x : Result A Refusal) → Err r ≡ x → told_number x ≡ 0 → ⊥
  err_some r x e z = some_number r (ap told_number e ∙ z)

  -- the same as `open_in` comes to it: what it answers, and each run it leaves, cleared or as it was
  pub opened_answer : opened_on days (length ms) (length xs) ≡ opened_in days ms xs
  unfolding opened_in
  opened_answer = refl

  pub opened_marks : (h : Head) → Ok h ≡ opened_on days (length ms) (length xs) → (open_left (month_rules days) before_open).marks ≡ replicate (length ms) false
  opened_marks h e = sym (open_cleared (ap told_number (sym opened_answer) ∙ ap told_number (sym e))).0

  pub opened_amounts : (h : Head) → Ok h ≡ opened_on days (length ms) (length xs) → (open_left (month_rules days) before_open).amounts ≡ replicate (length xs) (pos 0)
  opened_amounts h e = sym (open_cleared (ap told_number (sym opened_answer) ∙ ap told_number (sym e))).1

  pub unopened_marks : (r : Refusal) → Err r ≡ opened_on days (length ms) (length xs) → ms ≡ (open_left (month_rules days) before_open).marks
  unopened_marks r e = ap (λ (b : Board Fee Bool ℤ). b.marks) (open_refused (err_some r _ (e ∙ opened_answer)))

  pub unopened_amounts : (r : Refusal) → Err r ≡ opened_on days (length ms) (length xs) → xs ≡ (open_left (month_rules days) before_open).amounts
  unopened_amounts r e = ap (λ (b : Board Fee Bool ℤ). b.amounts) (open_refused (err_some r _ (e ∙ opened_answer)))

pub ruleset opening = (opened_answer, opened_marks, opened_amounts, unopened_marks, unopened_amounts)

-- the test of a ledger is told by its number
pub ledger_number : (days : ℕ) (b : Board Fee Bool ℤ) → let k = ledger_refusal (month_rules days) b in told_number (result_by {A = Unit {0}} k tt) ≡ k
unfolding ledger_refusal
ledger_number days b = known_in_order ((runs_fit (month_rules days) b, wrong_length) ∷ (well_formed (month_rules days) b, not_reachable) ∷ []) (refl, (refl, tt))

-- the total: what is not refused is told
module _ (days : ℕ) (b : Board Fee Bool ℤ) where
  pub total_told_lem : ledger_refusal (month_rules days) b ≡ 0 → told_of (0, total_on (month_rules days) b) ≡ told_of (total_in (month_rules days) b)
  unfolding total_in
  total_told_lem z = rw z

  pub total_away : (r : Refusal) → Err r ≡ result_by {A = Unit {0}} (ledger_refusal (month_rules days) b) tt → Err r ≡ told_of (total_in (month_rules days) b)
  unfolding total_in
  total_away r e = err_moves (ledger_refusal (month_rules days) b) tt _ r e
