-- A refusal is known by its number, and an answer that is one by that alone; what is answered by a number. By the refusals one by one, and by whether the number is 0.
-- Assumes nothing.
use Prim.Native.Nat.{ℕ}
use mathlib.Core.Path.{◌≡◌, refl, ap, sym}
use mathlib.Core.Bool.{Bool, true, false}
use lib.Dec.{eqb}
use borrow.Author.Tests.{ne_eqb, eqb-true}
use Rattle.whole.proofs.Choice.{clash, by_test}
use Rattle.std.specs.Prelude.{Result, Ok, Err}
use Rattle.units.specs.Refusals.{paper_number, told_number, refusal_numbered, refused_as, result_by}
use Rattle.units.specs.declared.refusal.Refusal.{Refusal}
use Rattle.units.specs.declared.refusal.Refusal.TheVariants.{WrongLength, BadCapacity, BadMoney, BadReading, BadBands, NotInMonth, PlaceFilled, PlaceEmpty, MonthClosed, BadTransfer, BadDigit, BadSum, BadKind, NotOpen, BadEnergy, BadAmount, NotFinite, WrongSecond, BadReference, NotReachable}

pub numbered_number : (r : Refusal) → refusal_numbered (paper_number r) ≡ r
numbered_number WrongLength = refl
numbered_number BadCapacity = refl
numbered_number BadMoney = refl
numbered_number BadReading = refl
numbered_number BadBands = refl
numbered_number NotInMonth = refl
numbered_number PlaceFilled = refl
numbered_number PlaceEmpty = refl
numbered_number MonthClosed = refl
numbered_number BadTransfer = refl
numbered_number BadDigit = refl
numbered_number BadSum = refl
numbered_number BadKind = refl
numbered_number NotOpen = refl
numbered_number BadEnergy = refl
numbered_number BadAmount = refl
numbered_number NotFinite = refl
numbered_number WrongSecond = refl
numbered_number BadReference = refl
numbered_number NotReachable = refl

pub bare : {A : Type 0} (x : Result A Refusal) → (told_number x ≡ 0 → ⊥) → x ≡ refused_as (told_number x)
bare (Ok a) h = absurd (h refl)
bare (Err r) h = ap Err (sym (numbered_number r))

-- ---- what is answered by a number

-- a refusal is no answer
abbrev is_answer : {A : Type 0} → Result A Refusal → Bool
is_answer (Ok a) = true
is_answer (Err r) = false

pub no_refusal {ℓ} : {X : Type ℓ} {A : Type 0} {a : A} {r : Refusal} → Err r ≡ Ok a → X
no_refusal e = clash (ap is_answer e)

abbrev or_other : {A : Type 0} → A → Result A Refusal → A
or_other a (Ok b) = b
or_other a (Err r) = a

pub same_answer : {A : Type 0} {a b : A} → ◌≡◌ {A = Result A Refusal} (Ok a) (Ok b) → a ≡ b
same_answer {a = a} e = ap (or_other a) e

-- what is answered is let through
pub let_through : {A : Type 0} (k : ℕ) (a : A) {b : A} → result_by k a ≡ Ok b → k ≡ 0
let_through k a e = by_test (eqb k 0) (λ (t : eqb k 0 ≡ true). eqb-true k 0 t) (λ (t : eqb k 0 ≡ false). no_refusal (rw t at e))

pub answer_is : {A : Type 0} (k : ℕ) (a : A) {b : A} → result_by k a ≡ Ok b → a ≡ b
answer_is k a e = let z = let_through k a e in same_answer (rw z at e)

pub answered_ok : {A : Type 0} {k : ℕ} (a : A) → k ≡ 0 → result_by k a ≡ Ok a
answered_ok a e = rw e

pub answered_refused : {A : Type 0} {k : ℕ} (a : A) → (k ≡ 0 → ⊥) → result_by k a ≡ refused_as k
answered_refused {k = k} a h = rw (ne_eqb k 0 h)

-- where the answer is a refusal, something was refused
pub number_some : {A : Type 0} (k : ℕ) (a : A) → (told_number (result_by k a) ≡ 0 → ⊥) → k ≡ 0 → ⊥
number_some k a h e = h (rw e)
