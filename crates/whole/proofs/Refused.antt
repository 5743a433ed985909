-- An answer that goes by a number k, granted where k is 0 and bare beside it else: its number is k, a refusal is the bare one, and a run that goes by k is
-- then as it was. By the test of k. Assumes nothing.
use Prim.Native.Nat.{ℕ}
use mathlib.Core.Path.{◌≡◌, sym, ap, ◌∙◌}
use mathlib.Core.Bool.{true, false}
use lib.Dec.{eqb}
use borrow.Author.Tests.{eqb-true}
use Rattle.whole.specs.Choice.{kept}
use Rattle.whole.proofs.Choice.{by_test, kept_new, kept_old}

module _ {A : Type 0} (number : A → ℕ) (bare : ℕ → A) (k : ℕ) (granted : A) {x : A} (none : number granted ≡ 0) (own : number (bare k) ≡ k) (answer : x ≡ kept k granted (bare k)) where
  pub number_is : number x ≡ k
  number_is =
      by_test (eqb k 0)
      (λ (t : eqb k 0 ≡ true). let z = eqb-true k 0 t in ap number (answer ∙ kept_new granted (bare k) z) ∙ none ∙ sym z)
      (λ (t : eqb k 0 ≡ false). ap number (rw t at answer) ∙ own)

  pub refused_bare : (number x ≡ 0 → ⊥) → x ≡ bare (number x)
  refused_bare f = answer ∙ kept_old granted (bare k) (λ z. f (number_is ∙ z)) ∙ ap bare (sym number_is)

  -- a lent run that goes by the same number
  pub refused_left : {B : Type 0} {left : B} (new old : B) → left ≡ kept k new old → (number x ≡ 0 → ⊥) → left ≡ old
  refused_left new old e f = e ∙ kept_old new old (λ z. f (number_is ∙ z))

-- an answer that is a number: what it leaves in a lent run
pub number_left : {B : Type 0} {k x : ℕ} {left : B} (new old : B) → x ≡ k → left ≡ kept k new old → (x ≡ 0 → ⊥) → left ≡ old
number_left new old n e f = e ∙ kept_old new old (λ z. f (n ∙ z))
