-- An answer that goes by a test, granted where it holds and bare else: a refusal is the bare one, and a lent run that goes by the test is then as it was.
-- By the test. Assumes nothing.
use Prim.Native.Nat.{ℕ}
use mathlib.Core.Path.{◌≡◌, sym, ap, ◌∙◌}
use mathlib.Core.Bool.{Bool, true, false}
use Rattle.whole.specs.Choice.{pick}
use Rattle.whole.proofs.Choice.{by_test}

module _ {A : Type 0} (number : A → ℕ) (bare : ℕ → A) (n : ℕ) (b : Bool) (granted : A) {x : A} (none : number granted ≡ 0) (own : number (bare n) ≡ n)
    (answer : x ≡ pick b granted (bare n)) (refused : number x ≡ 0 → ⊥) where
  failed : b ≡ false
  failed = by_test b (λ (t : b ≡ true). absurd (refused (ap number (rw t at answer) ∙ none))) (λ (t : b ≡ false). t)

  pub bare_by : x ≡ bare (number x)
  bare_by = let e = rw failed at answer in e ∙ sym (ap bare (ap number e ∙ own))

  pub left_by_lem : {B : Type 0} {left : B} (new old : B) → left ≡ pick b new old → left ≡ old
  left_by_lem new old e = rw failed at e
