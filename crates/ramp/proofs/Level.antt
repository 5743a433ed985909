-- A run by a rule that is level from a place on: what moves, then the one value. By induction on the run. Assumes nothing.
use Rattle.std.proofs.Common.{◌≡◌, ℕ, zero, suc, ◌+◌, ◌≤◌, List, ◌∷◌, ◌++◌, refl, sym, ap, ap₂, ◌∙◌, arith, zero-add}
use Rattle.std.proofs.Math.ListN.{replicate}
use Rattle.std.proofs.Math.Nat.{add-zero, suc-add}
use Rattle.whole.specs.Runs.{listed}

module _ {A : Type 0} (f : ℕ → A) (y : A) where
  next : (i k : ℕ) → i + suc k ≡ suc i + k
  next i k = omega arith

  level : (i k : ℕ) → ((j : ℕ) → f (i + j) ≡ y) → replicate k y ≡ listed f i k
  level i zero h = refl
  level i (suc k) h = ap₂ ◌∷◌ (sym (h 0) ∙ ap f (add-zero i)) (level (suc i) k (λ j. ap f (sym (next i j)) ∙ h (suc j)))

  pub listed_level : (i n k : ℕ) → ((j : ℕ) → n ≤ j → f (i + j) ≡ y) → listed f i n ++ replicate k y ≡ listed f i (n + k)
  listed_level i zero k h = rw zero-add (level i k (λ j. h j (omega arith)))
  listed_level i (suc n) k h =
      rw suc-add (ap (λ (l : List A). f i ∷ l) (listed_level (suc i) n k (λ j l. ap f (sym (next i j)) ∙ h (suc j) (omega arith))))
