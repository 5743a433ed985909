-- A column of pairs: how long it is, and that one of fewer pairs is the front of it. By induction. Assumes nothing.
use Prim.Native.Nat.{ℕ, zero, suc, ◌+◌, ◌*◌, ◌≤◌}
use mathlib.Core.Path.{◌≡◌, refl, ap, ◌∙◌}
use mathlib.Core.List.{List, ◌∷◌}
use native.Mathlib.Nat.{le_of_suc-le-suc, not-suc-le-zero}
use lib.IntN.{ℤ}
use lib.ListN.{length, take}
use Rattle.whole.specs.Runs.{listed}
use Rattle.whole.proofs.Runs.{length_listed}
use Rattle.numbers.specs.Numbers.{number, column}

-- the front of a run by a rule
module _ {A : Type 0} (f : ℕ → A) where
  pub take_listed : (i n m : ℕ) → n ≤ m → take n (listed f i m) ≡ listed f i n
  take_listed i zero m h = refl
  take_listed i (suc n) zero h = absurd (not-suc-le-zero h)
  take_listed i (suc n) (suc m) h = ap (λ (l : List A). f i ∷ l) (take_listed (suc i) n m (le_of_suc-le-suc h))

pub length_column : (n : List ℤ) (start many : ℕ) → length (column n start many) ≡ many
unfolding column
length_column n start many = length_listed (λ (i : ℕ). number n (start + 2 * i)) 0 many

-- the front of a column that was filled
pub record Front (numbers : List ℤ) (start : ℕ) (run : List ℤ) (n : ℕ) : Type 0 where
  pub long : length (take n run) ≡ n
  pub is : take n run ≡ column numbers start n

pub front : (numbers : List ℤ) (start : ℕ) (run : List ℤ) (n many : ℕ) → n ≤ many → run ≡ column numbers start many → Front numbers start run n
unfolding column
front numbers start run n many h e =
    let f : take n run ≡ column numbers start n = ap (take n) e ∙ take_listed (λ (i : ℕ). number numbers (start + 2 * i)) 0 n many h in
    record { long = ap length f ∙ length_column numbers start n; is = f }
