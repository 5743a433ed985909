-- The few fields of an answer: at most twelve, and they come back out of the code's box. Assumes nothing.
use Prim.Native.Nat.{ℕ, zero, suc, ◌≤◌}
use mathlib.Core.Path.{◌≡◌, refl, ap}
use mathlib.Core.List.{List, [], ◌∷◌, ◌++◌}
use native.Mathlib.Nat.{le_of_suc-le-suc, not-suc-le-zero}
use lib.IntN.{ℤ, pos}
use lib.ListN.{length, take, replicate}
use Rattle.words.specs.Replies.{Reply, reply}
use Rattle.words.specs.Inner.{boxed, unboxed}
use Rattle.words.specs.declared.Few.{Few}

front : (xs ys : List ℤ) (m : ℕ) → length xs ≤ m → take (length xs) (take m (xs ++ ys)) ≡ xs
front [] ys m h = refl
front (x ∷ xs) ys zero h = absurd (not-suc-le-zero h)
front (x ∷ xs) ys (suc m) h = ap (λ (l : List ℤ). x ∷ l) (front xs ys m (le_of_suc-le-suc h))

-- what a box holds
pub record Held (few : Few) (r : Reply) : Type 0 where
  pub most : few.count ≤ 12
  pub back : unboxed few ≡ r

pub held : (few : Few) (r : Reply) → length r.fields ≤ 12 → few ≡ boxed r → Held few r
held few r h e = rw e (record { most = h; back = ap (reply r.refusal) (front r.fields (replicate 12 (pos 0)) 12 h) })
