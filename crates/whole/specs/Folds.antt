-- Sums, counts and tests over the numbers below n, and over a list by its places.
use Rattle.std.specs.Prelude.{ℕ, zero, suc, ◌+◌, Bool, true, ◌&&◌, List, ℤ, pos, ◌+ℤ◌, length, get_or}
use Rattle.whole.specs.Choice.{pick}

-- ((ε ⊕ f 0) ⊕ ..) ⊕ f (n - 1)
unfoldable pub fold_to : {M : Type 0} → M → (M → M → M) → ℕ → (ℕ → M) → M
fold_to ε op zero f = ε
fold_to ε op (suc n) f = op (fold_to ε op n f) (f n)

-- f 0 + .. + f (n - 1), of whole numbers and of natural ones
abbrev pub sum_to : ℕ → (ℕ → ℤ) → ℤ
sum_to = fold_to (pos 0) ◌+ℤ◌

abbrev pub add_to : ℕ → (ℕ → ℕ) → ℕ
add_to = fold_to 0 ◌+◌

-- how many of t 0, .., t (n - 1) pass
abbrev pub count_to : ℕ → (ℕ → Bool) → ℕ
count_to n t = add_to n (λ k. pick (t k) 1 0)

-- whether all of t 0, .., t (n - 1) pass
abbrev pub all_to : ℕ → (ℕ → Bool) → Bool
all_to = fold_to true ◌&&◌

-- the sum of a list
abbrev pub sum_of : List ℤ → ℤ
sum_of xs = sum_to (length xs) (λ i. get_or xs i (pos 0))
