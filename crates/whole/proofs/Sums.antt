-- Ranges and sums over a list, one number at a time: how large a sum is, when it is taken, and the sum of a part.
-- By the laws of folds. Assumes nothing.
use Prim.Native.Nat.{ℕ, zero, suc, ◌+◌, ◌*◌, ◌≤◌, ◌<◌}
use mathlib.Core.Path.{◌≡◌, refl, sym, ap, ◌∙◌}
use mathlib.Core.Bool.{true, false}
use mathlib.Core.List.{List}
use native.Mathlib.Omega.{arith}
use lib.Dec.{eqb}
use lib.IntN.{ℤ, pos, ◌+ℤ◌, +ℤ_idl, +ℤ_idr}
use lib.Signed.{le_z}
use Rattle.std.specs.Prelude.{Some}
use lib.ListN.{length, get_or, take, drop, length-take, length-drop}
use lib.Seq.{get_or-take, get_or-drop}
use Rattle.whole.specs.Folds.{fold_to, sum_to, sum_of}
use Rattle.whole.specs.Whole.{minus, Within, in_range, all_in_range}
use Rattle.whole.specs.Inner.{summable, summed}
use borrow.Author.Tests.{eqb-true, eqb-false, ne_eqb}
use Rattle.whole.specs.Choice.{pick}
use Rattle.whole.proofs.Folds.{all_at, all_of, fold_same, fold_empty}
use Rattle.whole.proofs.Choice.{both, by_test}
use Rattle.whole.proofs.Signed.{signed, inside, opposite, sum}

-- a range about zero that a test found
pub in_within : {k : ℕ} {z : ℤ} → in_range (minus k) (pos k) z ≡ true → Within k z
in_within {k} {z} e = let b = inside e in omega (arith, opposite (pos k))

-- and one of natural numbers
pub in_within_below : {k : ℕ} {z : ℤ} → in_range (pos 0) (pos k) z ≡ true → Within k z
in_within_below {k} {z} e = let b = inside e in omega arith

pub within_in : {k : ℕ} {z : ℤ} → Within k z → in_range (minus k) (pos k) z ≡ true
unfolding in_range
within_in {k} {z} w =
    let low : le_z (minus k) z ≡ true = omega (signed, opposite (pos k)) in
    let high : le_z z (pos k) ≡ true = omega signed in
    both low high

-- the test of a list, at each place, and back
pub all_inside : (low high : ℤ) (xs : List ℤ) → all_in_range low high xs ≡ true → (i : ℕ) → i < length xs → in_range low high (get_or xs i (pos 0)) ≡ true
unfolding all_in_range
all_inside low high xs = all_at (length xs) (λ i. in_range low high (get_or xs i (pos 0)))

pub inside_all : (low high : ℤ) (xs : List ℤ) → ((i : ℕ) → i < length xs → in_range low high (get_or xs i (pos 0)) ≡ true) → all_in_range low high xs ≡ true
unfolding all_in_range
inside_all low high xs = all_of (length xs) (λ i. in_range low high (get_or xs i (pos 0)))

-- a sum of n numbers from -k to k lies within n times k
pub sum_within : {k : ℕ} (n : ℕ) (f : ℕ → ℤ) → ((i : ℕ) → i < n → Within k (f i)) → Within (k * n) (sum_to n f)
unfolding fold_to
sum_within zero f h = omega arith
sum_within {k} (suc n) f h =
    let a : Within k (f n) = h n (omega arith) in
    let r : Within (k * n) (sum_to n f) = sum_within n f (λ i p. h i (omega arith)) in
    omega (arith, sum (sum_to n f) (f n))

-- a sum that can be taken is
pub summed_is : (xs : List ℤ) → summable xs ≡ true → summed xs ≡ Some (sum_of xs)
unfolding summed
summed_is xs e = rw e

-- the sum of n numbers from place p on, read off the whole list
pub sum_part : (xs : List ℤ) (p n : ℕ) → p + n ≤ length xs → sum_of (take n (drop p xs)) ≡ sum_to n (λ k. get_or xs (p + k) (pos 0))
sum_part xs p n h =
    let e : length (take n (drop p xs)) ≡ n = simp (length-take, length-drop) (omega arith) in
    ap (λ (m : ℕ). sum_to m (λ i. get_or (take n (drop p xs)) i (pos 0))) e
    ∙ fold_same (pos 0) ◌+ℤ◌ n _ _ (λ k l. get_or-take n (drop p xs) k (pos 0) l ∙ get_or-drop p xs k (pos 0))

-- ---- sums of sums, and a sum with one term that counts

pub sum_none : (n : ℕ) (f : ℕ → ℤ) → ((k : ℕ) → k < n → f k ≡ pos 0) → sum_to n f ≡ pos 0
sum_none = fold_empty (pos 0) ◌+ℤ◌ refl

crossed : (a b c d : ℤ) → (a +ℤ b) +ℤ (c +ℤ d) ≡ (a +ℤ c) +ℤ (b +ℤ d)
crossed a b c d = omega (signed, sum (a +ℤ b) (c +ℤ d), sum a b, sum c d, sum (a +ℤ c) (b +ℤ d), sum a c, sum b d)

pub sum_both : (n : ℕ) (f g : ℕ → ℤ) → sum_to n (λ k. f k +ℤ g k) ≡ sum_to n f +ℤ sum_to n g
unfolding fold_to
sum_both zero f g = refl
sum_both (suc n) f g = ap (λ z. z +ℤ (f n +ℤ g n)) (sum_both n f g) ∙ crossed (sum_to n f) (sum_to n g) (f n) (g n)

pub sum_swap : (n m : ℕ) (f : ℕ → ℕ → ℤ) → sum_to n (λ k. sum_to m (f k)) ≡ sum_to m (λ p. sum_to n (λ k. f k p))
unfolding fold_to
sum_swap zero m f = sym (sum_none m (λ _. pos 0) (λ _ _. refl))
sum_swap (suc n) m f = ap (λ z. z +ℤ sum_to m (f n)) (sum_swap n m f) ∙ sym (sum_both m (λ p. sum_to n (λ k. f k p)) (f n))

-- an amount that counts for one of the parts 1 to n
pub sum_one : (n q : ℕ) (z : ℤ) → 1 ≤ q → q ≤ n → sum_to n (λ k. pick (eqb q (suc k)) z (pos 0)) ≡ z
unfolding fold_to
sum_one zero q z o l = absurd (omega arith)
sum_one (suc n) q z o l =
    by_test (eqb q (suc n))
    (λ (e : eqb q (suc n) ≡ true).
    let i = eqb-true q (suc n) e in
    rw e (ap (λ y. y +ℤ z) (sum_none n (λ k. pick (eqb q (suc k)) z (pos 0)) (λ k m. ap (λ t. pick t z (pos 0)) (ne_eqb q (suc k) (λ j. omega arith)))) ∙ +ℤ_idl z))
    (λ (e : eqb q (suc n) ≡ false). rw e (+ℤ_idr _ ∙ sum_one n q z o (omega (arith, eqb-false q (suc n) e))))
