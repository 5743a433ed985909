-- The laws of `fold_to`: one step, terms that agree, a fold split in two; once for any monoid, by induction on the number of terms.
-- Then what a test over all of them says of each, and how large a sum is. Assumes nothing.
use Prim.Native.Nat.{ℕ, zero, suc, ◌+◌, ◌*◌, ◌≤◌, ◌<◌}
use mathlib.Core.Path.{◌≡◌, refl, sym, ap, ap₂, ◌∙◌}
use mathlib.Core.Bool.{Bool, true, false, ◌&&◌, and-false}
use mathlib.Core.Logic.{⊎_elim}
use native.Mathlib.Nat.{le_of_suc-le-suc, not-suc-le-zero, eq-or-lt_of_le, add-zero, add-suc, mul-zero, mul-suc}
use native.Mathlib.Numerals.{add-one}
use native.Mathlib.Omega.{arith}
use Rattle.whole.specs.Folds.{fold_to, add_to, all_to}
use Rattle.whole.proofs.Choice.{both, and_both}

module _ {M : Type 0} (ε : M) (op : M → M → M) where
  pub fold_none : (f : ℕ → M) → fold_to ε op 0 f ≡ ε
  unfolding fold_to
  fold_none f = refl

  pub fold_step : (n : ℕ) (f : ℕ → M) → fold_to ε op (n + 1) f ≡ op (fold_to ε op n f) (f n)
  unfolding fold_to
  fold_step n f = rw add-one

  -- terms that agree below n
  pub fold_same : (n : ℕ) (f g : ℕ → M) → ((k : ℕ) → k < n → f k ≡ g k) → fold_to ε op n f ≡ fold_to ε op n g
  unfolding fold_to
  fold_same zero f g h = refl
  fold_same (suc n) f g h = ap₂ op (fold_same n f g (λ k l. h k (omega arith))) (h n (omega arith))

  -- nothing but units
  pub fold_empty : op ε ε ≡ ε → (n : ℕ) (f : ℕ → M) → ((k : ℕ) → k < n → f k ≡ ε) → fold_to ε op n f ≡ ε
  unfolding fold_to
  fold_empty e zero f h = refl
  fold_empty e (suc n) f h = ap₂ op (fold_empty e n f (λ k l. h k (omega arith))) (h n (omega arith)) ∙ e

  module _ (unit : (x : M) → op x ε ≡ x) (assoc : (x y z : M) → op (op x y) z ≡ op x (op y z)) where
    pub fold_split : (a b : ℕ) (f : ℕ → M) → fold_to ε op (a + b) f ≡ op (fold_to ε op a f) (fold_to ε op b (λ k. f (a + k)))
    unfolding fold_to
    fold_split a zero f = rw add-zero (sym (unit (fold_to ε op a f)))
    fold_split a (suc b) f = rw add-suc (ap (λ x. op x (f (a + b))) (fold_split a b f) ∙ assoc _ _ _)

    -- what adds nothing from a on
    pub fold_tail : (a b : ℕ) (f : ℕ → M) → ((k : ℕ) → f (a + k) ≡ ε) → fold_to ε op (a + b) f ≡ fold_to ε op a f
    unfolding fold_to
    fold_tail a zero f h = rw add-zero
    fold_tail a (suc b) f h = rw add-suc (ap₂ op (fold_tail a b f h) (h b) ∙ unit (fold_to ε op a f))

-- every one below n passes
pub all_at : (n : ℕ) (t : ℕ → Bool) → all_to n t ≡ true → (k : ℕ) → k < n → t k ≡ true
unfolding fold_to
all_at zero t e k l = absurd (not-suc-le-zero l)
all_at (suc n) t e k l =
    ⊎_elim (λ (q : k ≡ n). ap t q ∙ (and_both (all_to n t) (t n) e).1)
    (λ (h : k < n). all_at n t (and_both (all_to n t) (t n) e).0 k h)
    (eq-or-lt_of_le (le_of_suc-le-suc l))

pub all_of : (n : ℕ) (t : ℕ → Bool) → ((k : ℕ) → k < n → t k ≡ true) → all_to n t ≡ true
unfolding fold_to
all_of zero t h = refl
all_of (suc n) t h = both (all_of n t (λ k l. h k (omega arith))) (h n (omega arith))

-- one that fails
pub all_fails : (n : ℕ) (t : ℕ → Bool) (k : ℕ) → k < n → t k ≡ false → all_to n t ≡ false
unfolding fold_to
all_fails zero t k l q = absurd (not-suc-le-zero l)
all_fails (suc n) t k l q =
    ⊎_elim (λ (e : k ≡ n). ap (λ b. all_to n t && b) (ap t (sym e) ∙ q) ∙ and-false (all_to n t))
    (λ (h : k < n). ap (λ b. b && t n) (all_fails n t k h q))
    (eq-or-lt_of_le (le_of_suc-le-suc l))

-- all of two tests at once
cross : (a b x y : Bool) → ((a && b) && (x && y)) ≡ ((a && x) && (b && y))
cross true true x y = refl
cross true false x y = sym (and-false x)
cross false b x y = refl

pub all_and : (n : ℕ) (a b : ℕ → Bool) → all_to n (λ k. a k && b k) ≡ (all_to n a && all_to n b)
unfolding fold_to
all_and zero a b = refl
all_and (suc n) a b = rw (all_and n a b) (cross (all_to n a) (all_to n b) (a n) (b n))

-- a sum of n terms that each lie between two numbers
pub add_between : (low high n : ℕ) (f : ℕ → ℕ) → ((k : ℕ) → k < n → (low ≤ f k) × (f k ≤ high)) → (low * n ≤ add_to n f) × (add_to n f ≤ high * n)
unfolding fold_to
add_between low high zero f h = (rw mul-zero (omega arith), rw mul-zero (omega arith))
add_between low high (suc n) f h =
    let s = add_between low high n f (λ k l. h k (omega arith)) in
    let t = h n (omega arith) in
    (rw mul-suc (omega arith), rw mul-suc (omega arith))
