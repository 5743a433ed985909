-- The windows of an hour by their places: how many there are, how long each is, and that its k-th score is the one k seconds back in the earlier scores and the hour's, put one after the
-- other. Over any scores before, newest first; by induction on the hour's scores. Assumes nothing.
use Prim.Native.Nat.{ℕ, zero, suc, ◌+◌, ◌-◌, ◌≤◌, ◌<◌, min}
use mathlib.Core.Path.{◌≡◌, refl, sym, ap, ◌∙◌}
use mathlib.Core.List.{List, [], ◌∷◌, ◌++◌, reverse, reverse_aux, reverse_aux-eq, reverse-reverse}
use native.Mathlib.Nat.{not-suc-le-zero}
use native.Mathlib.Omega.{arith}
use lib.ListN.{length, get_or, length-take, length-reverse}
use lib.Seq.{get_or-take}
use Rattle.rate.specs.Rolling.{windows}
use Rattle.reached.specs.Reached.{hour_windows, window_at}

-- ---- a list turned round, before another: place m

past : (back xs : List ℕ) (m n : ℕ) → m ≡ length back + n → get_or (reverse_aux back xs) m 0 ≡ get_or xs n 0
past [] xs m n e = let same : m ≡ n = omega arith in ap (λ i. get_or xs i 0) same
past (b ∷ back) xs m n e = past back (b ∷ xs) m (suc n) (omega arith)

turned : (back xs : List ℕ) (m k : ℕ) → m + k + 1 ≡ length back → get_or (reverse_aux back xs) m 0 ≡ get_or back k 0
turned [] xs m k e = absurd (omega arith)
turned (b ∷ back) xs m zero e = past back (b ∷ xs) m 0 (omega arith)
turned (b ∷ back) xs m (suc k) e = turned back (b ∷ xs) m k (omega arith)

-- ---- the windows after any scores

as_many : (back xs : List ℕ) → length (windows back xs) ≡ length xs
as_many back [] = refl
as_many back (x ∷ xs) = ap suc (as_many (x ∷ back) xs)

long : (back xs : List ℕ) (i n : ℕ) → i < length xs → length back ≡ n → length (get_or (windows back xs) i []) ≡ min 4 (n + i + 1)
long back [] i n h e = absurd (not-suc-le-zero h)
long back (x ∷ xs) zero n h e = length-take 4 (x ∷ back) ∙ omega arith
long back (x ∷ xs) (suc i) n h e = long (x ∷ back) xs i (suc n) (omega arith) (omega arith) ∙ omega arith

back_at : (back xs : List ℕ) (i k m : ℕ) → i < length xs → k < 4 → m + k ≡ length back + i → get_or (get_or (windows back xs) i []) k 0 ≡ get_or (reverse_aux back xs) m 0
back_at back [] i k m h f e = absurd (not-suc-le-zero h)
back_at back (x ∷ xs) zero zero m h f e = sym (past back (x ∷ xs) m 0 (omega arith))
back_at back (x ∷ xs) zero (suc k) m h f e = get_or-take 4 (x ∷ back) (suc k) 0 f ∙ sym (turned back (x ∷ xs) m k (omega arith))
back_at back (x ∷ xs) (suc i) k m h f e = back_at (x ∷ back) xs i k m (omega arith) f (omega arith)

-- ---- an hour's

module _ (earlier scores : List ℕ) where
  pub window_count : length (hour_windows earlier scores) ≡ length scores
  window_count = as_many _ scores

  pub window_long : (i : ℕ) → i < length scores → length (window_at earlier scores i) ≡ min 4 (length earlier + i + 1)
  window_long i h = long _ scores i (length earlier) h (omega (arith, length-reverse earlier))

  joined : reverse_aux (reverse earlier) scores ≡ earlier ++ scores
  joined = reverse_aux-eq (reverse earlier) scores ∙ ap (λ l. l ++ scores) (reverse-reverse earlier)

  -- k seconds back
  pub window_at_lem : (i k : ℕ) → i < length scores → k < 4 → k ≤ length earlier + i
      → get_or (window_at earlier scores i) k 0 ≡ get_or (earlier ++ scores) (length earlier + i - k) 0
  window_at_lem i k h f g =
      let m = length earlier + i - k in
      back_at (reverse earlier) scores i k m h f (omega (arith, length-reverse earlier)) ∙ ap (λ l. get_or l m 0) joined
