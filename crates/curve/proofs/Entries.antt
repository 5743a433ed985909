-- The rule of the table, once for all entries: a table whose 1,002 entries all agree with the lines' pairs, as antt counts them (`pairs`), is the list of these pairs, and then
-- the entry at twice k is the upper bound of the table's first frequency and k and the next one the lower bound. By induction on the lists. Assumes nothing.
use Prim.Native.Nat.{ℕ, zero, suc, ◌+◌, ◌*◌, ◌<◌}
use mathlib.Core.Path.{◌≡◌, refl, sym, ap₂, ◌∙◌}
use mathlib.Core.Bool.{true, false}
use mathlib.Core.List.{List, [], ◌∷◌}
use native.Mathlib.Nat.{add-zero, le_of_suc-le-suc, not-suc-le-zero}
use native.Mathlib.Omega.{arith}
use lib.IntN.{ℤ, pos}
use lib.ListN.{length, get_or}
use Rattle.whole.specs.Choice.{pick}
use Rattle.whole.specs.Whole.{in_range}
use Rattle.whole.proofs.Choice.{by_test}
use Rattle.whole.proofs.Signed.{signed, inside}
use Rattle.curve.specs.Curve.{upper_at, lower_at, first_frequency, last_place, pairs_from, pairs_of}

-- how many entries agree before the first that does not
abbrev pub agreed : List ℤ → List ℤ → ℕ
agreed [] ys = 0
agreed (x ∷ xs) [] = 0
agreed (x ∷ xs) (y ∷ ys) = pick (in_range y y x) (suc (agreed xs ys)) 0

equal : (x y : ℤ) → in_range y y x ≡ true → x ≡ y
equal x y e = let b = inside {low = y} {high = y} {z = x} e in omega signed

all_agree : (xs ys : List ℤ) → length xs ≡ length ys → agreed xs ys ≡ length ys → xs ≡ ys
all_agree [] [] l e = refl
all_agree [] (y ∷ ys) l e = absurd (omega arith)
all_agree (x ∷ xs) [] l e = absurd (omega arith)
all_agree (x ∷ xs) (y ∷ ys) l e =
    by_test (in_range y y x)
    (λ (t : in_range y y x ≡ true). let a : suc (agreed xs ys) ≡ suc (length ys) = rw t at e in ap₂ (λ z zs. z ∷ zs) (equal x y t) (all_agree xs ys (omega arith) (omega arith)))
    (λ (t : in_range y y x ≡ false). let a : 0 ≡ suc (length ys) = rw t at e in absurd (omega arith))

length_from : (f n : ℕ) → length (pairs_from f n) ≡ 2 * n
length_from f zero = refl
length_from f (suc n) = omega (arith, length_from (suc f) n)

pub length_pairs : length pairs_of ≡ 2 * (last_place + 1)
unfolding pairs_of
length_pairs = length_from first_frequency (last_place + 1)

-- a table of as many entries as the pairs have, all of which agree with them, is theirs
pub agrees : (table : List ℤ) → length table ≡ 2 * (last_place + 1) → agreed table pairs_of ≡ 2 * (last_place + 1) → table ≡ pairs_of
agrees table l a = all_agree table pairs_of (l ∙ sym length_pairs) (a ∙ sym length_pairs)

pub record Pair (l : List ℤ) (k f : ℕ) : Type 0 where
  pub upper : get_or l (2 * k) (pos 0) ≡ upper_at (pos f)
  pub lower : get_or l (2 * k + 1) (pos 0) ≡ lower_at (pos f)

entry_from : (f n k : ℕ) → k < n → Pair (pairs_from f n) k (f + k)
entry_from f zero k h = absurd (not-suc-le-zero h)
entry_from f (suc n) zero h = rw add-zero (record { upper = refl; lower = refl })
entry_from f (suc n) (suc k) h =
    let p = entry_from (suc f) n k (le_of_suc-le-suc h) in
    let two : 2 * suc k ≡ suc (suc (2 * k)) = omega arith in
    let three : 2 * suc k + 1 ≡ suc (suc (2 * k + 1)) = omega arith in
    let next : f + suc k ≡ suc f + k = omega arith in
    record { upper = rw (two, next) p.upper; lower = rw (three, next) p.lower }

pub entry : (k : ℕ) → k < last_place + 1 → Pair pairs_of k (first_frequency + k)
unfolding pairs_of
entry k h = entry_from first_frequency (last_place + 1) k h
