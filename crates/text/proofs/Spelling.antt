-- A number's digits as they are spelled are those of the fewest places; and how many there are. By induction on the places. Assumes nothing.
use Prim.Native.Nat.{ℕ, zero, suc, ◌+◌, ◌-◌, ◌/◌, ◌%◌, ◌^◌, ◌≤◌, ◌<◌}
use mathlib.Core.Path.{◌≡◌, refl, sym, ap, ap₂, ◌∙◌}
use mathlib.Core.Bool.{true, false}
use mathlib.Core.List.{List, [], ◌∷◌, ◌++◌}
use native.Mathlib.Nat.{pow-succ', mod-eq_of_lt, mod-lt}
use native.Mathlib.Omega.{arith}
use lib.Dec.{ltb}
use lib.IntN.{ℤ, pos, negsuc}
use lib.ListN.{length, take, replicate, length-append}
use borrow.Author.Tests.{lt-ltb, le-ltb, ltb-true, ltb-false}
use lib.IntN.{nat_abs}
use mir.Syntax.{w64}
use mir.Val.{SFits}
use Rattle.whole.specs.Whole.{up, down}
use Rattle.whole.proofs.Signed.{size_fits}
use Rattle.whole.proofs.Choice.{by_test}
use Rattle.io.specs.Digits.{hex_digit_ascii, last_digits, IsDigitCount}
use Rattle.text.proofs.Places.{minus_place, minus_text, length_with}
use Rattle.text.specs.Text.{spelled, decimal_of, signed_text, place_after, with_text}

glyph_is : (d : ℕ) → d < 10 → hex_digit_ascii d ≡ 48 + d
glyph_is d h = rw (lt-ltb d 10 h)

-- a tenth of a number has a digit less
tenth_below : (n k : ℕ) → n < 10 ^ suc k → n / 10 < 10 ^ k
tenth_below n k h = let e = pow-succ' 10 k in omega arith

tenth_least : (n k : ℕ) → 10 ^ suc k ≤ n → 10 ^ k ≤ n / 10
tenth_least n k h = let e = pow-succ' 10 k in omega arith

ten_most : (n k : ℕ) → 10 ^ suc k ≤ n → 1 ≤ 10 ^ k → 10 ≤ n
ten_most n k h p = let e = pow-succ' 10 k in omega arith

power : (k : ℕ) → 1 ≤ 10 ^ k
power zero = omega arith
power (suc k) = let e = pow-succ' 10 k in let p = power k in omega arith

-- a number of two places or more is 10 at least
second : (n k : ℕ) → IsDigitCount 10 1 n (suc (suc k)) → 10 ^ suc k ≤ n
second n k w = let e : suc (suc k) - 1 ≡ suc k = omega arith in rw e at (w.2 (omega arith))

third : (n k : ℕ) → IsDigitCount 10 1 n (suc (suc k)) → 10 ^ (suc k - 1) ≤ n / 10
third n k w = let e : suc k - 1 ≡ k = omega arith in rw e (tenth_least n k (second n k w))

spelled_digits : (f k n : ℕ) → n < 10 ^ suc f → IsDigitCount 10 1 n (suc k) → spelled (suc f) n ≡ last_digits 10 (suc k) n
spelled_digits f zero n h w =
    let s : n < 10 = w.1 in
    simp (lt-ltb n 10 s, mod-eq_of_lt s)
spelled_digits zero (suc k) n h w =
    let g = ten_most n k (second n k w) (power k) in
    let s : n < 10 = h in
    absurd (omega arith)
spelled_digits (suc f) (suc k) n h w =
    let g = ten_most n k (second n k w) (power k) in
    rw (le-ltb n 10 g)
    (ap₂ (λ (x : List ℕ) (y : ℕ). x ++ (y ∷ []))
    (spelled_digits f k (n / 10) (tenth_below n (suc f) h) (omega arith, tenth_below n (suc k) w.1, λ _. third n k w))
    (sym (glyph_is (n % 10) (mod-lt n (omega arith)))))

-- the digits that `io::decimal` makes
pub decimal_is : (n k : ℕ) → n < 2 ^ 64 → IsDigitCount 10 1 n k → decimal_of n ≡ last_digits 10 k n
unfolding decimal_of
decimal_is n zero h w = absurd (omega arith)
decimal_is n (suc k) h w = spelled_digits 19 k n (omega arith) w

-- how many digits a number has
length_spelled : (f k n : ℕ) → n < 10 ^ suc k → length (spelled f n) ≤ suc k
length_spelled zero k n h = omega arith
length_spelled (suc f) k n h = by_test (ltb n 10) (λ (t : ltb n 10 ≡ true). rw t (omega arith)) (λ (t : ltb n 10 ≡ false). rw t (longer k h (ltb-false n 10 t) (λ j. length_spelled f j (n / 10))))
  where
    longer : (k : ℕ) → n < 10 ^ suc k → 10 ≤ n → ((j : ℕ) → n / 10 < 10 ^ suc j → length (spelled f (n / 10)) ≤ suc j) → length (spelled f (n / 10) ++ ((48 + n % 10) ∷ [])) ≤ suc k
    longer zero h g m = let s : n < 10 = h in absurd (omega arith)
    longer (suc j) h g m = simp length-append (omega (arith, m j (tenth_below n (suc j) h)))

-- no more than it may have
pub length_most : (f n : ℕ) → length (spelled f n) ≤ f
length_most zero n = omega arith
length_most (suc f) n =
    by_test (ltb n 10) (λ (t : ltb n 10 ≡ true). rw t (omega arith)) (λ (t : ltb n 10 ≡ false). rw t (simp length-append (omega (arith, length_most f (n / 10)))))

pub length_decimal : (k n : ℕ) → n < 10 ^ suc k → length (decimal_of n) ≤ suc k
unfolding decimal_of
length_decimal k n h = length_spelled 20 k n h

-- a number by its sign
pub signed_below : (z : ℤ) → up z < down z → signed_text z ≡ 45 ∷ decimal_of (nat_abs z)
unfolding signed_text
signed_below (pos n) h = absurd (omega arith)
signed_below (negsuc n) h = refl

pub signed_above : (z : ℤ) → down z ≤ up z → signed_text z ≡ decimal_of (nat_abs z)
unfolding signed_text
signed_above (pos n) h = refl
signed_above (negsuc n) h = absurd (omega arith)

pub length_size : {z : ℤ} → SFits w64 z → length (decimal_of (nat_abs z)) ≤ 20
length_size {z} f = length_decimal 19 (nat_abs z) (let g = size_fits f in omega arith)

pub length_signed : (z : ℤ) → SFits w64 z → length (signed_text z) ≤ 21
length_signed z f =
    let few = length_size f in
    by_test (ltb (up z) (down z))
    (λ (t : ltb (up z) (down z) ≡ true). let h = ltb-true (up z) (down z) t in rw (signed_below z (omega arith)) (omega arith))
    (λ (t : ltb (up z) (down z) ≡ false). let h = ltb-false (up z) (down z) t in rw (signed_above z (omega arith)) (omega arith))

-- the sign and the digits of a number below 0, as they stand in a run of signs
pub signed_run : (z : ℤ) (u k : ℕ) (run : List ℕ) → u ≡ nat_abs z → u ≤ 2 ^ 63 → up z < down z
    → k ≡ place_after (replicate 21 45) 1 (decimal_of u) → run ≡ with_text (replicate 21 45) 1 (decimal_of u)
    → (k ≤ length run) × (take k run ≡ signed_text z)
signed_run z u k run e f h p q =
    let digits = decimal_of u in
    let short : length digits ≤ 20 = length_decimal 19 u (omega arith) in
    let place = p ∙ minus_place digits short in (
      omega (arith, place, short, ap length q, length_with (replicate 21 45) 1 digits),
      ap₂ (λ (k : ℕ) (r : List ℕ). take k r) place q ∙ minus_text digits short ∙ ap (λ (n : ℕ). 45 ∷ decimal_of n) e ∙ sym (signed_below z h),
    )
