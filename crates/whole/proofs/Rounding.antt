-- The two ways of rounding are right: `nearest` is within a half, a tie goes away from zero, and no other number is; `away` has the sign
-- of its number, reaches it, is the least by size that does, and no other number is. By quotient and remainder of the sizes. Assumes nothing.
use mathlib.Core.Path.{◌≡◌, refl, sym, ap, ◌∙◌}
use Prim.Native.Nat.{ℕ, zero, suc, ◌+◌, ◌*◌, ◌-◌, ◌/◌, ◌%◌, ◌≤◌, ◌<◌}
use native.Mathlib.Omega.{arith}
use native.Mathlib.Nat.{zero-mul, div-zero, mul-div-mul_right, div-eq_of_lt, le-div_iff_mul-le, div-lt_iff_lt-mul, div-add-mod', mod-lt, div-eq_of_lt-le, mul-le-mul_left, div-mul-le_self, lt-div-mul-add, lt_of_mul-lt-mul_left, mul-le-mul_right, le_of_suc-le-suc}
use mir.Syntax.{Width}
use mir.Val.{SFits}
use lib.IntN.{ℤ, pos, negsuc, nat_abs, ◌-ℤ◌, ◌*ℤ◌}
use Rattle.whole.specs.Whole.{up, down, minus, Within, apart, with_sign, half_up, round_up, nearest, away, Nearest, Away}
use Rattle.whole.proofs.Signed.{times, ≡-to, difference, opposite, size, size_within}

pub apart_is : (x y : ℤ) → apart x y ≡ ((up x + down y) - (down x + up y)) + ((down x + up y) - (up x + down y))
unfolding apart
apart_is x y = omega (arith, size (x -ℤ y), difference x y)

pub sign_up : (z : ℤ) (m : ℕ) → down z ≤ up z → with_sign z m ≡ pos m
unfolding with_sign
sign_up (pos n) m h = refl
sign_up (negsuc n) m h = absurd (omega arith)

pub sign_down : (z : ℤ) (m : ℕ) → up z < down z → with_sign z m ≡ minus m
unfolding with_sign
sign_down (pos n) m h = absurd (omega arith)
sign_down (negsuc n) m h = refl

-- ---- the rounded size, put back under its sign

size_minus : (m : ℕ) → nat_abs (minus m) ≡ m
size_minus zero = refl
size_minus (suc m) = refl

pub size_sign : (z : ℤ) (m : ℕ) → nat_abs (with_sign z m) ≡ m
unfolding with_sign
size_sign (pos n) m = refl
size_sign (negsuc n) m = size_minus m

pub minus_times : (q d : ℕ) → minus q *ℤ pos d ≡ minus (q * d)
minus_times zero d = ap pos (zero-mul d) ∙ sym (ap minus (zero-mul d))
minus_times (suc q) d = refl

-- n and d times its quotient are as far apart as their sizes
apart_sign : (n : ℤ) (q d : ℕ) → apart n (with_sign n q *ℤ pos d) ≡ (nat_abs n - q * d) + (q * d - nat_abs n)
unfolding with_sign
apart_sign (pos m) q d = omega (arith, apart_is (pos m) (pos (q * d)))
apart_sign (negsuc m) q d =
    rw (minus_times q d) (omega (arith, apart_is (negsuc m) (minus (q * d)), opposite (pos (q * d))))

-- ---- the two ways of rounding, by quotient and remainder

module _ (m d : ℕ) (h : 0 < d) where
  split : m / d * d + m % d ≡ m
  split = div-add-mod' m d

  pub half_more : d - m % d ≤ m % d → half_up m d ≡ m / d + 1
  unfolding half_up
  half_more k = let r = mod-lt m h in let e = split in div-eq_of_lt-le (2 * d) (omega arith) (omega arith)

  pub half_less : m % d < d - m % d → half_up m d ≡ m / d
  unfolding half_up
  half_less k = let r = mod-lt m h in let e = split in div-eq_of_lt-le (2 * d) (omega arith) (omega arith)

  -- a quotient with a remainder is less than m
  pub quotient_less : 0 < m % d → m / d < m
  quotient_less k = let e = split in let q = mul-le-mul_left (m / d) h in omega arith

pub half_zero : (m : ℕ) → half_up m 0 ≡ 0
unfolding half_up
half_zero m = div-zero (2 * m + 0)

pub up_zero : (m : ℕ) → round_up m 0 ≡ 0
unfolding round_up
up_zero m = div-zero (m + 0)

-- neither is larger than m
pub half_le : (m d : ℕ) → half_up m d ≤ m
unfolding half_up
half_le m zero = omega (arith, half_zero m)
half_le m (suc d) = le_of_suc-le-suc ((div-lt_iff_lt-mul {k = 2 * suc d} (omega arith)).1 (omega arith))

pub up_le : (m d : ℕ) → round_up m d ≤ m
unfolding round_up
up_le m zero = omega (arith, up_zero m)
up_le m (suc d) = le_of_suc-le-suc ((div-lt_iff_lt-mul {k = suc d} (omega arith)).1 (omega arith))

pub sign_fits : {w : Width} (z : ℤ) (m : ℕ) → SFits w z → m ≤ nat_abs z → SFits w (with_sign z m)
unfolding with_sign
sign_fits (pos n) m f h = record { sfits = omega (arith, f.sfits) }
sign_fits (negsuc n) zero f h = record { sfits = omega (arith, f.sfits) }
sign_fits (negsuc n) (suc m) f h = record { sfits = omega (arith, f.sfits) }

-- ---- `nearest` is right

pub nearest_right : (n : ℤ) (d : ℕ) → 0 < d → Nearest n d (nearest n d)
unfolding nearest half_up
nearest_right n d h =
    let m = nat_abs n in
    let q = (2 * m + d) / (2 * d) in
    let below : q * (2 * d) ≤ 2 * m + d = div-mul-le_self (2 * m + d) (2 * d) in
    let above : 2 * m + d < q * (2 * d) + 2 * d = lt-div-mul-add (omega arith) in
    let far = apart_sign n q d in
    record { close = omega arith; tie = λ e. rw (size_sign n q) (omega arith) }

-- and no other number is: two such numbers, one less than the other, would lie a half on either side of n / d, and both be further from zero
tie_clash : (n r s : ℤ) (d : ℕ) → 0 < d → up s * d + down r * d ≡ up r * d + down s * d + d → 2 * (up n + down r * d) ≡ 2 * (down n + up r * d) + d → nat_abs n < nat_abs r * d → nat_abs n < nat_abs s * d → ⊥
tie_clash (pos m) (pos a) s d h g e t u = omega arith
tie_clash (pos m) (negsuc a) s d h g e t u = omega arith
tie_clash (negsuc m) r (pos zero) d h g e t u = omega arith
tie_clash (negsuc m) r (pos (suc b)) d h g e t u = omega arith
tie_clash (negsuc m) r (negsuc b) d h g e t u = omega arith

-- the distance is at least the difference, either way
pub record Far (n r : ℤ) (d : ℕ) : Type 0 where
  pub over : up n + down r * d ≤ apart n (r *ℤ pos d) + (down n + up r * d)
  pub under : down n + up r * d ≤ apart n (r *ℤ pos d) + (up n + down r * d)

far : (n r : ℤ) (d : ℕ) → Far n r d
far n r d = omega (arith, apart_is n (r *ℤ pos d), times d r)

not_less : (n r s : ℤ) (d : ℕ) → 0 < d → Nearest n d r → Nearest n d s → up r + down s < up s + down r → ⊥
not_less n r s d h p q l =
    let k : suc (up r + down s) * d ≤ (up s + down r) * d = mul-le-mul_right d l in
    let a = far n r d in
    let b = far n s d in
    tie_clash n r s d h (omega arith) (omega arith) (p.tie (omega arith)) (q.tie (omega arith))

pub nearest_only : (n r : ℤ) (d : ℕ) → 0 < d → Nearest n d r → r ≡ nearest n d
nearest_only n r d h p =
    let s = nearest n d in
    let q = nearest_right n d h in
    let above : up s + down r ≤ up r + down s = from_not (not_less n r s d h p q) in
    let below : up r + down s ≤ up s + down r = from_not (not_less n s r d h q p) in
    ≡-to r s (omega arith)
  where
    from_not : {a b : ℕ} → (a < b → ⊥) → b ≤ a
    from_not f = omega (arith, f)

-- ---- `away` is right

pub away_right : (n : ℤ) (d : ℕ) → 0 < d → Away n d (away n d)
unfolding away round_up
away_right n d h =
    let m = nat_abs n in
    let q = (m + (d - 1)) / d in
    let below : q * d ≤ m + (d - 1) = div-mul-le_self (m + (d - 1)) d in
    let above : m + (d - 1) < q * d + d = lt-div-mul-add h in
    record { sign = ap (with_sign n) (sym (size_sign n q)); reaches = rw (size_sign n q) (omega arith); least = rw (size_sign n q) (omega arith) }

-- and no other number is: two sizes that reach n by less than d lie less than 1 apart
pub away_only : (n r : ℤ) (d : ℕ) → 0 < d → Away n d r → r ≡ away n d
away_only n r d h p =
    let s = away n d in
    let q = away_right n d h in
    p.sign ∙ ap (with_sign n) (same_quotient h (omega (arith, p.least, q.reaches)) (omega (arith, q.least, p.reaches))) ∙ sym q.sign
  where
    same_quotient : {a b k : ℕ} → 0 < k → a * k < b * k + k → b * k < a * k + k → a ≡ b
    same_quotient {a} {b} {k} o l m =
        let x : a < suc b = lt_of_mul-lt-mul_left k (omega arith) in
        let y : b < suc a = lt_of_mul-lt-mul_left k (omega arith) in
        omega arith

-- ---- how large a rounded quotient is

sign_within : {k : ℕ} (z : ℤ) (m : ℕ) → m ≤ k → Within k (with_sign z m)
sign_within {k} z m h = size_within (with_sign z m) (rw (size_sign z m) h)

pub nearest_within : (n : ℤ) (d k : ℕ) → 0 < d → nat_abs n ≤ k * d → Within k (nearest n d)
unfolding nearest half_up
nearest_within n d k h b =
    let m = nat_abs n in
    let q = (2 * m + d) / (2 * d) in
    let below : q * (2 * d) ≤ 2 * m + d = div-mul-le_self (2 * m + d) (2 * d) in
    let less : d * q < d * suc k = omega arith in
    sign_within n q (le_of_suc-le-suc (lt_of_mul-lt-mul_left d less))

pub away_within : (n : ℤ) (d k : ℕ) → 0 < d → nat_abs n ≤ k * d → Within k (away n d)
unfolding away round_up
away_within n d k h b =
    let m = nat_abs n in
    let q = (m + (d - 1)) / d in
    let below : q * d ≤ m + (d - 1) = div-mul-le_self (m + (d - 1)) d in
    let less : d * q < d * suc k = omega arith in
    sign_within n q (le_of_suc-le-suc (lt_of_mul-lt-mul_left d less))

-- ---- a fraction in other terms, and how small or large it rounds

half_scale : (m d c : ℕ) → 0 < c → half_up (m * c) (d * c) ≡ half_up m d
unfolding half_up
half_scale m d c h =
    let n : 2 * (m * c) + d * c ≡ (2 * m + d) * c = omega arith in
    let k : 2 * (d * c) ≡ 2 * d * c = omega arith in
    rw (n, k) (mul-div-mul_right (2 * m + d) (2 * d) h)

pub nearest_minus : (n d : ℕ) → nearest (minus n) d ≡ minus (half_up n d)
unfolding nearest with_sign
nearest_minus zero d = let e : half_up 0 d ≡ 0 = omega (arith, half_le 0 d) in rw e
nearest_minus (suc n) d = refl

-- a fraction whose two parts are c times as large rounds to the same
pub nearest_scale : (z : ℤ) (d c : ℕ) → 0 < c → nearest (z *ℤ pos c) (d * c) ≡ nearest z d
unfolding nearest with_sign
nearest_scale (pos m) d c h = ap pos (half_scale m d c h)
nearest_scale (negsuc m) d c h = nearest_minus (suc m * c) (d * c) ∙ ap minus (half_scale (suc m) d c h)

-- below a half it is 0
pub nearest_none : (z : ℤ) (d : ℕ) → 2 * nat_abs z < d → nearest z d ≡ pos 0
unfolding nearest with_sign half_up
nearest_none z d h = let e : (2 * nat_abs z + d) / (2 * d) ≡ 0 = div-eq_of_lt (omega arith) in rw e (by z)
  where
    by : (z : ℤ) → with_sign z 0 ≡ pos 0
    by (pos n) = refl
    by (negsuc n) = refl

-- and no smaller than a whole number that is not larger
pub nearest_more : (z : ℤ) (d q : ℕ) → 0 < d → q * d ≤ nat_abs z → q ≤ nat_abs (nearest z d)
unfolding nearest half_up
nearest_more z d q h k =
    rw (size_sign z ((2 * nat_abs z + d) / (2 * d)))
    ((le-div_iff_mul-le {k = 2 * d} (omega arith)).1 (omega arith))
