-- Half up by the inverse is half up by a division: n (k / d + 1) / k is n / d where n d is less than k. By quotient and remainder of n and of k
-- over d. Assumes nothing.
use Prim.Native.Nat.{ℕ, zero, suc, ◌+◌, ◌*◌, ◌/◌, ◌%◌, ◌≤◌, ◌<◌}
use mathlib.Core.Path.{◌≡◌}
use native.Mathlib.Omega.{arith}
use native.Mathlib.Nat.{div-add-mod', div-mul-le_self, mod-lt, div-eq_of_lt-le, mul-le-mul_left, mul-le-mul_right, mul-le-mul, lt_of_mul-lt-mul_left}
use lib.IntN.{ℤ, pos, nat_abs, ◌*ℤ◌}
use Rattle.whole.specs.Whole.{up, down, minus, half_up, nearest}
use Rattle.whole.proofs.Signed.{size, times}
use Rattle.whole.proofs.Rounding.{sign_up, sign_down}
use Rattle.units.specs.Limits.{most_capacity, most_power, most_transfer}
use Rattle.score.specs.Inner.{scale, inverse_of, least_by_inverse, most_output}

-- a number below k / d, or at most k / d where the division of k leaves something
below : (n d s e : ℕ) → n * d < s * d + e → e < d → n < s + e
below n d s zero h l = lt_of_mul-lt-mul_left d (omega arith)
below n d s (suc e) h l = let m : n < suc s = lt_of_mul-lt-mul_left d (omega arith) in omega arith

record Bounds (q n k m : ℕ) : Type 0 where
  least : q * k ≤ n * m
  most : n * m < (q + 1) * k

bounds : (q r s e d : ℕ) → r < d → e < d → (q * d + r) * d < s * d + e → Bounds q (q * d + r) (s * d + e) (s + 1)
bounds q r s e d l m h =
    let b = below (q * d + r) d s e h m in
    let x : q * e ≤ q * d = mul-le-mul_left q (omega arith) in
    let y : suc r * s ≤ d * s = mul-le-mul_right s l in
    record { least = omega arith; most = omega arith }

module _ (n d k : ℕ) (some : 0 < d) (small : n * d < k) where
  inverse_bounds : Bounds (n / d) n k (k / d + 1)
  inverse_bounds =
      let a = div-add-mod' n d in
      let b = div-add-mod' k d in
      rw (a, b) at (bounds (n / d) (n % d) (k / d) (k % d) d (mod-lt n some) (mod-lt k some) (rw (a, b) small))

  pub by_inverse : n * (k / d + 1) / k ≡ n / d
  by_inverse = let b = inverse_bounds in div-eq_of_lt-le k (omega arith) (omega arith)

-- of a capacity from 32 kW on the inverse is small, so that the product fits 64 bits
pub record Product (n c : ℕ) : Type 0 where
  pub by : n * inverse_of c / scale ≡ n / (2 * c)
  pub fits : n * inverse_of c < 18446744073709551616
  pub most : n / (2 * c) ≤ most_output

pub inverse_product : (n c : ℕ) → n ≤ (most_power + most_transfer) * 200 + most_capacity → least_by_inverse ≤ c → c ≤ most_capacity → Product n c
unfolding inverse_of
inverse_product n c h least most =
    let k : ℕ = scale in
    let s = k / (2 * c) in
    let q = n / (2 * c) in
    let some : 0 < 2 * c = omega arith in
    let twice : 2 * c ≤ 2 * most_capacity = omega arith in
    let small : n * (2 * c) ≤ ((most_power + most_transfer) * 200 + most_capacity) * (2 * most_capacity) = mul-le-mul h twice in
    let a : s * (2 * c) ≤ k = div-mul-le_self k (2 * c) in
    let b : s * 64 ≤ s * (2 * c) = mul-le-mul_left s (omega arith) in
    let d : q * (2 * c) ≤ n = div-mul-le_self n (2 * c) in
    let e : q * 64 ≤ q * (2 * c) = mul-le-mul_left q (omega arith) in
    let i : s + 1 ≤ scale / (2 * least_by_inverse) + 1 = omega arith in
    let p : n * (s + 1) ≤ ((most_power + most_transfer) * 200 + most_capacity) * (scale / (2 * least_by_inverse) + 1) = mul-le-mul h i in
    record { by = by_inverse n (2 * c) k some (omega arith); fits = omega arith; most = omega arith }

-- the nearest percent, by the size of what is reached
module _ (reach : ℤ) (c : ℕ) where
  hundredfold : nat_abs (reach *ℤ pos 100) ≡ nat_abs reach * 100
  hundredfold = omega (arith, size (reach *ℤ pos 100), size reach, times 100 reach)

  pub percent_up : down reach ≤ up reach → nearest (reach *ℤ pos 100) c ≡ pos (half_up (nat_abs reach * 100) c)
  unfolding nearest
  percent_up h = rw hundredfold (sign_up _ _ (omega (arith, times 100 reach)))

  pub percent_down : up reach < down reach → nearest (reach *ℤ pos 100) c ≡ minus (half_up (nat_abs reach * 100) c)
  unfolding nearest
  percent_down h = rw hundredfold (sign_down _ _ (omega (arith, times 100 reach)))
