-- Ranges of numbers that are not negative, and of their products and rounded quotients; a wider range. By the numbers' constructors.
-- Assumes nothing.
use Prim.Native.Nat.{ℕ, ◌+◌, ◌*◌, ◌≤◌, ◌<◌}
use mathlib.Core.Path.{◌≡◌}
use mathlib.Core.Bool.{true}
use native.Mathlib.Omega.{arith}
use native.Mathlib.Nat.{mul-le-mul}
use lib.IntN.{ℤ, pos, negsuc, ◌*ℤ◌}
use Rattle.whole.specs.Whole.{up, down, Within, Between, in_range, nearest, with_sign, half_up}
use Rattle.whole.proofs.Choice.{both}
use Rattle.whole.proofs.Rounding.{nearest_within}
use Rattle.whole.proofs.Signed.{inside, le_z_holds}

pub to_within : {k : ℕ} {z : ℤ} → Between (pos 0) (pos k) z → Within k z
to_within b = omega arith

-- a range, by a test
pub in_range_lem : {low high z : ℤ} → Between low high z → in_range low high z ≡ true
unfolding in_range
in_range_lem {low} {high} {z} b = both (le_z_holds low z (omega arith)) (le_z_holds z high (omega arith))

pub product_between : {a b : ℕ} (x y : ℤ) → Between (pos 0) (pos a) x → Between (pos 0) (pos b) y → Between (pos 0) (pos (a * b)) (x *ℤ y)
product_between {a} {b} (pos m) (pos n) p q =
    let h : m ≤ a = omega arith in
    let k : n ≤ b = omega arith in
    let l : m * n ≤ a * b = mul-le-mul h k in
    record { least = omega arith; most = omega arith }
product_between (pos m) (negsuc n) p q = absurd (omega (arith, q.least))
product_between (negsuc m) y p q = absurd (omega (arith, p.least))

pub nearest_between : (n : ℤ) (d k : ℕ) → 0 < d → Between (pos 0) (pos (k * d)) n → Between (pos 0) (pos k) (nearest n d)
unfolding nearest with_sign
nearest_between (pos m) d k h b =
    let w : Within k (pos (half_up m d)) = nearest_within (pos m) d k h (omega arith) in
    record { least = omega arith; most = omega arith }
nearest_between (negsuc m) d k h b = absurd (omega (arith, b.least))

-- a number in a range lies in a wider one
pub widen : (low high low' high' z : ℤ) → up low' + down low ≤ up low + down low' → up high + down high' ≤ up high' + down high
    → in_range low high z ≡ true → in_range low' high' z ≡ true
unfolding in_range
widen low high low' high' z l h e =
    let b : Between low high z = inside e in
    both (le_z_holds low' z (omega arith)) (le_z_holds z high' (omega arith))
