-- How many entries a count says, and how far a list goes. By cases. Assumes nothing.
use Prim.Native.Nat.{ℕ, ◌*◌, ◌≤◌, ◌<◌}
use mathlib.Core.Path.{◌≡◌}
use mathlib.Core.Bool.{true, false}
use native.Mathlib.Omega.{arith}
use native.Mathlib.Nat.{mul-le-mul}
use lib.IntN.{ℤ, pos, negsuc, nat_abs}
use Rattle.std.specs.Int.{FitsUnsignedBits}
use Rattle.std.specs.Result.{OkIff, result_unwrap_or}
use Rattle.std.proofs.Common.{Result, Ok, Err}
use Rattle.whole.specs.Whole.{in_range}
use Rattle.whole.proofs.Choice.{by_test}
use Rattle.whole.proofs.Bounds.{in_range_lem}
use Rattle.whole.proofs.Signed.{natural}
use Rattle.numbers.specs.Numbers.{is_byte, byte_of}
use Rattle.numbers.specs.Shapes.{said}

pub said_few : (z : ℤ) → said z ≤ 100
unfolding said
said_few z =
    by_test (in_range (pos 0) (pos 100) z) (λ (t : in_range (pos 0) (pos 100) z ≡ true). let n = natural 100 z t in rw t (omega arith))
    (λ (t : in_range (pos 0) (pos 100) z ≡ false). rw t (omega arith))

-- entries of at most 255 numbers, at most 100 of them
pub entries_few : (width many : ℕ) → width ≤ 255 → many ≤ 100 → width * many ≤ 25500
entries_few width many h g = mul-le-mul h g

-- a number as a byte: one that a byte holds is its own size, and any other is taken as 255
pub byte_read : {E : Type 0} (z : ℤ) (r : Result ℕ E) → OkIff r (FitsUnsignedBits 8 z) (nat_abs z) → result_unwrap_or r 255 ≡ byte_of z
unfolding byte_of
byte_read (pos n) (Ok x) h =
    let p : n < 256 = h.0 in
    rw (in_range_lem {low = pos 0} {high = pos 255} {z = pos n} (record { least = omega arith; most = omega arith })) h.1
byte_read (negsuc n) (Ok x) h = absurd h.0
byte_read (pos n) (Err e) h =
    by_test (is_byte (pos n)) (λ (t : is_byte (pos n) ≡ true). let m = natural 255 (pos n) t in let p : n < 256 = omega arith in absurd (h p))
    (λ (t : is_byte (pos n) ≡ false). rw t)
byte_read (negsuc n) (Err e) h =
    by_test (is_byte (negsuc n)) (λ (t : is_byte (negsuc n) ≡ true). absurd (natural 255 (negsuc n) t).sign)
    (λ (t : is_byte (negsuc n) ≡ false). rw t)
