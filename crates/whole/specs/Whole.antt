-- Whole numbers of either sign: ranges, and rounding as document 01 says ("Nearest", the ramp's "rounded up", "down").
use Rattle.std.specs.Prelude.{ℕ, suc, ◌+◌, ◌*◌, ◌-◌, ◌/◌, ◌≤◌, ◌<◌, ◌≡◌, Bool, ◌&&◌, List, ℤ, pos, negsuc, neg_ℤ, nat_abs, ◌-ℤ◌, ◌*ℤ◌, length, get_or}
use Rattle.std.specs.Int.Signed.{le_z}
use Rattle.whole.specs.Folds.{all_to}

-- the whole number -n
abbrev pub minus : ℕ → ℤ
minus n = neg_ℤ (pos n)

-- z is `up z` less `down z`, and one of the two is 0
abbrev pub up : ℤ → ℕ
up (pos n) = n
up (negsuc n) = 0

abbrev pub down : ℤ → ℕ
down (pos n) = 0
down (negsuc n) = suc n

-- z lies from -k to k
pub record Within (k : ℕ) (z : ℤ) : Type 0 where
  pub most : up z ≤ k + down z
  pub least : down z ≤ k + up z

-- z lies from low to high: as a fact, and as a test
pub record Between (low high z : ℤ) : Type 0 where
  pub least : up low + down z ≤ up z + down low
  pub most : up z + down high ≤ up high + down z

unfoldable pub in_range : ℤ → ℤ → ℤ → Bool
in_range low high z = le_z low z && le_z z high

-- each number of a list lies from low to high
unfoldable pub all_in_range : ℤ → ℤ → List ℤ → Bool
all_in_range low high xs = all_to (length xs) (λ i. in_range low high (get_or xs i (pos 0)))

-- how far x and y are apart
unfoldable pub apart : ℤ → ℤ → ℕ
apart x y = nat_abs (x -ℤ y)

-- m with the sign of z
unfoldable pub with_sign : ℤ → ℕ → ℤ
with_sign (pos n) m = pos m
with_sign (negsuc n) m = minus m

-- m / d of natural numbers, to the nearest, a half going up; and rounded up. For d = 0 both are 0.
unfoldable pub half_up : ℕ → ℕ → ℕ
half_up m d = (2 * m + d) / (2 * d)

unfoldable pub round_up : ℕ → ℕ → ℕ
round_up m d = (m + (d - 1)) / d

-- the nearest whole number to n / d, a half going away from zero (document 01, "Nearest")
unfoldable pub nearest : ℤ → ℕ → ℤ
nearest n d = with_sign n (half_up (nat_abs n) d)

-- n / d rounded away from zero: up if n is above 0, down if below (document 01, the transfer ramp)
unfoldable pub away : ℤ → ℕ → ℤ
away n d = with_sign n (round_up (nat_abs n) d)

-- ---- what the two are held to (proofs/Rounding.antt)

-- r is the nearest to n / d: no further from it than a half, and at a half further from zero
pub record Nearest (n : ℤ) (d : ℕ) (r : ℤ) : Type 0 where
  pub close : 2 * apart n (r *ℤ pos d) ≤ d
  pub tie : 2 * apart n (r *ℤ pos d) ≡ d → nat_abs n < nat_abs r * d

-- r is n / d rounded away from zero: with the sign of n, and the least quotient, by size, that reaches n
pub record Away (n : ℤ) (d : ℕ) (r : ℤ) : Type 0 where
  pub sign : r ≡ with_sign n (nat_abs r)
  pub reaches : nat_abs n ≤ nat_abs r * d
  pub least : nat_abs r * d < nat_abs n + d
