-- Document 01, "Frames": a number in bytes, the highest first; a signed number in two's complement; the sum of bytes. All for any width.
use Rattle.std.specs.Prelude.{ℕ, zero, suc, ◌+◌, ◌-◌, ◌*◌, ◌/◌, ◌%◌, ◌^◌, List, [], ◌∷◌, ◌++◌, ltb, ℤ, pos, negsuc}
use Rattle.whole.specs.Choice.{pick}

-- the k lowest bytes of n, the highest of them first
abbrev pub bytes_in : ℕ → ℕ → List ℕ
bytes_in zero n = []
bytes_in (suc k) n = bytes_in k (n / 256) ++ (n % 256 ∷ [])

-- the number that bytes spell, and the same after bytes that spell n
abbrev pub number_after : ℕ → List ℕ → ℕ
number_after n [] = n
number_after n (b ∷ bs) = number_after (n * 256 + b) bs

abbrev pub number_of : List ℕ → ℕ
number_of bs = number_after 0 bs

-- two's complement in k bytes, and back
unfoldable pub twos_in : ℕ → ℤ → ℕ
twos_in k (pos n) = n
twos_in k (negsuc n) = 256 ^ k - suc n

unfoldable pub signed_in : ℕ → ℕ → ℤ
signed_in k n = pick (ltb n (256 ^ k / 2)) (pos n) (negsuc (256 ^ k - suc n))

abbrev pub byte_sum : List ℕ → ℕ
byte_sum [] = 0
byte_sum (b ∷ bs) = b + byte_sum bs
