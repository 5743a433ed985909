-- Numbers in bytes and signed numbers in two's complement, each way and back, for any width; and what a loop over bytes has left.
-- By induction on the width or the bytes. Assumes nothing.
use Prim.Native.Nat.{ℕ, zero, suc, ◌+◌, ◌-◌, ◌*◌, ◌/◌, ◌%◌, ◌^◌, ◌<◌, ◌≤◌}
use native.Mathlib.Omega.{arith}
use native.Mathlib.Nat.{pow-suc, pow-zero, add-zero, zero-add, suc-add, add-suc}
use mathlib.Core.Path.{◌≡◌, refl, sym, ap, ◌∙◌, subst}
use mathlib.Core.Bool.{Bool, true, false}
use mathlib.Core.List.{List, [], ◌∷◌, ◌++◌, append_assoc, append-nil}
use lib.IntN.{ℤ, pos, negsuc}
use lib.Signed.{mag}
use lib.Dec.{ltb}
use lib.ListN.{length, get_or, take, drop, length-append}
use mir.Syntax.{w64}
use mir.Val.{to_z, of_z}
use borrow.Author.Tests.{lt-ltb, le-ltb, ltb-true, ltb-false}
use Rattle.std.specs.Int.{to_be_bytes, from_be_bytes}
use Rattle.std.proofs.Math.Nat.{div-div-eq-div-mul}
use Rattle.whole.specs.Choice.{pick}
use Rattle.whole.proofs.Choice.{by_test}
use Rattle.whole.proofs.Runs.{rest, no_rest}
use Rattle.frame.specs.Numbers.{bytes_in, number_after, number_of, twos_in, signed_in, byte_sum}

-- ---- bytes: each number of a list is below 256

abbrev pub Bytes : List ℕ → Type 0
Bytes [] = Unit {0}
Bytes (b ∷ bs) = (b < 256) × Bytes bs

pub bytes_append : (xs ys : List ℕ) → Bytes xs → Bytes ys → Bytes (xs ++ ys)
bytes_append [] ys h g = g
bytes_append (x ∷ xs) ys h g = (h.0, bytes_append xs ys h.1 g)

pub bytes_take : (n : ℕ) (l : List ℕ) → Bytes l → Bytes (take n l)
bytes_take zero l b = tt
bytes_take (suc n) [] b = tt
bytes_take (suc n) (x ∷ l) b = (b.0, bytes_take n l b.1)

pub bytes_drop : (n : ℕ) (l : List ℕ) → Bytes l → Bytes (drop n l)
bytes_drop zero l b = b
bytes_drop (suc n) [] b = tt
bytes_drop (suc n) (x ∷ l) b = bytes_drop n l b.1

pub byte_at : (l : List ℕ) (i : ℕ) → Bytes l → get_or l i 0 < 256
byte_at [] i b = omega arith
byte_at (x ∷ l) zero b = b.0
byte_at (x ∷ l) (suc i) b = byte_at l i b.1

-- ---- a number below 256 ^ k and its k bytes

number_last : (n b : ℕ) (bs : List ℕ) → number_after n (bs ++ (b ∷ [])) ≡ number_after n bs * 256 + b
number_last n b [] = refl
number_last n b (x ∷ bs) = number_last (n * 256 + x) b bs

-- the number is had again from its bytes
pub number_bytes : (k n : ℕ) → n < 256 ^ k → number_of (bytes_in k n) ≡ n
number_bytes zero n h = omega (arith, pow-zero 256)
number_bytes (suc k) n h =
    number_last 0 (n % 256) (bytes_in k (n / 256))
    ∙ ap (λ (m : ℕ). m * 256 + n % 256) (number_bytes k (n / 256) (omega (arith, pow-suc 256 k)))
    ∙ omega arith

pub length_bytes : (k n : ℕ) → length (bytes_in k n) ≡ k
length_bytes zero n = refl
length_bytes (suc k) n = length-append (bytes_in k (n / 256)) (n % 256 ∷ []) ∙ omega (arith, length_bytes k (n / 256))

pub bytes_are : (k n : ℕ) → Bytes (bytes_in k n)
bytes_are zero n = tt
bytes_are (suc k) n = bytes_append (bytes_in k (n / 256)) (n % 256 ∷ []) (bytes_are k (n / 256)) (omega arith, tt)

bytes_more : (k n b : ℕ) → b < 256 → bytes_in (suc k) (n * 256 + b) ≡ bytes_in k n ++ (b ∷ [])
bytes_more k n b h =
    let q : (n * 256 + b) / 256 ≡ n = omega arith in
    let r : (n * 256 + b) % 256 ≡ b = omega arith in
    rw (q, r)

bytes_after : (k n : ℕ) (bs : List ℕ) → Bytes bs → bytes_in (k + length bs) (number_after n bs) ≡ bytes_in k n ++ bs
bytes_after k n [] h = rw (add-zero, append-nil)
bytes_after k n (b ∷ bs) h =
    ap (λ (m : ℕ). bytes_in m (number_after (n * 256 + b) bs)) (add-suc k (length bs) ∙ sym (suc-add k (length bs)))
    ∙ bytes_after (suc k) (n * 256 + b) bs h.1
    ∙ ap (λ (l : List ℕ). l ++ bs) (bytes_more k n b h.0)
    ∙ append_assoc (bytes_in k n) (b ∷ []) bs

-- and the bytes from the number that they spell
pub bytes_number : (bs : List ℕ) → Bytes bs → bytes_in (length bs) (number_of bs) ≡ bs
bytes_number bs h = ap (λ (m : ℕ). bytes_in m (number_of bs)) (sym (zero-add (length bs))) ∙ bytes_after 0 0 bs h

below_after : (k n : ℕ) (bs : List ℕ) → n < 256 ^ k → Bytes bs → number_after n bs < 256 ^ (k + length bs)
below_after k n [] p h = rw add-zero p
below_after k n (b ∷ bs) p h =
    subst (λ (m : ℕ). number_after (n * 256 + b) bs < 256 ^ m) (suc-add k (length bs) ∙ sym (add-suc k (length bs)))
    (below_after (suc k) (n * 256 + b) bs (omega (arith, pow-suc 256 k, h.0)) h.1)

pub number_below : (bs : List ℕ) → Bytes bs → number_of bs < 256 ^ length bs
number_below bs h = subst (λ (m : ℕ). number_of bs < 256 ^ m) (zero-add (length bs)) (below_after 0 0 bs (omega (arith, pow-zero 256)) h)

-- ---- two's complement in k bytes

pub signed_twos : (k : ℕ) (z : ℤ) → mag z < 256 ^ suc k / 2 → signed_in (suc k) (twos_in (suc k) z) ≡ z
unfolding signed_in twos_in
signed_twos k (pos n) h = rw (lt-ltb n (256 ^ suc k / 2) h)
signed_twos k (negsuc n) h =
    let e : 256 ^ suc k ≡ 256 ^ k * 256 = pow-suc 256 k in
    let g : 256 ^ suc k / 2 ≤ 256 ^ suc k - suc n = omega arith in
    rw (le-ltb (256 ^ suc k - suc n) (256 ^ suc k / 2) g) (ap negsuc (omega arith))

twos_picked : (k n : ℕ) → n < 256 ^ k → (t : Bool) → twos_in k (pick t (pos n) (negsuc (256 ^ k - suc n))) ≡ n
unfolding twos_in
twos_picked k n h true = refl
twos_picked k n h false = omega arith

pub twos_signed : (k n : ℕ) → n < 256 ^ k → twos_in k (signed_in k n) ≡ n
unfolding signed_in
twos_signed k n h = twos_picked k n h (ltb n (256 ^ k / 2))

pub twos_below : (k : ℕ) (z : ℤ) → mag z < 256 ^ k → twos_in k z < 256 ^ k
unfolding twos_in
twos_below k (pos n) h = h
twos_below k (negsuc n) h = omega arith

-- what is read back lies in the signed range of that width
signed_picked : (h n : ℕ) → n < 2 * h → (t : Bool) → ltb n h ≡ t → mag (pick t (pos n) (negsuc (2 * h - suc n))) < h
signed_picked h n l true e = ltb-true n h e
signed_picked h n l false e = omega (arith, ltb-false n h e)

pub signed_below : (k n : ℕ) → n < 256 ^ suc k → mag (signed_in (suc k) n) < 256 ^ suc k / 2
unfolding signed_in
signed_below k n h =
    let e : 256 ^ suc k ≡ 256 ^ k * 256 = pow-suc 256 k in
    let m : 256 ^ suc k ≡ 2 * (256 ^ suc k / 2) = omega arith in
    let l : n < 2 * (256 ^ suc k / 2) = omega arith in
    subst (λ (w : ℕ). mag (pick (ltb n (256 ^ suc k / 2)) (pos n) (negsuc (w - suc n))) < 256 ^ suc k / 2) (sym m)
    (signed_picked (256 ^ suc k / 2) n l (ltb n (256 ^ suc k / 2)) refl)

-- ---- eight bytes, as `to_be_bytes` and `from_be_bytes` have them

eight_bytes : (n : ℕ) → to_be_bytes w64 n ≡ bytes_in 8 n
eight_bytes n = simp div-div-eq-div-mul

twos_are : (z : ℤ) → of_z w64 z ≡ twos_in 8 z
unfolding twos_in
twos_are (pos n) = refl
twos_are (negsuc n) = refl

pub eight_put : (z : ℤ) → to_be_bytes w64 (of_z w64 z) ≡ bytes_in 8 (twos_in 8 z)
eight_put z = eight_bytes (of_z w64 z) ∙ ap (bytes_in 8) (twos_are z)

number_eight : (bs : List ℕ) → length bs ≡ 8 → from_be_bytes w64 bs ≡ number_of bs
number_eight (a ∷ b ∷ c ∷ d ∷ e ∷ f ∷ g ∷ h ∷ []) l = omega arith
number_eight bs l = absurd (omega arith)

signed_is : (n : ℕ) → to_z w64 n ≡ signed_in 8 n
unfolding signed_in
signed_is n = by_test (ltb n 9223372036854775808) (λ (t : ltb n 9223372036854775808 ≡ true). rw t) (λ (t : ltb n 9223372036854775808 ≡ false). rw t)

pub eight_read : (bs : List ℕ) → length bs ≡ 8 → to_z w64 (from_be_bytes w64 bs) ≡ signed_in 8 (number_of bs)
eight_read bs l = ap (to_z w64) (number_eight bs l) ∙ signed_is (number_of bs)

-- ---- a loop: the sum of the bytes read, from the front

-- the sum of the bytes read, modulo 256
module _ (l : List ℕ) (s i : ℕ) (left : byte_sum l % 256 ≡ (s + byte_sum (drop i l)) % 256) where
  pub sum_next : i < length l → byte_sum l % 256 ≡ ((s + get_or l i 0) % 256 + byte_sum (drop (i + 1) l)) % 256
  sum_next h = left ∙ ap (λ (r : List ℕ). (s + byte_sum r) % 256) (rest l i 0 h) ∙ omega arith

  pub sum_done : length l ≤ i → s % 256 ≡ byte_sum l % 256
  sum_done h = sym (left ∙ ap (λ (r : List ℕ). (s + byte_sum r) % 256) (no_rest l i h) ∙ omega arith)

-- what `sum` goes by
pub ruleset summing = (sum_next, sum_done)
