-- Signed arithmetic for `omega`, which reads natural numbers alone. An order, an equation, a test or a range of whole numbers
-- is one of the natural numbers `up` and `down` of its terms; `signed` is the set of those rules: `omega signed`, in the
-- place of `omega arith`. It does not look into a sum: hand that over, `omega (signed, sum x y)`.
-- Assumes nothing.
use mathlib.Core.Path.{◌≡◌, refl, sym, ap, ◌∙◌, subst}
use mathlib.Core.Bool.{Bool, true, false, not, cond, ◌&&◌}
use Prim.Native.Nat.{ℕ, zero, suc, ◌+◌, ◌*◌, ◌-◌, ◌≤◌, ◌<◌, ◌^◌}
use native.Mathlib.Omega.{arith}
use native.Mathlib.Nat.{mul-le-mul}
use borrow.Author.Tests.{ne_eqb}
use lib.Dec.{T, ltb, eqb, ltb→lt, nltb→le, leb→le, le→leb, lt→ltb}
use lib.IntN.{ℤ, pos, negsuc, neg_ℤ, nat_abs, sub_ℕ, ◌+ℤ◌, ◌-ℤ◌, ◌*ℤ◌}
use lib.Signed.{mag, non_neg, lt_z, le_z, nat_abs-le, ◌≤ℤ◌, ◌<ℤ◌}
use mir.Syntax.{Width, w64}
use mir.Val.{SFits, Fits, to_z, of_z, hbits}
use mir.ValLaws.{to_z-of_z}
use Rattle.whole.specs.Whole.{up, down, Within, Between, in_range}

-- ---- the terms: a sum, a difference, an opposite, a size, a product

cond_ind : (c : Bool) (x y : ℤ) (P : ℤ → Type 0) → (T c → P x) → (T (not c) → P y) → P (cond c x y)
cond_ind true x y P f g = f tt
cond_ind false x y P f g = g tt

less : (a b : ℕ) → up (sub_ℕ a b) + b ≡ a + down (sub_ℕ a b)
less a b =
    cond_ind (ltb a b) (negsuc (b - suc a)) (pos (a - b)) (λ z. up z + b ≡ a + down z)
    (λ t. omega (arith, ltb→lt a b t)) (λ t. omega (arith, nltb→le a b t))

pub sum : (x y : ℤ) → up (x +ℤ y) + (down x + down y) ≡ (up x + up y) + down (x +ℤ y)
sum (pos a) (pos b) = omega arith
sum (pos a) (negsuc b) = omega (arith, less a (suc b))
sum (negsuc a) (pos b) = omega (arith, less b (suc a))
sum (negsuc a) (negsuc b) = omega arith

pub opposite : (x : ℤ) → (up (neg_ℤ x) ≡ down x) × (down (neg_ℤ x) ≡ up x)
opposite (pos zero) = omega arith
opposite (pos (suc n)) = omega arith
opposite (negsuc n) = omega arith

pub difference : (x y : ℤ) → up (x -ℤ y) + (down x + up y) ≡ (up x + down y) + down (x -ℤ y)
difference x y = omega (arith, sum x (neg_ℤ y), opposite y)

pub size : (x : ℤ) → nat_abs x ≡ (up x - down x) + (down x - up x)
size (pos n) = omega arith
size (negsuc n) = omega arith

pub times : (k : ℕ) (x : ℤ) → (up (x *ℤ pos k) ≡ up x * k) × (down (x *ℤ pos k) ≡ down x * k)
times k (pos n) = omega arith
times k (negsuc n) = let o = opposite (pos (suc n * k)) in omega arith

-- ---- orders, equations and tests, from ℤ to ℕ and back

le_from : (x y : ℤ) → T (le_z x y) → up x + down y ≤ up y + down x
le_from (pos a) (pos b) t = omega (arith, leb→le a b t)
le_from (pos a) (negsuc b) t = absurd t
le_from (negsuc a) (pos b) t = omega arith
le_from (negsuc a) (negsuc b) t = omega (arith, leb→le b a t)

lt_from : (x y : ℤ) → T (lt_z x y) → up x + down y < up y + down x
lt_from (pos a) (pos b) t = omega (arith, ltb→lt a b t)
lt_from (pos a) (negsuc b) t = absurd t
lt_from (negsuc a) (pos b) t = omega arith
lt_from (negsuc a) (negsuc b) t = omega (arith, ltb→lt b a t)

le_to : (x y : ℤ) → up x + down y ≤ up y + down x → T (le_z x y)
le_to (pos a) (pos b) h = le→leb a b (omega arith)
le_to (pos a) (negsuc b) h = absurd (omega arith)
le_to (negsuc a) (pos b) h = tt
le_to (negsuc a) (negsuc b) h = le→leb b a (omega arith)

lt_to : (x y : ℤ) → up x + down y < up y + down x → T (lt_z x y)
lt_to (pos a) (pos b) h = lt→ltb a b (omega arith)
lt_to (pos a) (negsuc b) h = absurd (omega arith)
lt_to (negsuc a) (pos b) h = tt
lt_to (negsuc a) (negsuc b) h = lt→ltb b a (omega arith)

is_true : (b : Bool) → T b → b ≡ true
is_true true t = refl
is_true false t = absurd t

is_false : (b : Bool) → (T b → ⊥) → b ≡ false
is_false true f = absurd (f tt)
is_false false f = refl

pub ≤-from : {x y : ℤ} → x ≤ℤ y → up x + down y ≤ up y + down x
≤-from {x} {y} h = le_from x y h.le

pub ≤-to : {x y : ℤ} → up x + down y ≤ up y + down x → x ≤ℤ y
≤-to {x} {y} h = record { le = le_to x y h }

pub <-from : {x y : ℤ} → x <ℤ y → up x + down y < up y + down x
<-from {x} {y} h = lt_from x y h.lt

pub <-to : {x y : ℤ} → up x + down y < up y + down x → x <ℤ y
<-to {x} {y} h = record { lt = lt_to x y h }

pub ≡-from : {x y : ℤ} → x ≡ y → up x + down y ≡ up y + down x
≡-from {x} {y} e = subst (λ (z : ℤ). up x + down z ≡ up z + down x) e (omega arith)

pub ≡-to : (x y : ℤ) → up x + down y ≡ up y + down x → x ≡ y
≡-to (pos a) (pos b) h = ap pos (omega arith)
≡-to (pos a) (negsuc b) h = absurd (omega arith)
≡-to (negsuc a) (pos b) h = absurd (omega arith)
≡-to (negsuc a) (negsuc b) h = ap negsuc (omega arith)

clash : {a b : ℕ} → a < b → b ≤ a → ⊥
clash h k = omega arith

-- a test, as a branch of the code leaves it
pub le_z_true : (x y : ℤ) → le_z x y ≡ true → up x + down y ≤ up y + down x
le_z_true x y e = le_from x y (subst T (sym e) tt)

pub le_z_false : (x y : ℤ) → le_z x y ≡ false → up y + down x < up x + down y
le_z_false x y e = flip (λ h. subst T e (le_to x y h))
  where
    flip : {a b : ℕ} → (a ≤ b → ⊥) → b < a
    flip f = omega (arith, f)

pub lt_z_true : (x y : ℤ) → lt_z x y ≡ true → up x + down y < up y + down x
lt_z_true x y e = lt_from x y (subst T (sym e) tt)

pub lt_z_false : (x y : ℤ) → lt_z x y ≡ false → up y + down x ≤ up x + down y
lt_z_false x y e = flip (λ h. subst T e (lt_to x y h))
  where
    flip : {a b : ℕ} → (a < b → ⊥) → b ≤ a
    flip f = omega (arith, f)

-- and back, for a definition that tests
pub le_z_holds : (x y : ℤ) → up x + down y ≤ up y + down x → le_z x y ≡ true
le_z_holds x y h = is_true (le_z x y) (le_to x y h)

pub le_z_fails : (x y : ℤ) → up y + down x < up x + down y → le_z x y ≡ false
le_z_fails x y h = is_false (le_z x y) (λ t. clash h (le_from x y t))

pub lt_z_holds : (x y : ℤ) → up x + down y < up y + down x → lt_z x y ≡ true
lt_z_holds x y h = is_true (lt_z x y) (lt_to x y h)

pub lt_z_fails : (x y : ℤ) → up y + down x ≤ up x + down y → lt_z x y ≡ false
lt_z_fails x y h = is_false (lt_z x y) (λ t. clash (lt_from x y t) h)

-- a range that a test found, as its two ends
pub inside : {low high z : ℤ} → in_range low high z ≡ true → Between low high z
unfolding in_range
inside {low} {high} {z} e =
    let b = both (le_z low z) (le_z z high) e (le_z_true low z) (le_z_true z high) in record { least = b.0; most = b.1 }
  where
    both : (a b : Bool) {P Q : Type 0} → a && b ≡ true → (a ≡ true → P) → (b ≡ true → Q) → P × Q
    both true true e f g = (f refl, g refl)
    both true false e f g = absurd (subst T (sym e) tt)
    both false b e f g = absurd (subst T (sym e) tt)

-- a number from 0 to m is its own size
pub record Natural (m : ℕ) (z : ℤ) : Type 0 where
  pub sign : T (non_neg z)
  pub size : nat_abs z ≡ up z
  pub most : nat_abs z ≤ m

pub natural : (m : ℕ) (z : ℤ) → in_range (pos 0) (pos m) z ≡ true → Natural m z
natural m (pos n) e = let b = inside e in record { sign = tt; size = refl; most = omega arith }
natural m (negsuc n) e = let b = inside e in absurd (omega arith)

-- ---- bits: a local holds the bits of its number, and z fits where the number that `SFits` bounds does

pub bits : {w : Width} {z : ℤ} → SFits w z → up (to_z w (of_z w z)) + down z ≡ up z + down (to_z w (of_z w z))
bits {w} {z} f = ≡-from (to_z-of_z w z f)

-- what a call handed back, as the caller returns it or passes it on: `back w64 c.f.ok c.f.ensures`
pub back : (w : Width) {r z : ℤ} → mag r < 2 ^ hbits w → r ≡ z → to_z w (of_z w r) ≡ z
back w {r} h e = to_z-of_z w r (record { sfits = h }) ∙ e

-- a test x == y is one of the bits
pub same_bits : {w : Width} {x y : ℤ} → SFits w x → SFits w y → of_z w x ≡ of_z w y → x ≡ y
same_bits {w} {x} {y} f g e = sym (to_z-of_z w x f) ∙ ap (to_z w) e ∙ to_z-of_z w y g

-- the range of a number that fits, where it matters that it is the type's own
pub record Range (w : Width) (z : ℤ) : Type 0 where
  pub most : up z < 2 ^ hbits w + down z
  pub least : down z ≤ 2 ^ hbits w + up z

pub range : {w : Width} {z : ℤ} → SFits w z → Range w z
range {z = pos n} f = omega (arith, f.sfits)
range {z = negsuc n} f = omega (arith, f.sfits)

-- the bits of a sum, a difference or a multiple, whose terms it shows
pub bits_sum : {w : Width} (x y : ℤ) → SFits w (x +ℤ y) → up (to_z w (of_z w (x +ℤ y))) + (down x + down y) ≡ (up x + up y) + down (to_z w (of_z w (x +ℤ y)))
bits_sum x y f = omega (arith, bits f, sum x y)

pub bits_difference : {w : Width} (x y : ℤ) → SFits w (x -ℤ y) → up (to_z w (of_z w (x -ℤ y))) + (down x + up y) ≡ (up x + down y) + down (to_z w (of_z w (x -ℤ y)))
bits_difference x y f = omega (arith, bits f, difference x y)

pub bits_times : {w : Width} (k : ℕ) (x : ℤ) → SFits w (x *ℤ pos k) → up (to_z w (of_z w (x *ℤ pos k))) + down x * k ≡ up x * k + down (to_z w (of_z w (x *ℤ pos k)))
bits_times k x f = omega (arith, bits f, times k x)

-- an unsigned number that is read as signed
pub bits_pos : {w : Width} {n : ℕ} → SFits w (pos n) → up (to_z w n) ≡ n + down (to_z w n)
bits_pos {w} {n} f = omega (arith, bits f)

pub not_negative : (z : ℤ) → down z ≤ up z → T (non_neg z)
not_negative (pos n) h = tt
not_negative (negsuc n) h = absurd (omega arith)

pub fits_to : {w : Width} (z : ℤ) → (up z - down z) + (down z - suc (up z)) < 2 ^ hbits w → SFits w z
fits_to (pos n) h = record { sfits = omega arith }
fits_to (negsuc n) h = record { sfits = omega arith }

pub sum_fits : {w : Width} (x y : ℤ) → ((up x + up y) - (down x + down y)) + ((down x + down y) - suc (up x + up y)) < 2 ^ hbits w → SFits w (x +ℤ y)
sum_fits x y h = fits_to (x +ℤ y) (omega (arith, sum x y))

pub difference_fits : {w : Width} (x y : ℤ) → ((up x + down y) - (down x + up y)) + ((down x + up y) - suc (up x + down y)) < 2 ^ hbits w → SFits w (x -ℤ y)
difference_fits x y h = fits_to (x -ℤ y) (omega (arith, difference x y))

pub times_fits : {w : Width} (k : ℕ) (x : ℤ) → (up x * k - down x * k) + (down x * k - suc (up x * k)) < 2 ^ hbits w → SFits w (x *ℤ pos k)
times_fits k x h = fits_to (x *ℤ pos k) (omega (arith, times k x))

pub ruleset signed = (arith, ≤-from, ≤-to, <-from, <-to, ≡-from, ≡-to, le_z_true, le_z_false, lt_z_true, lt_z_false, le_z_holds, le_z_fails, lt_z_holds, lt_z_fails, not_negative, bits_difference, bits_sum, bits_times, bits, difference_fits, sum_fits, times_fits, fits_to)

-- ---- products of bounded numbers

pub within_size : {k : ℕ} {z : ℤ} → Within k z → nat_abs z ≤ k
within_size {k} {z} h = omega (arith, size z)

pub size_within : {k : ℕ} (z : ℤ) → nat_abs z ≤ k → Within k z
size_within (pos n) h = omega arith
size_within (negsuc n) h = omega arith

size_neg : (n : ℕ) → nat_abs (neg_ℤ (pos n)) ≡ n
size_neg zero = refl
size_neg (suc n) = refl

pub size_product : (x y : ℤ) → nat_abs (x *ℤ y) ≡ nat_abs x * nat_abs y
size_product (pos a) (pos b) = refl
size_product (pos a) (negsuc b) = size_neg (a * suc b)
size_product (negsuc a) (pos b) = size_neg (suc a * b)
size_product (negsuc a) (negsuc b) = refl

pub product : {a b : ℕ} {x y : ℤ} → Within a x → Within b y → Within (a * b) (x *ℤ y)
product {a} {b} {x} {y} h k = size_within (x *ℤ y) (subst (λ (n : ℕ). n ≤ a * b) (sym (size_product x y)) (mul-le-mul (within_size h) (within_size k)))

-- a small number fits: `within_fits w64 tt h`
pub within_fits : (w : Width) {k : ℕ} {z : ℤ} → T (ltb k (2 ^ hbits w)) → Within k z → SFits w z
within_fits w {k} {z} t h = fits_to z (omega (arith, ltb→lt k (2 ^ hbits w) t))

-- the size of a number that fits, fits the unsigned type
pub size_fits : {z : ℤ} → SFits w64 z → Fits w64 (nat_abs z)
size_fits {z} f = record { fits = omega (arith, nat_abs-le z f.sfits) }

-- a number's bits are 0 just where it is
pub zero_bits : {z : ℤ} → SFits w64 z → eqb (of_z w64 z) 0 ≡ eqb (nat_abs z) 0
zero_bits {z = pos n} f = refl
zero_bits {z = negsuc n} f = ne_eqb (2 ^ 64 - suc n) 0 (λ e. let h : n < 2 ^ 63 = f.sfits in omega arith) ∙ sym (ne_eqb (suc n) 0 (λ e. omega arith))
