-- Days laid out one after the other, whatever each day's number of hours H: hours of the month have places below the number of places,
-- different hours have different places, each place is some hour's, and a fold over the places is the fold over the days of the folds over
-- their hours. By induction on the days. Assumes nothing.
use Prim.Native.Nat.{ℕ, zero, suc, ◌+◌, ◌*◌, ◌-◌, ◌≤◌, ◌<◌}
use mathlib.Core.Path.{◌≡◌, refl, sym, ap, ap₂, ◌∙◌, subst}
use mathlib.Core.Bool.{Bool, true, false, ◌&&◌}
use native.Mathlib.Nat.{not-suc-le-zero, le_refl, add-zero, add-suc, suc-mul, zero-mul}
use native.Mathlib.Omega.{arith}
use lib.Dec.{eqb, ltb}
use borrow.Author.Tests.{ltb-true, ltb-false, eqb-true, eqb-false, eq-eqb, ne_eqb}
use Rattle.whole.specs.Folds.{fold_to}
use Rattle.history.specs.Rules.{hours_to}
use Rattle.whole.proofs.Folds.{fold_split}
use Rattle.whole.proofs.Choice.{by_test}

module _ (H : ℕ → ℕ) where
  hours_more : (a b : ℕ) → hours_to H a ≤ hours_to H (a + b)
  unfolding hours_to
  hours_more a zero = rw add-zero (le_refl (hours_to H a))
  hours_more a (suc b) = rw add-suc (omega (arith, hours_more a b))

  hours_le : (a b : ℕ) → a ≤ b → hours_to H a ≤ hours_to H b
  hours_le a b l =
      let e : a + (b - a) ≡ b = omega arith in
      subst (λ n. hours_to H a ≤ hours_to H n) e (hours_more a (b - a))

  pub place_below : (d x n : ℕ) → 1 ≤ d → d ≤ n → x < H d → hours_to H (d - 1) + x < hours_to H n
  unfolding hours_to
  place_below zero x n o l h = absurd (omega arith)
  place_below (suc k) x n o l h =
      let e : suc k - 1 ≡ k = omega arith in
      rw e (omega (arith, hours_le (suc k) n l))

  pub place_same : (d x e y : ℕ) → 1 ≤ d → 1 ≤ e → x < H d → y < H e → eqb (hours_to H (e - 1) + y) (hours_to H (d - 1) + x) ≡ (eqb d e && eqb x y)
  place_same d x e y d1 e1 hx hy = go (eqb d e) refl (eqb x y) refl
    where
      before : (a b u v : ℕ) → a < b → 1 ≤ a → u < H a → hours_to H (a - 1) + u < hours_to H (b - 1) + v
      before a b u v l o h = omega (arith, place_below a u (b - 1) o (omega arith) h)

      apart : (t : Bool) → ltb d e ≡ t → (d ≡ e → ⊥) → hours_to H (e - 1) + y ≡ hours_to H (d - 1) + x → ⊥
      apart true p n z = omega (arith, before d e x y (ltb-true d e p) d1 hx)
      apart false p n z = omega (arith, before e d y x (omega (arith, ltb-false d e p)) e1 hy)

      go : (s : Bool) → eqb d e ≡ s → (t : Bool) → eqb x y ≡ t → eqb (hours_to H (e - 1) + y) (hours_to H (d - 1) + x) ≡ (s && t)
      go true p true q = eq-eqb _ _ (ap₂ (λ i j. hours_to H (i - 1) + j) (sym (eqb-true d e p)) (sym (eqb-true x y q)))
      go true p false q = ne_eqb _ _ (λ (z : hours_to H (e - 1) + y ≡ hours_to H (d - 1) + x). eqb-false x y q (omega (arith, ap (λ i. hours_to H (i - 1)) (eqb-true d e p))))
      go false p t q = ne_eqb _ _ (apart (ltb d e) refl (eqb-false d e p))

  -- the hour of a place
  pub record HourAt (n p : ℕ) : Type 0 where
    pub day : ℕ
    pub hour : ℕ
    pub one : 1 ≤ day
    pub last : day ≤ n
    pub short : hour < H day
    pub is : hours_to H (day - 1) + hour ≡ p

  pub hour_at : (n p : ℕ) → p < hours_to H n → HourAt n p
  unfolding hours_to
  hour_at zero p l = absurd (not-suc-le-zero l)
  hour_at (suc n) p l =
      by_test (ltb p (hours_to H n))
      (λ (t : ltb p (hours_to H n) ≡ true).
      let k = hour_at n p (ltb-true p (hours_to H n) t) in
      record { day = k.day; hour = k.hour; one = k.one; last = omega (arith, k.last); short = k.short; is = k.is })
      (λ (t : ltb p (hours_to H n) ≡ false).
      let m = ltb-false p (hours_to H n) t in
      let e : suc n - 1 ≡ n = omega arith in
      record {
        day = suc n;
        hour = p - hours_to H n;
        one = omega arith;
        last = le_refl (suc n);
        short = omega arith;
        is = rw e (omega arith);
      })

  module _ {M : Type 0} (ε : M) (op : M → M → M) (unit : (x : M) → op x ε ≡ x) (assoc : (x y z : M) → op (op x y) z ≡ op x (op y z)) where
    pub fold_hours : (n : ℕ) (f : ℕ → M) → fold_to ε op (hours_to H n) f ≡ fold_to ε op n (λ k. fold_to ε op (H (suc k)) (λ x. f (hours_to H k + x)))
    unfolding fold_to hours_to
    fold_hours zero f = refl
    fold_hours (suc n) f =
        fold_split ε op unit assoc (hours_to H n) (H (suc n)) f
        ∙ ap (λ z. op z (fold_to ε op (H (suc n)) (λ x. f (hours_to H n + x)))) (fold_hours n f)

-- days of h hours each
pub hours_even : (h k : ℕ) → hours_to (λ _. h) k ≡ k * h
unfolding hours_to
hours_even h zero = sym (zero-mul h)
hours_even h (suc k) = rw (hours_even h k) (sym (suc-mul k h))
