-- What a choice by a test comes to: tests that pass together, a chain of refusals that let a call through, and what is kept.
-- By cases of the tests. Assumes nothing.
use Prim.Native.Nat.{ℕ, zero, suc}
use mathlib.Core.Path.{◌≡◌, refl, sym, ap, ◌∙◌}
use mathlib.Core.Bool.{Bool, true, false, ◌&&◌}
use mathlib.Core.List.{List, [], ◌∷◌, ◌++◌}
use native.Mathlib.Omega.{arith}
use lib.Dec.{ltb, eqb}
use borrow.Author.Tests.{eq-eqb, ne_eqb, eqb-true}
use Rattle.whole.specs.Choice.{pick, unless, or_else, in_order, Passed, refusing, kept}

-- no test both fails and passes
pub clash {ℓ} : {X : Type ℓ} → ◌≡◌ {A = Bool} false true → X
clash e = let z : ◌≡◌ {A = ℕ} 0 1 = cc in absurd (omega arith)

pub both : {a b : Bool} → a ≡ true → b ≡ true → (a && b) ≡ true
both p q = rw (p, q)

pub and_both : (a b : Bool) → (a && b) ≡ true → (a ≡ true) × (b ≡ true)
and_both true b e = (refl, e)
and_both false b e = (e, clash e)

-- a test, by its value: the two cases of a lemma
pub by_test {ℓ} : {P : Type ℓ} (b : Bool) → (b ≡ true → P) → (b ≡ false → P) → P
by_test true f g = f refl
by_test false f g = g refl

-- where nothing is refused the test passed, and so did the rest
pub passed : (b : Bool) (n rest : ℕ) → unless b (suc n) rest ≡ 0 → (b ≡ true) × (rest ≡ 0)
passed true n rest e = (refl, e)
passed false n rest e = absurd (omega arith)

-- refusals in order: 0 exactly where all tests pass
pub all_passed : (ts : List (Bool × ℕ)) → refusing ts ≡ true → in_order ts ≡ 0 → Passed ts
all_passed [] n e = tt
all_passed ((true, k) ∷ ts) n e = (refl, all_passed ts (and_both (ltb 0 k) (refusing ts) n).1 e)
all_passed ((false, zero) ∷ ts) n e = clash n
all_passed ((false, suc k) ∷ ts) n e = absurd (omega arith)

pub passed_all : (ts : List (Bool × ℕ)) → Passed ts → in_order ts ≡ 0
passed_all [] p = refl
passed_all ((true, k) ∷ ts) p = passed_all ts p.1
passed_all ((false, k) ∷ ts) p = clash p.0

-- refusals in order, and then more: those come last
pub in_order_then : (ts us : List (Bool × ℕ)) → refusing ts ≡ true → in_order (ts ++ us) ≡ or_else (in_order ts) (in_order us)
in_order_then [] us n = refl
in_order_then ((true, k) ∷ ts) us n = in_order_then ts us (and_both (ltb 0 k) (refusing ts) n).1
in_order_then ((false, zero) ∷ ts) us n = clash n
in_order_then ((false, suc k) ∷ ts) us n = rw (ne_eqb (suc k) 0 (λ e. absurd (omega arith)))

pub both_passed : (k rest : ℕ) → or_else k rest ≡ 0 → (k ≡ 0) × (rest ≡ 0)
both_passed k rest e = by_test (eqb k 0) (λ (t : eqb k 0 ≡ true). (eqb-true k 0 t, rw t at e)) (λ (t : eqb k 0 ≡ false). let z : k ≡ 0 = rw t at e in clash (sym t ∙ eq-eqb k 0 z))

-- which of two refusals it is
pub or_first : {k : ℕ} (rest : ℕ) → (k ≡ 0 → ⊥) → or_else k rest ≡ k
or_first {k} rest h = rw (ne_eqb k 0 h)

pub or_rest : {k : ℕ} (rest : ℕ) → k ≡ 0 → or_else k rest ≡ rest
or_rest {k} rest e = rw (eq-eqb k 0 e)

-- a refusal that comes last in a chain comes last after it
pub unless_then : (b : Bool) (n rest last : ℕ) → unless b (suc n) (or_else rest last) ≡ or_else (unless b (suc n) rest) last
unless_then true n rest last = refl
unless_then false n rest last = rw (ne_eqb (suc n) 0 (λ e. absurd (omega arith)))

pub or_else_then : (k rest last : ℕ) → or_else k (or_else rest last) ≡ or_else (or_else k rest) last
or_else_then k rest last = by_test (eqb k 0) (λ (t : eqb k 0 ≡ true). rw t) (λ (t : eqb k 0 ≡ false). rw t (sym (ap (λ b. pick b last k) t)))

-- what is kept
pub kept_new : {A : Type 0} {k : ℕ} (new old : A) → k ≡ 0 → kept k new old ≡ new
kept_new {k = k} new old e = rw (eq-eqb k 0 e)

pub kept_old : {A : Type 0} {k : ℕ} (new old : A) → (k ≡ 0 → ⊥) → kept k new old ≡ old
kept_old {k = k} new old h = rw (ne_eqb k 0 h)

-- what holds of the new where nothing is refused, and of the old, holds of what is kept
pub kept_any : {A : Type 0} (P : A → Type 0) (k : ℕ) {new old : A} → (k ≡ 0 → P new) → P old → P (kept k new old)
kept_any P k {new} {old} f g = go (eqb k 0) refl
  where
    go : (t : Bool) → eqb k 0 ≡ t → P (pick t new old)
    go true e = f (eqb-true k 0 e)
    go false e = g

-- any reading of what is kept
pub kept_by : {A B : Type 0} (read : A → B) (k : ℕ) {new old : A} {x y : B} → (k ≡ 0 → read new ≡ x) → read old ≡ y → read (kept k new old) ≡ kept k x y
kept_by read k {new} {old} {x} {y} f g = go (eqb k 0) refl
  where
    go : (t : Bool) → eqb k 0 ≡ t → read (pick t new old) ≡ pick t x y
    go true e = f (eqb-true k 0 e)
    go false e = g
