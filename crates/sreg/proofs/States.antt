-- A state that an hour can end in, and one second more. By cases of the state. Assumes nothing.
use Prim.Native.Nat.{ℕ, ◌+◌, ◌-◌, ◌≤◌}
use mathlib.Core.Path.{◌≡◌, refl}
use mathlib.Core.Bool.{true, false, ◌&&◌}
use native.Mathlib.Omega.{arith}
use lib.Dec.{eqb, leb}
use lib.IntN.{ℤ}
use borrow.Author.Tests.{leb-true, le-leb, eqb-false}
use Rattle.whole.proofs.Choice.{both, and_both, by_test}
use Rattle.units.specs.declared.Kilowatts.{Kilowatts}
use Rattle.units.specs.Limits.{is_power}
use Rattle.sreg.specs.Second.{ends, is_state, next_state, starts, unless_ends, unless_starts, one_scored}
use Rattle.sreg.specs.declared.EventState.{EventState}
use Rattle.sreg.specs.declared.EventState.TheVariants.{Outside, Responding, Holding, Recovering}

-- what the test says of an event's first ten seconds, and of the ten after it
pub record Responds (start : Kilowatts) (scored : ℕ) : Type 0 where
  pub power : is_power start.0 ≡ true
  pub least : 1 ≤ scored
  pub most : scored ≤ 9

pub responds : (start : Kilowatts) (scored : ℕ) → is_state (Responding start scored) ≡ true → Responds start scored
responds start scored e =
    let a = and_both (is_power start.0) (leb 1 scored && leb scored 9) e in
    let b = and_both (leb 1 scored) (leb scored 9) a.1 in
    record { power = a.0; least = leb-true 1 scored b.0; most = leb-true scored 9 b.1 }

pub responding : {start : Kilowatts} {scored : ℕ} → Responds start scored → is_state (Responding start scored) ≡ true
responding {start} {scored} r = both r.power (both (le-leb 1 scored r.least) (le-leb scored 9 r.most))

pub recovers : (left : ℕ) → is_state (Recovering left) ≡ true → (1 ≤ left) × (left ≤ 10)
recovers left e = let b = and_both (leb 1 left) (leb left 10) e in (leb-true 1 left b.0, leb-true left 10 b.1)

pub recovering : {left : ℕ} → 1 ≤ left → left ≤ 10 → is_state (Recovering left) ≡ true
recovering {left} l m = both (le-leb 1 left l) (le-leb left 10 m)

-- one second more
starts_is : (power frequency : ℤ) (state : EventState) → is_power power ≡ true → is_state state ≡ true → is_state (unless_starts power frequency state) ≡ true
unfolding unless_starts
starts_is power frequency state p e =
    by_test (starts frequency)
    (λ (t : starts frequency ≡ true). rw t (both p refl))
    (λ (t : starts frequency ≡ false). rw t e)

ends_is : (frequency : ℤ) (state : EventState) → is_state state ≡ true → is_state (unless_ends frequency state) ≡ true
unfolding unless_ends
ends_is frequency state e =
    by_test (ends frequency)
    (λ (t : ends frequency ≡ true). rw t)
    (λ (t : ends frequency ≡ false). rw t e)

scored_is : (start : Kilowatts) (scored : ℕ) → is_power start.0 ≡ true → 1 ≤ scored → scored ≤ 9 → is_state (one_scored start scored) ≡ true
scored_is start scored p least most =
    by_test (eqb scored 9)
    (λ (t : eqb scored 9 ≡ true). rw t p)
    (λ (t : eqb scored 9 ≡ false). rw t (responding {start = start} {scored = scored + 1} (record { power = p; least = omega arith; most = omega (arith, eqb-false scored 9 t) })))

-- (a power that was tested is the second's or the start's)
pub next_is : (power frequency : ℤ) (state : EventState) → is_state state ≡ true → is_power power ≡ true → is_state (next_state state power frequency) ≡ true
next_is power frequency Outside e p = starts_is _ _ Outside p refl
next_is power frequency (Responding start scored) e p = let r = responds start scored e in ends_is _ _ (scored_is _ scored (search (r.power, p)) r.least r.most)
next_is power frequency (Holding start) e p = ends_is _ (Holding start) e
next_is power frequency (Recovering left) e p =
    let r = recovers left e in
    starts_is _ _ _ p
    (by_test (eqb left 1)
    (λ (t : eqb left 1 ≡ true). rw t)
    (λ (t : eqb left 1 ≡ false). rw t (recovering {left = left - 1} (omega (arith, eqb-false left 1 t)) (omega arith))))
