-- The curve is level outside its corners: a distance has the bounds of the nearest one that the table has. Once for both bounds, by the order of the
-- distance and the outer corners. Assumes nothing.
use Prim.Native.Nat.{◌+◌, ◌-◌, min}
use mathlib.Core.Path.{◌≡◌, refl, sym, ap, ◌∙◌}
use mathlib.Core.Bool.{true, false}
use native.Mathlib.Omega.{arith}
use lib.IntN.{ℤ, pos, negsuc, ◌+ℤ◌, ◌-ℤ◌}
use lib.Signed.{le_z}
use Rattle.whole.specs.Whole.{minus, up, down, nearest, with_sign, half_up}
use Rattle.whole.proofs.Choice.{by_test}
use mir.Facts.{to_z-of_z}
use Rattle.whole.proofs.Signed.{signed, size, sum, difference}
use Rattle.units.specs.Limits.{nominal}
use Rattle.curve.specs.Curve.{reach, Corner, corner, at_distance, upper_at, lower_at, moved_back, first_frequency, last_place}
use Rattle.curve.specs.Inner.{past_first, place_past, place_by, place_at}

-- the distance of the place that a distance is read at
abbrev pub clip : ℤ → ℤ
clip d = pos (first_frequency + place_by d) -ℤ pos nominal

-- the last line ends in the last corner
abbrev pub Ends : (Corner → ℤ) → Type 0
Ends percent = at_distance percent (pos reach) ≡ percent (corner (pos reach) (minus 100) (minus 100))

above_zero : (z : ℤ) → up z ≡ up z - down z
above_zero (pos n) = omega arith
above_zero (negsuc n) = omega arith

-- the place, as `omega` reads it
pub placed : (steps : ℤ) → place_past steps ≡ min (up steps - down steps) last_place
unfolding place_past
placed steps = omega (arith, above_zero steps)

-- what `place` goes by: the definition by its two tests, and a number by its bits
pub ruleset placing = (signed, placed, size, to_z-of_z)

by_distance : (d : ℤ) → place_by d ≡ min ((up d + reach) - down d) last_place
by_distance d = omega (arith, sum d (pos reach), placed (d +ℤ pos reach))

-- so far past the moved first corner is read the frequency moved back
pub place_moved : (r f : ℤ) → place_past (past_first r f) ≡ place_at (moved_back r f)
unfolding place_at
place_moved r f =
    omega (
      arith,
      placed (past_first r f),
      by_distance (moved_back r f -ℤ pos nominal),
      difference r (pos reach),
      difference f (r -ℤ pos reach),
      difference r (pos nominal),
      difference f (r -ℤ pos nominal),
      difference (moved_back r f) (pos nominal),
    )

clip_is : (d : ℤ) → up (clip d) + nominal ≡ (first_frequency + place_by d) + down (clip d)
clip_is d = omega (arith, difference (pos (first_frequency + place_by d)) (pos nominal))

module _ (percent : Corner → ℤ) (ends : Ends percent) where
  before : (d : ℤ) → le_z d (minus reach) ≡ true → at_distance percent d ≡ at_distance percent (minus reach)
  before d h = simp h

  after : (d : ℤ) → le_z d (pos reach) ≡ false → at_distance percent d ≡ at_distance percent (pos reach)
  after d h =
      let a : le_z d (minus reach) ≡ false = omega signed in
      let b : le_z d (minus 140) ≡ false = omega signed in
      let c : le_z d (minus 20) ≡ false = omega signed in
      let e : le_z d (pos 20) ≡ false = omega signed in
      let f : le_z d (pos 140) ≡ false = omega signed in
      simp (ends, a, b, c, e, f, h)

  pub clipped : (d : ℤ) → at_distance percent (clip d) ≡ at_distance percent d
  clipped d =
      by_test (le_z d (minus reach))
      (λ (t : le_z d (minus reach) ≡ true).
      let e : clip d ≡ minus reach = omega (signed, clip_is d, by_distance d) in
      ap (at_distance percent) e ∙ sym (before d t))
      (λ (t : le_z d (minus reach) ≡ false).
      by_test (le_z d (pos reach))
      (λ (u : le_z d (pos reach) ≡ true).
      let e : clip d ≡ d = omega (signed, clip_is d, by_distance d) in
      ap (at_distance percent) e)
      (λ (u : le_z d (pos reach) ≡ false).
      let e : clip d ≡ pos reach = omega (signed, clip_is d, by_distance d) in
      ap (at_distance percent) e ∙ sym (after d u)))

-- the frequency of the place that a frequency is read at has its bounds
pub upper_placed : (f : ℤ) → upper_at (pos (first_frequency + place_at f)) ≡ upper_at f
unfolding upper_at place_at nearest with_sign half_up
upper_placed f = clipped (λ (c : Corner). c.upper) refl (f -ℤ pos nominal)

pub lower_placed : (f : ℤ) → lower_at (pos (first_frequency + place_at f)) ≡ lower_at f
unfolding lower_at place_at nearest with_sign half_up
lower_placed f = clipped (λ (c : Corner). c.lower) refl (f -ℤ pos nominal)
