-- A MOVED REFERENCE (document 02, #107), over the contract as the toolchain reads it: at 60,000 the old answers stand; moving reference and frequency together changes nothing while both are in
-- their ranges; and each corner of document 01's table, moved by any d from -500 to 500, has the table's percents. By the one number that the bounds go by, a frequency's distance from the
-- reference. Assumes nothing.
use Prim.Native.Nat.{ℕ, ◌≤◌}
use mathlib.Core.Path.{◌≡◌, refl, sym, ap, ◌∙◌}
use mathlib.Core.Bool.{true, false}
use native.Mathlib.Omega.{arith}
use lib.IntN.{ℤ, pos, ◌+ℤ◌, ◌-ℤ◌}
use contract.Lifetimes.{Lfts}
use denote.Triple.Clauses.{AtExit}
use borrow.Fn.Kinds.{ended_of}
use Rattle.whole.specs.Whole.{minus, in_range, nearest, with_sign, half_up}
use Rattle.whole.proofs.Bounds.{in_range_lem}
use Rattle.whole.proofs.Choice.{by_test}
use Rattle.whole.proofs.Signed.{signed, sum, difference, inside}
use Rattle.units.specs.Limits.{nominal, is_reference, is_frequency}
use Rattle.units.specs.Units.{millihertz}
use Rattle.std.specs.Prelude.{Result, Ok}
use Rattle.units.specs.declared.refusal.Refusal.{Refusal}
use Rattle.units.specs.declared.Millihertz.{Millihertz}
use Rattle.curve.specs.Curve.{Corner, at_distance, bound, upper_at, lower_at, moved_back, bounds_at, curve_refusal, curve_at}
use Rattle.curve.specs.Moved.{CurveFits, curve_unmoved, unmoved, moved_by}
use Rattle.curve.specs.declared.Bounds.{Bounds}
use Rattle.curve.proofs.Limits.{fit_curve, curve_granted}
use Rattle.curve.proofs.curve.Reads as curve
use Rattle.curve.proofs.curve.Kinds as curve_kinds

-- ---- a frequency moved back

pub back_unmoved : (f : ℤ) → moved_back (pos nominal) f ≡ f
back_unmoved f = omega (signed, difference f (pos 0))

pub back_together : (d r f : ℤ) → moved_back (r +ℤ d) (f +ℤ d) ≡ moved_back r f
back_together d r f =
    omega (signed, sum r d, sum f d, difference (r +ℤ d) (pos nominal), difference r (pos nominal), difference (f +ℤ d) ((r +ℤ d) -ℤ pos nominal), difference f (r -ℤ pos nominal))

-- "every corner moves with it": what is read is the table at the distance from the reference
pub bound_around : (percent : Corner → ℤ) (r f : ℤ) → bound percent (pos nominal) (moved_back r f) ≡ bound percent r f
bound_around percent r f =
    let e : moved_back r f -ℤ pos nominal ≡ f -ℤ r = omega (signed, difference r (pos nominal), difference f (r -ℤ pos nominal), difference (moved_back r f) (pos nominal), difference f r) in
    ap (at_distance percent) e

-- ---- "At 60,000 the old answers are shown to stand"

pub unmoved_fits : is_reference unmoved.0 ≡ true
unfolding in_range
unmoved_fits = refl

pub unmoved_curve : (f : Millihertz) → curve_at f unmoved ≡ curve_unmoved f
unfolding curve_at curve_refusal curve_unmoved
unmoved_curve f =
    by_test (is_frequency f.0)
    (λ (t : is_frequency f.0 ≡ true). rw (unmoved_fits, t, back_unmoved f.0))
    (λ (t : is_frequency f.0 ≡ false). rw (unmoved_fits, t))

pub curve_unmoved_lem : (κs : Lfts 0) (f : Millihertz) (x : Result Bounds Refusal) (s : AtExit (ended_of 0 curve_kinds.ps curve_kinds.r) κs)
    → curve.Post κs (f, (unmoved, tt)) x s → x ≡ curve_unmoved f
curve_unmoved_lem κs f x s p = p ∙ unmoved_curve f

-- ---- moved together

pub together_curve : (d : ℤ) (f r : Millihertz) → CurveFits f r → CurveFits (moved_by d f) (moved_by d r) → curve_at (moved_by d f) (moved_by d r) ≡ curve_at f r
together_curve d f r e g =
    curve_granted (moved_by d f) (moved_by d r) (fit_curve _ _ g) ∙ ap (λ f. Ok (bounds_at f)) (back_together d r.0 f.0) ∙ sym (curve_granted f r (fit_curve f r e))

pub curve_together : (κs ηs : Lfts 0) (d : ℤ) (f r : Millihertz) (x y : Result Bounds Refusal)
    (s : AtExit (ended_of 0 curve_kinds.ps curve_kinds.r) κs) (t : AtExit (ended_of 0 curve_kinds.ps curve_kinds.r) ηs)
    → curve.Post κs (f, (r, tt)) x s → curve.Post ηs (moved_by d f, (moved_by d r, tt)) y t → CurveFits f r → CurveFits (moved_by d f) (moved_by d r) → y ≡ x
curve_together κs ηs d f r x y s t p q e g = q ∙ together_curve d f r e g ∙ sym p

-- ---- the corners

-- the frequency f and the reference, both moved by d, have the percents u and l
abbrev pub CornerMoved : ℕ → ℤ → ℤ → Type 0
CornerMoved f u l = (κs : Lfts 0) (d : ℤ) (x : Result Bounds Refusal) (s : AtExit (ended_of 0 curve_kinds.ps curve_kinds.r) κs) → in_range (minus 500) (pos 500) d ≡ true
    → curve.Post κs (moved_by d (millihertz (pos f)), (moved_by d unmoved, tt)) x s → x ≡ Ok (record { upper = u; lower = l })

in_reach : (f : ℕ) (d : ℤ) → 59750 ≤ f → f ≤ 60250 → in_range (minus 500) (pos 500) d ≡ true → CurveFits (moved_by d (millihertz (pos f))) (moved_by d unmoved)
in_reach f d least most e =
    let b = inside {low = minus 500} {high = pos 500} {z = d} e in
    let r = sum (pos nominal) d in
    let g = sum (pos f) d in
    record { reference = in_range_lem (record { least = omega arith; most = omega arith }); frequency = in_range_lem (record { least = omega arith; most = omega arith }) }

corner_moved : (f : ℕ) → 59750 ≤ f → f ≤ 60250 → CornerMoved f (upper_at (pos f)) (lower_at (pos f))
corner_moved f least most κs d x s e p =
    let g = in_reach f d least most e in
    p ∙ curve_granted _ _ (fit_curve _ _ g) ∙ ap (λ f. Ok (bounds_at f)) (back_together d (pos nominal) (pos f) ∙ back_unmoved (pos f))

-- document 01's table: 59.75, 59.86, 59.98, 60.02, 60.14 and 60.25 Hz
pub corners_moved : CornerMoved 59750 (pos 100) (pos 100) × CornerMoved 59860 (pos 52) (pos 52) × CornerMoved 59980 (pos 9) (minus 9)
    × CornerMoved 60020 (pos 9) (minus 9) × CornerMoved 60140 (minus 52) (minus 52) × CornerMoved 60250 (minus 100) (minus 100)
unfolding upper_at lower_at nearest with_sign half_up
corners_moved = (
  corner_moved 59750 (omega arith) (omega arith),
  corner_moved 59860 (omega arith) (omega arith),
  corner_moved 59980 (omega arith) (omega arith),
  corner_moved 60020 (omega arith) (omega arith),
  corner_moved 60140 (omega arith) (omega arith),
  corner_moved 60250 (omega arith) (omega arith),
)
