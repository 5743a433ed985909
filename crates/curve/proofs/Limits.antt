-- What crates above cite: a bound lies from -100 to 100 percent, whatever frequency is handed in, and what the curve lets through. The bound once for both: at the 501 distances of the table by
-- computing them, and outside by the level ends. Assumes nothing.
use Prim.Native.Nat.{ℕ, ◌+◌, ◌*◌, ◌<◌}
use mathlib.Core.Path.{◌≡◌, refl, sym, ap, ◌∙◌}
use mathlib.Core.Bool.{Bool, true}
use mathlib.Core.List.{List, [], ◌∷◌}
use native.Mathlib.Omega.{arith}
use lib.IntN.{ℤ, pos, ◌-ℤ◌}
use lib.ListN.{length, get_or}
use lib.Signed.{le_z}
use mir.Syntax.{w64}
use mir.Val.{SFits}
use Rattle.whole.specs.Folds.{fold_to, all_to}
use Rattle.whole.specs.Whole.{minus, Within, in_range, nearest, with_sign, half_up}
use Rattle.whole.proofs.Choice.{all_passed}
use Rattle.whole.proofs.Folds.{all_at}
use Rattle.whole.proofs.Signed.{signed, difference, inside}
use Rattle.whole.proofs.Sums.{in_within}
use Rattle.units.specs.Limits.{nominal, least_reference, most_reference, is_reference, least_frequency, most_frequency, is_frequency}
use Rattle.units.specs.Refusals.{bad_reference, bad_reading}
use Rattle.units.specs.declared.Millihertz.{Millihertz}
use Rattle.std.specs.Prelude.{Ok}
use Rattle.units.proofs.Numbered.{answered_ok}
use Rattle.curve.specs.Curve.{reach, Corner, at_distance, upper_at, lower_at, moved_back, bounds_by, curve_refusal, curve_at, first_frequency, last_place, pairs_of, most_percent}
use Rattle.curve.specs.Moved.{CurveFits}
use Rattle.curve.specs.Inner.{past_first, place_past, place_by, place_at}
use Rattle.curve.proofs.Entries.{entry, length_pairs}
use Rattle.curve.proofs.Laws.{Ends, clipped, place_moved, upper_placed, lower_placed}

pub place_within : (f : ℤ) → place_at f < last_place + 1
unfolding place_at place_past
place_within f = omega arith

-- the bound at each of the table's distances is a percent
abbrev is_percent : (Corner → ℤ) → ℕ → Bool
is_percent percent k = in_range (minus most_percent) (pos most_percent) (at_distance percent (pos (first_frequency + k) -ℤ pos nominal))

abbrev Percents : (Corner → ℤ) → Type 0
Percents percent = all_to (last_place + 1) (is_percent percent) ≡ true

module _ (percent : Corner → ℤ) (ends : Ends percent) (percents : Percents percent) where
  distance_within : (d : ℤ) → Within most_percent (at_distance percent d)
  unfolding place_past
  distance_within d =
      in_within {k = most_percent} (ap (in_range (minus most_percent) (pos most_percent)) (sym (clipped percent ends d)) ∙ all_at (last_place + 1) (is_percent percent) percents (place_by d) (omega arith))

pub upper_within : (f : ℤ) → Within most_percent (upper_at f)
unfolding upper_at nearest with_sign half_up in_range fold_to
upper_within f = distance_within (λ (c : Corner). c.upper) refl refl (f -ℤ pos nominal)

pub lower_within : (f : ℤ) → Within most_percent (lower_at f)
unfolding lower_at nearest with_sign half_up in_range fold_to
lower_within f = distance_within (λ (c : Corner). c.lower) refl refl (f -ℤ pos nominal)

-- the lower bound is never above the upper one
abbrev is_ordered : ℕ → Bool
is_ordered k = le_z (lower_at (pos (first_frequency + k))) (upper_at (pos (first_frequency + k)))

table_ordered : all_to (last_place + 1) is_ordered ≡ true
unfolding upper_at lower_at nearest with_sign half_up fold_to
table_ordered = refl

pub bounds_ordered : (f : ℤ) → le_z (lower_at f) (upper_at f) ≡ true
bounds_ordered f = rw (upper_placed f, lower_placed f) at (all_at (last_place + 1) is_ordered table_ordered (place_at f) (place_within f))

-- the place that the code finds
pub placed_by : (r f : ℤ) {steps : ℤ} {k : ℕ} → steps ≡ past_first r f → k ≡ place_past steps → k ≡ place_at (moved_back r f)
placed_by r f e k = k ∙ ap place_past e ∙ place_moved r f

-- what the table has at the place of a frequency
module _ (f : ℤ) {l : List ℤ} {k : ℕ} (table : l ≡ pairs_of) (at : k ≡ place_at f) where
  pub pair_inside : 2 * k + 1 < length l
  pair_inside = omega (arith, ap length table, length_pairs, place_within f)

  pub upper_in : get_or l (2 * k) (pos 0) ≡ upper_at f
  upper_in = rw (table, at) ((entry (place_at f) (place_within f)).upper ∙ upper_placed f)

  pub lower_in : get_or l (2 * k + 1) (pos 0) ≡ lower_at f
  lower_in = rw (table, at) ((entry (place_at f) (place_within f)).lower ∙ lower_placed f)

-- ---- by a reference (document 02, #107)

module _ (f r : Millihertz) where
  pub curve_fit : curve_refusal f r ≡ 0 → CurveFits f r
  unfolding curve_refusal
  curve_fit e =
      let p = all_passed ((is_reference r.0, bad_reference) ∷ (is_frequency f.0, bad_reading) ∷ []) refl e in
      record { reference = p.0; frequency = p.1.0 }

  pub fit_curve : CurveFits f r → curve_refusal f r ≡ 0
  unfolding curve_refusal
  fit_curve e = rw (e.reference, e.frequency)

  -- a frequency and a reference in their ranges have the bounds of the frequency moved back
  pub curve_granted : curve_refusal f r ≡ 0 → curve_at f r ≡ Ok (bounds_by r.0 f.0)
  unfolding curve_at
  curve_granted e = answered_ok _ e

-- the first corner around a reference, and how far a frequency lies past it, fit 64 bits
pub record PastFits (r f : ℤ) : Type 0 where
  pub first : SFits w64 (r -ℤ pos reach)
  pub past : SFits w64 (past_first r f)

pub past_fits : (r f : ℤ) → is_reference r ≡ true → is_frequency f ≡ true → PastFits r f
past_fits r f e g =
    let a = inside {low = pos least_reference} {high = pos most_reference} {z = r} e in
    let b = inside {low = pos least_frequency} {high = pos most_frequency} {z = f} g in
    let d = difference r (pos reach) in
    record { first = omega signed; past = omega signed }
