-- Document 01, "The power curve" (document 001, table 1): upper and lower power in percent of capacity, straight between the corners. The table stands by distances
-- from a reference frequency, which is 60 Hz where nobody moves it (document 02, #107).
use Rattle.std.specs.Prelude.{ℕ, zero, suc, ◌+◌, ◌*◌, ◌-◌, List, [], ◌∷◌, Result, ℤ, pos, nat_abs, ◌+ℤ◌, ◌-ℤ◌, ◌*ℤ◌}
use Rattle.std.specs.Int.Signed.{le_z}
use Rattle.whole.specs.Choice.{pick, in_order}
use Rattle.whole.specs.Whole.{minus, nearest}
use Rattle.units.specs.Limits.{nominal, is_reference, is_frequency}
use Rattle.units.specs.Refusals.{bad_reference, bad_reading, result_by}
use Rattle.units.specs.declared.refusal.Refusal.{Refusal}
use Rattle.units.specs.declared.Millihertz.{Millihertz}
use Rattle.curve.specs.declared.Bounds.{Bounds}

-- how far from the reference the outer corners are, in millihertz, and the percent there
abbrev pub reach : ℕ
reach = 250

abbrev pub most_percent : ℕ
most_percent = 100

-- a corner: its distance from the reference in millihertz, and the upper and the lower percent there
pub record Corner : Type 0 where
  pub at : ℤ
  pub upper : ℤ
  pub lower : ℤ

abbrev pub corner : ℤ → ℤ → ℤ → Corner
corner d u l = record { at = d; upper = u; lower = l }

-- one of the two bounds: the nearest whole percent to the straight line from p to q, at the distance d
abbrev pub line : (Corner → ℤ) → Corner → Corner → ℤ → ℤ
line percent p q d =
    let run = q.at -ℤ p.at in
    nearest (percent p *ℤ run +ℤ (d -ℤ p.at) *ℤ (percent q -ℤ percent p)) (nat_abs run)

-- level up to the first corner, straight from each corner to the next, level after the last
abbrev pub along : (Corner → ℤ) → Corner → List Corner → ℤ → ℤ
along percent p [] d = percent p
along percent p (q ∷ qs) d =
    pick (le_z d p.at) (percent p) (pick (le_z d q.at) (line percent p q d) (along percent q qs d))

-- the paper's table: 59.75, 59.86, 59.98, 60.02, 60.14 and 60.25 Hz
abbrev pub at_distance : (Corner → ℤ) → ℤ → ℤ
at_distance percent =
    along percent
    (corner (minus reach) (pos most_percent) (pos most_percent))
    (corner (minus 140) (pos 52) (pos 52)
    ∷ corner (minus 20) (pos 9) (minus 9)
    ∷ corner (pos 20) (pos 9) (minus 9)
    ∷ corner (pos 140) (minus 52) (minus 52)
    ∷ corner (pos reach) (minus most_percent) (minus most_percent)
    ∷ [])

-- one of the two bounds of the frequency f, with the corners around a reference
abbrev pub bound : (Corner → ℤ) → ℤ → ℤ → ℤ
bound percent around f = at_distance percent (f -ℤ around)

unfoldable pub upper_at : ℤ → ℤ
upper_at f = bound (λ (c : Corner). c.upper) (pos nominal) f

unfoldable pub lower_at : ℤ → ℤ
lower_at f = bound (λ (c : Corner). c.lower) (pos nominal) f

-- "every corner moves with [the reference]" (document 02, #107): by a reference, the bounds of a frequency are those of the frequency less (reference - 60,000)
abbrev pub moved_back : ℤ → ℤ → ℤ
moved_back reference f = f -ℤ (reference -ℤ pos nominal)

abbrev pub upper_by : ℤ → ℤ → ℤ
upper_by reference f = upper_at (moved_back reference f)

abbrev pub lower_by : ℤ → ℤ → ℤ
lower_by reference f = lower_at (moved_back reference f)

abbrev pub bounds_at : ℤ → Bounds
bounds_at f = record { upper = upper_at f; lower = lower_at f }

abbrev pub bounds_by : ℤ → ℤ → Bounds
bounds_by reference f = record { upper = upper_by reference f; lower = lower_by reference f }

-- "19 for a reference outside the range" (document 02, #107), 4
unfoldable pub curve_refusal : Millihertz → Millihertz → ℕ
curve_refusal frequency reference = in_order ((is_reference reference.0, bad_reference) ∷ (is_frequency frequency.0, bad_reading) ∷ [])

-- the pair of a frequency by a reference, each in its range
unfoldable pub curve_at : Millihertz → Millihertz → Result Bounds Refusal
curve_at frequency reference = result_by (curve_refusal frequency reference) (bounds_by reference.0 frequency.0)

-- n pairs, an upper bound and its lower one, from the frequency f on
abbrev pub pairs_from : ℕ → ℕ → List ℤ
pairs_from f zero = []
pairs_from f (suc n) = upper_at (pos f) ∷ lower_at (pos f) ∷ pairs_from (suc f) n

-- "a table of 501 pairs, one for each millihertz from 59,750 to 60,250": from the first corner to the last
abbrev pub first_frequency : ℕ
first_frequency = nominal - reach

abbrev pub last_place : ℕ
last_place = 2 * reach

unfoldable pub pairs_of : List ℤ
pairs_of = pairs_from first_frequency (last_place + 1)
