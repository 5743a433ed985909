-- A lookup that is not refused finds the first record whose threshold is at most the rate, and whatever was handed in, the factor, 0
-- where there is none, is one that a band may have. By the tests that a granted call has passed. Assumes nothing.
use Prim.Native.Nat.{ℕ, zero, suc, ◌-◌, ◌≤◌, ◌<◌}
use mathlib.Core.Path.{◌≡◌, refl, sym, ◌∙◌}
use mathlib.Core.Bool.{Bool, true, false}
use mathlib.Core.List.{List, [], ◌∷◌}
use native.Mathlib.Omega.{arith}
use lib.Dec.{eqb, leb}
use lib.IntN.{ℤ, pos, nat_abs}
use lib.ListN.{length, get_or}
use lib.Signed.{le_z}
use borrow.Author.Tests.{eqb-true, eq-eqb, leb-true, leb-false, le-leb}
use Rattle.whole.specs.Choice.{pick}
use Rattle.whole.specs.Whole.{Within, in_range, all_in_range}
use Rattle.whole.proofs.Choice.{clash, and_both, by_test, all_passed}
use Rattle.whole.proofs.Signed.{inside, opposite, le_z_holds}
use Rattle.whole.proofs.Sums.{all_inside}
use Rattle.units.specs.Limits.{most_score, least_factor, most_factor, is_factor, most_bands}
use Rattle.std.specs.Prelude.{Ok}
use Rattle.std.specs.Result.{result_unwrap_or}
use Rattle.units.specs.Refusals.{bad_reading, bad_bands, refused_as}
use Rattle.units.proofs.Numbered.{answered_ok}
use Rattle.bands.specs.Bands.{fall, last_threshold, bands_fit, bands_refusal, first_place, factor_refusal, factor_answer}
use Rattle.bands.specs.Accepted.{BandsFit, First}
use Rattle.bands.proofs.Steps.{place_first, place_later}

-- ---- the rule, test by test

pub bands_fit_lem : (thresholds factors : List ℤ) → bands_fit thresholds factors ≡ true → BandsFit thresholds factors
unfolding bands_fit
bands_fit_lem ts fs e =
    let a = and_both _ (in_range (pos 0) (pos 0) (last_threshold ts)) e in
    let b = and_both _ (fall ts) a.0 in
    let c = and_both _ (all_in_range least_factor most_factor fs) b.0 in
    let d = and_both _ (all_in_range (pos 0) (pos most_score) ts) c.0 in
    let l = and_both _ (eqb (length fs) (length ts)) d.0 in
    let n = and_both (leb 1 (length ts)) (leb (length ts) most_bands) l.0 in
    record {
      some = leb-true _ _ n.0;
      few = leb-true _ _ n.1;
      even = eqb-true _ _ l.1;
      percent = d.1;
      tenths = c.1;
      falling = b.1;
      ending = a.1;
    }

pub bands_pass : {thresholds factors : List ℤ} → BandsFit thresholds factors → bands_refusal thresholds factors ≡ 0
unfolding bands_refusal bands_fit
bands_pass {thresholds} {factors} f =
    let n = length thresholds in
    rw (le-leb 1 n f.some, le-leb n most_bands f.few, eq-eqb (length factors) n f.even, f.percent, f.tenths, f.falling, f.ending)

pub record LookupFits (thresholds factors : List ℤ) (rate : ℕ) : Type 0 where
  pub bands : BandsFit thresholds factors
  pub rating : leb rate most_score ≡ true

pub lookup_fits : (thresholds factors : List ℤ) (rate : ℕ) → factor_refusal thresholds factors rate ≡ 0 → LookupFits thresholds factors rate
unfolding factor_refusal
lookup_fits ts fs rate e =
    let p = all_passed ((bands_fit ts fs, bad_bands) ∷ (leb rate most_score, bad_reading) ∷ []) refl e in
    record { bands = bands_fit_lem ts fs p.0; rating = p.1.0 }

-- bands that pass, and a rate from 0 to 100
pub lookup_passes : (thresholds factors : List ℤ) (rate : ℕ) → bands_refusal thresholds factors ≡ 0 → rate ≤ most_score → factor_refusal thresholds factors rate ≡ 0
unfolding factor_refusal bands_refusal
lookup_passes thresholds factors rate e h =
    let p = all_passed ((bands_fit thresholds factors, bad_bands) ∷ []) refl e in
    rw (p.0, le-leb rate most_score h)

-- ---- the record that is found

-- a threshold that is at most the rate: the first is not after it
place_least : (ts : List ℤ) (rate : ℤ) (k : ℕ) → k < length ts → le_z (get_or ts k (pos 0)) rate ≡ true → first_place ts rate ≤ k
place_least [] rate k h e = absurd (omega arith)
place_least (t ∷ ts) rate zero h e = omega (arith, place_first t ts rate e)
place_least (t ∷ ts) rate (suc k) h e =
    by_test (le_z t rate) (λ (y : le_z t rate ≡ true). omega (arith, place_first t ts rate y))
    (λ (n : le_z t rate ≡ false). let l : first_place ts rate ≤ k = place_least ts rate k (omega arith) e in omega (arith, place_later t ts rate n))

place_reached : (ts : List ℤ) (rate : ℤ) → first_place ts rate < length ts → le_z (get_or ts (first_place ts rate) (pos 0)) rate ≡ true
place_reached [] rate h = absurd (omega arith)
place_reached (t ∷ ts) rate h =
    by_test (le_z t rate) (λ (y : le_z t rate ≡ true). rw (place_first t ts rate y) y)
    (λ (n : le_z t rate ≡ false). rw (place_later t ts rate n) (place_reached ts rate (omega (arith, place_later t ts rate n))))

place_before : (ts : List ℤ) (rate : ℤ) (i : ℕ) → i < first_place ts rate → le_z (get_or ts i (pos 0)) rate ≡ false
unfolding first_place
place_before [] rate i h = absurd (omega arith)
place_before (t ∷ ts) rate i h =
    by_test (le_z t rate) (λ (y : le_z t rate ≡ true). absurd (omega (arith, place_first t ts rate y)))
    (λ (n : le_z t rate ≡ false). at i n (omega (arith, place_later t ts rate n)) (place_before ts rate))
  where
    at : (i : ℕ) → le_z t rate ≡ false → i < suc (first_place ts rate) → ((k : ℕ) → k < first_place ts rate → le_z (get_or ts k (pos 0)) rate ≡ false) → le_z (get_or (t ∷ ts) i (pos 0)) rate ≡ false
    at zero n l more = n
    at (suc k) n l more = more k (omega arith)

pub first_is : {thresholds factors : List ℤ} {rate : ℕ} → LookupFits thresholds factors rate → First thresholds factors rate (first_place thresholds (pos rate))
first_is {thresholds} {factors} {rate} f =
    let b = f.bands in
    let z = inside b.ending in
    let l = place_least thresholds (pos rate) (length thresholds - 1) (omega (arith, b.some)) (le_z_holds (last_threshold thresholds) (pos rate) (omega arith)) in
    let h : first_place thresholds (pos rate) < length thresholds = omega (arith, b.some) in
    record { there = h; paired = omega (arith, b.even); reached = place_reached thresholds (pos rate) h; first = place_before thresholds (pos rate) }

-- and no other place is
pub first_only : {thresholds factors : List ℤ} {rate place : ℕ} → First thresholds factors rate place → place ≡ first_place thresholds (pos rate)
first_only {thresholds} {factors} {rate} {place} f =
    let found = first_place thresholds (pos rate) in
    let below : found ≤ place = place_least thresholds (pos rate) place f.there f.reached in
    by_test (leb place found) (λ (y : leb place found ≡ true). omega (arith, leb-true place found y))
    (λ (n : leb place found ≡ false).
    let l : found < place = leb-false place found n in
    let h : found < length thresholds = omega (arith, f.there) in
    clash (sym (f.first found l) ∙ place_reached thresholds (pos rate) h))

-- ---- the factor

pub factor_granted : (thresholds factors : List ℤ) (rate : ℕ) → factor_refusal thresholds factors rate ≡ 0
    → factor_answer thresholds factors rate ≡ Ok (get_or factors (first_place thresholds (pos rate)) (pos 0))
unfolding factor_answer
factor_granted thresholds factors rate e = answered_ok _ e

pub factor_inside : (thresholds factors : List ℤ) (rate : ℕ) → is_factor (result_unwrap_or (factor_answer thresholds factors rate) (pos 0)) ≡ true
unfolding factor_answer in_range
factor_inside thresholds factors rate = by (eqb (factor_refusal thresholds factors rate) 0) (eqb-true _ 0)
  where
    by : (b : Bool) → (b ≡ true → factor_refusal thresholds factors rate ≡ 0)
        → is_factor (result_unwrap_or (pick b (Ok (get_or factors (first_place thresholds (pos rate)) (pos 0))) (refused_as (factor_refusal thresholds factors rate))) (pos 0)) ≡ true
    by true e =
        let f = lookup_fits thresholds factors rate (e refl) in
        all_inside least_factor most_factor factors f.bands.tenths (first_place thresholds (pos rate)) (first_is f).paired
    by false e = refl

pub factor_within : (thresholds factors : List ℤ) (rate : ℕ) → Within (nat_abs least_factor) (result_unwrap_or (factor_answer thresholds factors rate) (pos 0))
factor_within thresholds factors rate = let b = inside (factor_inside thresholds factors rate) in omega (arith, opposite (pos (nat_abs least_factor)))
