-- What an hour's terms, factor, energy fee and rate fit just where nothing is refused; that nothing is then refused of its parts, so that each is the paper's plain formula; and that the
-- amount fits. By the lists of tests. Assumes nothing.
use Prim.Native.Nat.{ℕ, ◌+◌, ◌≤◌}
use mathlib.Core.Path.{◌≡◌, refl, sym, ap}
use mathlib.Core.Bool.{Bool, true, false, ◌&&◌}
use mathlib.Core.List.{List, [], ◌∷◌}
use native.Mathlib.Omega.{arith}
use lib.Dec.{leb}
use lib.IntN.{ℤ, pos, ◌+ℤ◌}
use lib.ListN.{get_or}
use mir.Syntax.{w64}
use mir.Val.{SFits}
use Rattle.whole.specs.Choice.{unless, or_else, in_order}
use Rattle.whole.specs.Whole.{Within}
use Rattle.whole.proofs.Choice.{both, and_both, by_test, all_passed, passed_all, in_order_then, kept_new}
use Rattle.whole.proofs.Signed.{sum, within_fits}
use Rattle.whole.proofs.Sums.{in_within}
use Rattle.units.specs.Limits.{is_capacity, is_price, is_factor, most_energy_paid, is_energy_paid, most_score}
use Rattle.std.specs.Prelude.{Result, is_ok}
use Rattle.units.specs.Refusals.{bad_reading, result_by}
use Rattle.units.specs.declared.Dollars.{Dollars}
use Rattle.bands.specs.Bands.{bands_fit, bands_refusal, first_place, factor_answer}
use Rattle.std.specs.Result.{result_unwrap_or}
use Rattle.units.specs.declared.refusal.Refusal.{Refusal}
use Rattle.bands.proofs.Laws.{lookup_passes, factor_granted}
use Rattle.fees.specs.Fees.{fee, fee_answer, quality_part, quality_answer, charge_of, most_quality}
use Rattle.fees.specs.declared.Charged.{Charged}
use Rattle.fees.proofs.Laws.{fee_granted, fees_fit_lem, quality_granted, quality_within}
use Rattle.settlement.specs.Settlement.{award_tests, at_tests, at_refusal, earned_by, settled_of, settled_at, earned_at}
use Rattle.settlement.specs.declared.Terms.{Terms}

-- the bands' call refuses just what does not fit
pub bands_test : (thresholds factors : List ℤ) → is_ok (result_by (bands_refusal thresholds factors) (tt {0})) ≡ bands_fit thresholds factors
unfolding bands_refusal
bands_test ts fs = by_test (bands_fit ts fs) (λ (t : bands_fit ts fs ≡ true). rw t) (λ (t : bands_fit ts fs ≡ false). rw t)

-- ---- the tests

-- those of the terms, and then the rate's
pub at_last : (terms : Terms) (banded : Bool) (energy : Dollars) (rate : ℕ)
    → or_else (in_order (award_tests true terms true (is_energy_paid energy.0) banded true)) (unless (leb rate most_score) bad_reading 0) ≡ at_refusal terms banded energy rate
unfolding at_refusal
at_last terms banded energy rate =
    sym (in_order_then (award_tests true terms true (is_energy_paid energy.0) banded true) ((leb rate most_score, bad_reading) ∷ []) refl)

-- what fits: every test of `at_refusal`, as a fact
pub record AtFits (terms : Terms) (banded : Bool) (energy : Dollars) (rate : ℕ) : Type 0 where
  pub capacity : is_capacity terms.capacity.0 ≡ true
  pub clearing : is_price terms.clearing ≡ true
  pub performance : is_price terms.performance ≡ true
  pub paid : is_energy_paid energy.0 ≡ true
  pub bands : banded ≡ true
  pub rated : leb rate most_score ≡ true

pub at_fit : (terms : Terms) (banded : Bool) (energy : Dollars) (rate : ℕ) → at_refusal terms banded energy rate ≡ 0 → AtFits terms banded energy rate
unfolding at_refusal
at_fit terms banded energy rate e =
    let p = all_passed (at_tests terms banded energy rate) refl e in
    let money = and_both (is_price terms.clearing && is_price terms.performance) (is_energy_paid energy.0) p.1.1.1.0 in
    let prices = and_both (is_price terms.clearing) (is_price terms.performance) money.0 in
    record { capacity = p.1.0; clearing = prices.0; performance = prices.1; paid = money.1; bands = p.1.1.1.1.0; rated = p.1.1.1.1.1.1.0 }

pub at_none : {terms : Terms} {banded : Bool} {energy : Dollars} {rate : ℕ} → AtFits terms banded energy rate → at_refusal terms banded energy rate ≡ 0
unfolding at_refusal
at_none {terms} {banded} {energy} {rate} f =
    passed_all (at_tests terms banded energy rate)
    (refl, (f.capacity, (refl, (both (both f.clearing f.performance) f.paid, (f.bands, (refl, (f.rated, tt)))))))

-- and where it fits, the answer is the hour's
pub settled_granted : {terms : Terms} (thresholds factors : List ℤ) {energy : Dollars} {rate : ℕ} → AtFits terms (bands_fit thresholds factors) energy rate
    → settled_at terms thresholds factors energy rate ≡ settled_of terms thresholds factors energy rate
unfolding settled_at
settled_granted thresholds factors f = kept_new _ _ (at_none f)

pub earned_granted : {terms : Terms} (factor : ℤ) {energy : Dollars} {rate : ℕ} → AtFits terms (is_factor factor) energy rate → earned_at terms factor energy rate ≡ earned_by terms factor energy rate
unfolding earned_at
earned_granted factor f = kept_new _ _ (at_none f)

-- ---- the parts, each the paper's formula

pub factor_plain : (thresholds factors : List ℤ) (rate : ℕ) → bands_fit thresholds factors ≡ true → rate ≤ most_score
    → result_unwrap_or (factor_answer thresholds factors rate) (pos 0) ≡ get_or factors (first_place thresholds (pos rate)) (pos 0)
unfolding bands_refusal
factor_plain ts fs rate e l = ap (λ (x : Result ℤ Refusal). result_unwrap_or x (pos 0)) (factor_granted ts fs rate (lookup_passes ts fs rate (rw e) l))

module _ (terms : Terms) (fits : is_capacity terms.capacity.0 ≡ true) where
  pub fee_plain : (price : ℤ) → is_price price ≡ true → (fee_answer price terms.capacity).dollars.0 ≡ fee price terms.capacity.0
  unfolding charge_of
  fee_plain price e = ap (λ (x : Charged). x.dollars.0) (fee_granted (record { size = fits; money = e }))

pub quality_plain : (terms : Terms) (factor : ℤ) → is_factor factor ≡ true →
    let a = (fee_answer terms.clearing terms.capacity).dollars in
    let b = (fee_answer terms.performance terms.capacity).dollars in
    (quality_answer a b factor).dollars.0 ≡ quality_part a.0 b.0 factor
unfolding charge_of
quality_plain terms factor e = ap (λ (x : Charged). x.dollars.0) (quality_granted (fees_fit_lem terms.clearing terms.performance terms.capacity factor e))

-- ---- the amount

pub paid_within : {energy : Dollars} → is_energy_paid energy.0 ≡ true → Within most_energy_paid energy.0
paid_within e = in_within e

pub amount_fits : (capacity performance : Dollars) (factor : ℤ) (energy : Dollars) → Within most_energy_paid energy.0
    → SFits w64 ((quality_answer capacity performance factor).dollars.0 +ℤ energy.0)
amount_fits capacity performance factor energy w = within_fits w64 tt (together _ _ (quality_within capacity performance factor) w)
  where
    together : (x y : ℤ) → Within most_quality x → Within most_energy_paid y → Within (most_quality + most_energy_paid) (x +ℤ y)
    together x y v w = omega (arith, sum x y)
