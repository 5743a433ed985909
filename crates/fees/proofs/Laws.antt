-- The fees of an hour: how large an answer is whatever was handed in, that a granted answer is the paper's formula, and that both fees
-- go into a quality part. By the ranges that a granted call has tested. Assumes nothing.
use Prim.Native.Nat.{ℕ, ◌+◌, ◌*◌, ◌≤◌, ◌<◌}
use mathlib.Core.Path.{◌≡◌, refl, sym, ap, ◌∙◌}
use mathlib.Core.Bool.{Bool, true, false, ◌&&◌}
use mathlib.Core.List.{List, [], ◌∷◌}
use native.Mathlib.Omega.{arith}
use lib.Dec.{eqb}
use lib.IntN.{ℤ, pos, nat_abs, neg_ℤ, ◌+ℤ◌, ◌*ℤ◌, *ℤ-zero}
use lib.ListN.{length, get_or, drop, length-take, length-drop}
use lib.Seq.{get_or-take, get_or-drop}
use lib.Signed.{lt_z}
use borrow.Author.Tests.{eqb-true, eq-eqb}
use Rattle.whole.specs.Choice.{pick}
use Rattle.whole.specs.Folds.{fold_to, sum_to, sum_of}
use Rattle.whole.specs.Whole.{minus, Within, Between, nearest, with_sign, half_up}
use Rattle.whole.proofs.Choice.{and_both, all_passed, kept_new}
use Rattle.whole.proofs.Folds.{fold_same}
use Rattle.whole.proofs.Rounding.{nearest_within}
use Rattle.whole.proofs.Signed.{inside, opposite, product, sum, within_size}
use Rattle.whole.proofs.Sums.{in_within, all_inside, inside_all, sum_within, sum_part}
use Rattle.units.specs.Refusals.{wrong_length, bad_capacity, bad_money, bad_reading, bad_bands, bad_transfer}
use Rattle.units.specs.Limits.{most_capacity, is_capacity, most_power, is_power, are_powers, are_transfers, least_factor, is_factor, most_price, is_price, most_fee, is_fee, seconds_of_hour, seconds_of_quarter}
use Rattle.units.specs.declared.Kilowatts.{Kilowatts}
use Rattle.units.specs.declared.Dollars.{Dollars}
use Rattle.fees.specs.Fees.{charge_of, no_charge, charge_by, fee, charge_refusal, fee_answer, quality_part, quality_refusal, quality_answer, signed_price, quarter_powers, quarter_part, energy_parts, parts_of_dollar, energy_fee, most_energy_fee, most_quality, most_hour_amount, energy_refusal, energy_answer, energy_exact}
use Rattle.fees.specs.declared.Exact.{Exact}
use Rattle.fees.specs.Accepted.{FeeFits, QualityFits, EnergyFits}
use Rattle.whole.proofs.Bounds.{to_within, in_range_lem, product_between, nearest_between}

-- a fact of a granted amount and of 0 is one of the answer
charge_has : (P : ℤ → Type 0) (k : ℕ) (amount : ℤ) → (k ≡ 0 → P amount) → P (pos 0) → P (charge_by k amount).dollars.0
unfolding charge_of no_charge
charge_has P k amount new old = by (eqb k 0) (eqb-true k 0)
  where
    by : (b : Bool) → (b ≡ true → k ≡ 0) → P (pick b (charge_of amount) (no_charge k)).dollars.0
    by true e = new (e refl)
    by false e = old

nothing : (k : ℕ) → Within k (pos 0)
nothing k = omega arith

-- ---- capacity fee and performance fee

pub fee_fits : (price : ℤ) (capacity : Kilowatts) → charge_refusal price capacity ≡ 0 → FeeFits price capacity
unfolding charge_refusal
fee_fits price capacity e =
    let p = all_passed ((is_capacity capacity.0, bad_capacity) ∷ (is_price price, bad_money) ∷ []) refl e in
    record { size = p.0; money = p.1.0 }

pub fee_passes : {price : ℤ} {capacity : Kilowatts} → FeeFits price capacity → charge_refusal price capacity ≡ 0
unfolding charge_refusal
fee_passes f = rw (f.size, f.money)

-- at most 10^12
pub fee_product : {price : ℤ} {capacity : Kilowatts} → FeeFits price capacity → Between (pos 0) (pos (most_price * most_capacity)) (price *ℤ capacity.0)
fee_product {price} {capacity} f =
    let a = inside f.size in
    product_between price capacity.0 (inside f.money) (record { least = omega arith; most = a.most })

pub fee_granted : {price : ℤ} {capacity : Kilowatts} → FeeFits price capacity → fee_answer price capacity ≡ charge_of (fee price capacity.0)
unfolding fee_answer
fee_granted {price} {capacity} f = kept_new (charge_of (fee price capacity.0)) (no_charge (charge_refusal price capacity)) (fee_passes f)

pub fee_between : (price : ℤ) (capacity : Kilowatts) → Between (pos 0) (pos most_fee) (fee_answer price capacity).dollars.0
unfolding fee_answer fee
fee_between price capacity =
    charge_has (Between (pos 0) (pos most_fee)) (charge_refusal price capacity) (fee price capacity.0)
    (λ e. nearest_between (price *ℤ capacity.0) (100 * 1000) most_fee (omega arith) (fee_product (fee_fits price capacity e)))
    (omega arith)

pub fee_within : (price : ℤ) (capacity : Kilowatts) → Within most_fee (fee_answer price capacity).dollars.0
fee_within price capacity = to_within (fee_between price capacity)

-- ---- quality part

pub quality_fits : (capacity performance : Dollars) (factor : ℤ) → quality_refusal capacity performance factor ≡ 0 → QualityFits capacity performance factor
unfolding quality_refusal
quality_fits capacity performance factor e =
    let p = all_passed ((is_fee capacity.0 && is_fee performance.0, bad_money) ∷ (is_factor factor, bad_bands) ∷ []) refl e in
    let b = and_both (is_fee capacity.0) (is_fee performance.0) p.0 in
    record { first = b.0; second = b.1; tenths = p.1.0 }

pub quality_passes : {capacity performance : Dollars} {factor : ℤ} → QualityFits capacity performance factor → quality_refusal capacity performance factor ≡ 0
unfolding quality_refusal
quality_passes f = rw (f.first, f.second, f.tenths)

-- both fees of an hour go into its quality part, whatever the prices and the capacity were
pub fees_fit_lem : (clearing performance : ℤ) (capacity : Kilowatts) (factor : ℤ) → is_factor factor ≡ true
    → QualityFits (fee_answer clearing capacity).dollars (fee_answer performance capacity).dollars factor
fees_fit_lem clearing performance capacity factor e =
    record { first = in_range_lem (fee_between clearing capacity); second = in_range_lem (fee_between performance capacity); tenths = e }

-- both fees at most 2 x 10^7, and by the factor 4.8 x 10^9
pub fees_within : {capacity performance : Dollars} {factor : ℤ} → QualityFits capacity performance factor → Within (2 * most_fee) (capacity.0 +ℤ performance.0)
fees_within {capacity} {performance} f =
    let a = inside f.first in
    let b = inside f.second in
    omega (arith, sum capacity.0 performance.0)

pub quality_product : {capacity performance : Dollars} {factor : ℤ} → QualityFits capacity performance factor → Within (2 * most_fee * nat_abs least_factor) ((capacity.0 +ℤ performance.0) *ℤ factor)
quality_product {factor = factor} f =
    let t = inside f.tenths in
    let w : Within (nat_abs least_factor) factor = omega (arith, opposite (pos (nat_abs least_factor))) in
    product (fees_within f) w

pub quality_granted : {capacity performance : Dollars} {factor : ℤ} → QualityFits capacity performance factor
    → quality_answer capacity performance factor ≡ charge_of (quality_part capacity.0 performance.0 factor)
unfolding quality_answer
quality_granted {capacity} {performance} {factor} f =
    kept_new (charge_of (quality_part capacity.0 performance.0 factor)) (no_charge (quality_refusal capacity performance factor)) (quality_passes f)

pub quality_within : (capacity performance : Dollars) (factor : ℤ) → Within most_quality (quality_answer capacity performance factor).dollars.0
unfolding quality_answer quality_part
quality_within capacity performance factor =
    charge_has (Within most_quality) (quality_refusal capacity performance factor) (quality_part capacity.0 performance.0 factor)
    (λ e.
    nearest_within ((capacity.0 +ℤ performance.0) *ℤ factor) 10 most_quality (omega arith)
    (within_size (quality_product (quality_fits capacity performance factor e))))
    (nothing most_quality)

-- ---- energy service fee

pub energy_fits : (powers targets : List ℤ) (discharge charge : ℤ) → energy_refusal powers targets discharge charge ≡ 0 → EnergyFits powers targets discharge charge
unfolding energy_refusal
energy_fits powers targets discharge charge e =
    let s = eqb (length powers) seconds_of_hour in
    let t = eqb (length targets) 4 in
    let a = all_passed ((s && t, wrong_length) ∷ (is_price discharge && is_price charge, bad_money) ∷ (are_transfers targets, bad_transfer) ∷ (are_powers powers, bad_reading) ∷ []) refl e in
    let l = and_both s t a.0 in
    let p = and_both (is_price discharge) (is_price charge) a.1.0 in
    record { seconds = eqb-true _ _ l.0; quarters = eqb-true _ _ l.1; discharging = p.0; charging = p.1; transfers = a.1.1.0; readings = a.1.1.1.0 }

pub energy_passes : {powers targets : List ℤ} {discharge charge : ℤ} → EnergyFits powers targets discharge charge → energy_refusal powers targets discharge charge ≡ 0
unfolding energy_refusal
energy_passes {powers} {targets} f =
    rw (eq-eqb (length powers) seconds_of_hour f.seconds, eq-eqb (length targets) 4 f.quarters, f.discharging, f.charging, f.transfers, f.readings)

pub signed_price_within : (discharge charge target : ℤ) → is_price discharge ≡ true → is_price charge ≡ true → Within most_price (signed_price discharge charge target)
unfolding signed_price
signed_price_within discharge charge target d c = by (lt_z (pos 0) target) (lt_z target (pos 0))
  where
    by : (a b : Bool) → Within most_price (pick a discharge (pick b (neg_ℤ charge) (pos 0)))
    by true b = to_within (inside d)
    by false true = let w = inside c in omega (arith, opposite charge)
    by false false = nothing most_price

module _ {powers targets : List ℤ} {discharge charge : ℤ} (f : EnergyFits powers targets discharge charge) where
  pub quarter_length : (q : ℕ) → q < 4 → length (quarter_powers powers q) ≡ seconds_of_quarter
  quarter_length q h = let l = f.seconds in simp (length-take, length-drop) (omega arith)

  reading : (n : ℕ) → n < seconds_of_hour → is_power (get_or powers n (pos 0)) ≡ true
  reading n h = let l = f.seconds in all_inside (minus most_power) (pos most_power) powers f.readings n (omega arith)

  -- a quarter's powers are in their range, and their sum is at most 900 x 200,000 = 1.8 x 10^8
  pub quarter_powers_lem : (q : ℕ) → q < 4 → are_powers (quarter_powers powers q) ≡ true
  quarter_powers_lem q h =
      inside_all (minus most_power) (pos most_power) (quarter_powers powers q)
      (λ i l.
      let m : i < seconds_of_quarter = omega (arith, quarter_length q h) in
      rw (get_or-take seconds_of_quarter (drop (q * seconds_of_quarter) powers) i (pos 0) m, get_or-drop (q * seconds_of_quarter) powers i (pos 0))
      (reading (q * seconds_of_quarter + i) (omega arith)))

  pub quarter_within : (q : ℕ) → q < 4 → Within (most_power * seconds_of_quarter) (sum_of (quarter_powers powers q))
  quarter_within q h =
      let l = f.seconds in
      rw (sum_part powers (q * seconds_of_quarter) seconds_of_quarter (omega arith))
      (sum_within {k = most_power} seconds_of_quarter (λ k. get_or powers (q * seconds_of_quarter + k) (pos 0)) (λ k m. in_within (reading (q * seconds_of_quarter + k) (omega arith))))

  -- at its price 1.8 x 10^15, and up to four of them 7.2 x 10^15
  pub part_within : (q : ℕ) → q < 4 → Within (most_power * seconds_of_quarter * most_price) (quarter_part powers targets discharge charge q)
  unfolding quarter_part
  part_within q h =
      product (quarter_within q h) (signed_price_within discharge charge (get_or targets q (pos 0)) f.discharging f.charging)

  pub parts_within : (n : ℕ) → n ≤ 4 → Within (most_power * seconds_of_hour * most_price) (sum_to n (quarter_part powers targets discharge charge))
  parts_within n h =
      let w : Within (most_power * seconds_of_quarter * most_price * n) (sum_to n (quarter_part powers targets discharge charge)) =
      sum_within n (quarter_part powers targets discharge charge) (λ q l. part_within q (omega arith)) in
      omega arith

  pub energy_granted : energy_answer powers targets discharge charge ≡ charge_of (energy_fee powers targets discharge charge)
  unfolding energy_answer
  energy_granted = kept_new (charge_of (energy_fee powers targets discharge charge)) (no_charge (energy_refusal powers targets discharge charge)) (energy_passes f)

-- before it is rounded
pub exact_refusal : (powers targets : List ℤ) (discharge charge : ℤ) → (energy_exact powers targets discharge charge).refusal ≡ energy_refusal powers targets discharge charge
unfolding energy_exact
exact_refusal powers targets discharge charge = by (eqb (energy_refusal powers targets discharge charge) 0) (eqb-true _ 0)
  where
    by : (b : Bool) → (b ≡ true → energy_refusal powers targets discharge charge ≡ 0)
        → (pick {A = Exact} b (record { refusal = 0; parts = energy_parts powers targets discharge charge }) (record { refusal = energy_refusal powers targets discharge charge; parts = pos 0 })).refusal ≡ energy_refusal powers targets discharge charge
    by true e = sym (e refl)
    by false e = refl

pub exact_granted : {powers targets : List ℤ} {discharge charge : ℤ} → EnergyFits powers targets discharge charge
    → energy_exact powers targets discharge charge ≡ record { refusal = 0; parts = energy_parts powers targets discharge charge }
unfolding energy_exact
exact_granted f = kept_new _ _ (energy_passes f)

pub energy_within : (powers targets : List ℤ) (discharge charge : ℤ) → Within most_energy_fee (energy_answer powers targets discharge charge).dollars.0
unfolding energy_answer energy_fee
energy_within powers targets discharge charge =
    charge_has (Within most_energy_fee) (energy_refusal powers targets discharge charge) (energy_fee powers targets discharge charge)
    (λ e.
    nearest_within (energy_parts powers targets discharge charge) parts_of_dollar most_energy_fee (omega arith)
    (within_size (parts_within (energy_fits powers targets discharge charge e) 4 (omega arith))))
    (nothing most_energy_fee)

-- quality part and energy service fee together: no amount of an hour is larger, whatever was handed in
pub amount_within : (capacity performance : Dollars) (factor : ℤ) (energy : Dollars) → Within most_energy_fee energy.0
    → Within most_hour_amount ((quality_answer capacity performance factor).dollars.0 +ℤ energy.0)
amount_within capacity performance factor energy w = together _ _ (quality_within capacity performance factor) w
  where
    together : (x y : ℤ) → Within most_quality x → Within most_energy_fee y → Within most_hour_amount (x +ℤ y)
    together x y v w = omega (arith, sum x y)

-- an hour whose quarters are all unpaid has no energy service fee
unpaid : (powers targets : List ℤ) (discharge charge : ℤ) → ((q : ℕ) → q < 4 → signed_price discharge charge (get_or targets q (pos 0)) ≡ pos 0) → energy_fee powers targets discharge charge ≡ pos 0
unfolding energy_fee quarter_part fold_to nearest with_sign half_up
unpaid powers targets discharge charge h =
    ap (λ (z : ℤ). nearest z parts_of_dollar)
    (fold_same (pos 0) ◌+ℤ◌ 4 (quarter_part powers targets discharge charge) (λ q. pos 0)
    (λ q l. ap (λ (p : ℤ). sum_of (quarter_powers powers q) *ℤ p) (h q l) ∙ *ℤ-zero (sum_of (quarter_powers powers q))))

-- so it is without transfer
pub no_energy : (powers targets : List ℤ) (discharge charge : ℤ) → ((q : ℕ) → q < 4 → get_or targets q (pos 0) ≡ pos 0) → energy_fee powers targets discharge charge ≡ pos 0
unfolding signed_price
no_energy powers targets discharge charge h = unpaid powers targets discharge charge (λ q l. ap (signed_price discharge charge) (h q l))

-- and at prices of 0, whatever else was handed in
free : (above below : Bool) → pick above (pos 0) (pick below (neg_ℤ (pos 0)) (pos 0)) ≡ pos 0
free true below = refl
free false true = refl
free false false = refl

pub free_energy : (powers targets : List ℤ) → (energy_answer powers targets (pos 0) (pos 0)).dollars ≡ record { 0 = pos 0 }
unfolding energy_answer signed_price
free_energy powers targets =
    ap (λ (z : ℤ). record { 0 = z })
    (charge_has (λ z. z ≡ pos 0) (energy_refusal powers targets (pos 0) (pos 0)) (energy_fee powers targets (pos 0) (pos 0))
    (λ e. unpaid powers targets (pos 0) (pos 0) (λ q l. free (lt_z (pos 0) (get_or targets q (pos 0))) (lt_z (get_or targets q (pos 0)) (pos 0)))) refl)
