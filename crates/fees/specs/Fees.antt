-- Document 01, "Fees of one hour". A price is hundredths of a dollar per MW and hour, or per MWh; each fee is one exact fraction, rounded once.
use Rattle.std.specs.Prelude.{ℕ, ◌+◌, ◌*◌, ◌/◌, ◌&&◌, List, [], ◌∷◌, eqb, ℤ, pos, neg_ℤ, nat_abs, ◌+ℤ◌, ◌*ℤ◌, length, get_or, take, drop}
use Rattle.std.specs.Int.Signed.{lt_z}
use Rattle.whole.specs.Choice.{pick, in_order, kept}
use Rattle.whole.specs.Folds.{sum_to, sum_of}
use Rattle.whole.specs.Whole.{nearest}
use Rattle.units.specs.Refusals.{wrong_length, bad_capacity, bad_money, bad_reading, bad_bands, bad_transfer}
use Rattle.units.specs.Limits.{is_capacity, most_price, is_price, most_fee, is_fee, least_factor, is_factor, most_power, are_powers, are_transfers, seconds_of_hour, seconds_of_quarter}
use Rattle.units.specs.Units.{dollars}
use Rattle.units.specs.declared.Kilowatts.{Kilowatts}
use Rattle.units.specs.declared.Dollars.{Dollars}
use Rattle.fees.specs.declared.Charged.{Charged}
use Rattle.fees.specs.declared.Exact.{Exact}

-- a granted amount, and 0 beside the number of a refusal
unfoldable pub charge_of : ℤ → Charged
charge_of amount = record { refusal = 0; dollars = dollars amount }

unfoldable pub no_charge : ℕ → Charged
no_charge k = record { refusal = k; dollars = dollars (pos 0) }

abbrev pub charge_by : ℕ → ℤ → Charged
charge_by k amount = kept k (charge_of amount) (no_charge k)

-- ---- capacity fee and performance fee

-- "nearest dollar of clearing price x capacity": hundredths of a dollar and kW, so over 100 x 1,000
unfoldable pub fee : ℤ → ℤ → ℤ
fee price capacity = nearest (price *ℤ capacity) (100 * 1000)

-- 2, 3
unfoldable pub charge_refusal : ℤ → Kilowatts → ℕ
charge_refusal price capacity = in_order ((is_capacity capacity.0, bad_capacity) ∷ (is_price price, bad_money) ∷ [])

unfoldable pub fee_answer : ℤ → Kilowatts → Charged
fee_answer price capacity = charge_by (charge_refusal price capacity) (fee price capacity.0)

-- ---- quality part

-- "nearest dollar of (both rounded fees) x factor / 10": the factor is tenths
unfoldable pub quality_part : ℤ → ℤ → ℤ → ℤ
quality_part capacity performance factor = nearest ((capacity +ℤ performance) *ℤ factor) 10

-- 3, 5: a fee that no price and capacity bring, a factor that no band has
unfoldable pub quality_refusal : Dollars → Dollars → ℤ → ℕ
quality_refusal capacity performance factor =
    in_order ((is_fee capacity.0 && is_fee performance.0, bad_money) ∷ (is_factor factor, bad_bands) ∷ [])

unfoldable pub quality_answer : Dollars → Dollars → ℤ → Charged
quality_answer capacity performance factor =
    charge_by (quality_refusal capacity performance factor) (quality_part capacity.0 performance.0 factor)

-- ---- energy service fee

-- "discharge price for a target above 0, charge price and a changed sign for one below 0, nothing for 0"
unfoldable pub signed_price : ℤ → ℤ → ℤ → ℤ
signed_price discharge charge target = pick (lt_z (pos 0) target) discharge (pick (lt_z target (pos 0)) (neg_ℤ charge) (pos 0))

-- the powers of quarter q, counted from 0: "seconds 1 to 900, and so on"
abbrev pub quarter_powers : List ℤ → ℕ → List ℤ
quarter_powers powers q = take seconds_of_quarter (drop (q * seconds_of_quarter) powers)

-- "each quarter's mean power x price x 1/4 hour", before it is divided
unfoldable pub quarter_part : List ℤ → List ℤ → ℤ → ℤ → ℕ → ℤ
quarter_part powers targets discharge charge q = sum_of (quarter_powers powers q) *ℤ signed_price discharge charge (get_or targets q (pos 0))

-- "The four are added exactly": in parts of a dollar, of which it has so many by the 4 quarters of an hour, the mean of 900 s, the 1,000 kW of a MW and the 100
-- hundredths of a price
abbrev pub energy_parts : List ℤ → List ℤ → ℤ → ℤ → ℤ
energy_parts powers targets discharge charge = sum_to 4 (quarter_part powers targets discharge charge)

abbrev pub parts_of_dollar : ℕ
parts_of_dollar = 4 * seconds_of_quarter * 1000 * 100

-- "and rounded once"
unfoldable pub energy_fee : List ℤ → List ℤ → ℤ → ℤ → ℤ
energy_fee powers targets discharge charge = nearest (energy_parts powers targets discharge charge) parts_of_dollar

-- no fee is larger: the most power for an hour at the most price, in MW and dollars; no quality part: both fees by the least factor; and no amount of an hour
abbrev pub most_energy_fee : ℕ
most_energy_fee = most_power / 1000 * (most_price / 100)

abbrev pub most_quality : ℕ
most_quality = 2 * most_fee * (nat_abs least_factor / 10)

abbrev pub most_hour_amount : ℕ
most_hour_amount = most_quality + most_energy_fee

-- 1, 3, 10, 4
unfoldable pub energy_refusal : List ℤ → List ℤ → ℤ → ℤ → ℕ
energy_refusal powers targets discharge charge =
    in_order (
    (eqb (length powers) seconds_of_hour && eqb (length targets) 4, wrong_length)
    ∷ (is_price discharge && is_price charge, bad_money)
    ∷ (are_transfers targets, bad_transfer)
    ∷ (are_powers powers, bad_reading)
    ∷ [])

unfoldable pub energy_answer : List ℤ → List ℤ → ℤ → ℤ → Charged
energy_answer powers targets discharge charge =
    charge_by (energy_refusal powers targets discharge charge) (energy_fee powers targets discharge charge)

abbrev pub no_parts : ℕ → Exact
no_parts k = record { refusal = k; parts = pos 0 }

-- what it is before it is rounded, or 0 beside the number of a refusal (document 02, #113)
unfoldable pub energy_exact : List ℤ → List ℤ → ℤ → ℤ → Exact
energy_exact powers targets discharge charge =
    let k = energy_refusal powers targets discharge charge in
    kept k (record { refusal = 0; parts = energy_parts powers targets discharge charge }) (no_parts k)
