-- A whole hour (document 01, "A second's score, an hour's rate", "Fees of one hour"; document 02, #102, #107): its refusals in order, its scores, its rate, its fees and its
-- amount, made of the parts' own answers. dReg and E-dReg differ in the transfers and the energy service fee alone.
use Rattle.std.specs.Prelude.{ℕ, Bool, true, ◌&&◌, List, [], ◌∷◌, ◌++◌, eqb, leb, ℤ, pos, ◌+ℤ◌, length, take, drop, replicate}
use Rattle.whole.specs.Choice.{in_order, kept}
use Rattle.units.specs.Refusals.{wrong_length, bad_capacity, bad_reference, bad_money, bad_bands, bad_transfer, bad_reading}
use Rattle.units.specs.Limits.{is_capacity, is_reference, is_price, are_powers, are_frequencies, are_transfers, most_score, seconds_of_hour}
use Rattle.units.specs.Units.{dollars}
use Rattle.units.specs.declared.Dollars.{Dollars}
use Rattle.units.specs.declared.Millihertz.{Millihertz}
use Rattle.ramp.specs.Ramp.{plan_of}
use Rattle.std.specs.Result.{result_unwrap_or}
use Rattle.bands.specs.Bands.{bands_fit, factor_answer}
use Rattle.score.specs.Run.{run_scores}
use Rattle.rate.specs.Rolling.{earlier_fit, are_scores, hourly_rate}
use Rattle.fees.specs.Fees.{fee_answer, quality_answer, energy_answer}
use Rattle.hour.specs.declared.Terms.{Terms}
use Rattle.hour.specs.declared.Shift.{Shift}
use Rattle.hour.specs.declared.Settlement.{Settlement}

-- ---- what is handed in

pub data Service : Type 0 where
  dreg : Service
  edreg : Shift → Service

-- "The power of second t is judged by the frequency of second t-1": the powers are those of seconds 1 to 3,600 and the frequencies those of
-- seconds 0 to 3,599, so that the two stand at one place
pub record WholeHour : Type 0 where
  pub powers : List ℤ
  pub frequencies : List ℤ
  pub terms : Terms
  -- the curve's, "moved by the dispatcher" (document 02, #107)
  pub reference : Millihertz
  pub service : Service
  pub thresholds : List ℤ
  pub factors : List ℤ
  -- the last three scores of the hour before, oldest first, or none (document 02, #102)
  pub earlier : List ℕ

abbrev pub dreg_hour : List ℤ → List ℤ → Terms → Millihertz → List ℤ → List ℤ → List ℕ → WholeHour
dreg_hour powers frequencies terms reference thresholds factors earlier =
    record { powers = powers; frequencies = frequencies; terms = terms; reference = reference; service = dreg; thresholds = thresholds; factors = factors; earlier = earlier }

abbrev pub edreg_hour : List ℤ → List ℤ → Terms → Millihertz → Shift → List ℤ → List ℤ → List ℕ → WholeHour
edreg_hour powers frequencies terms reference shift thresholds factors earlier =
    record { powers = powers; frequencies = frequencies; terms = terms; reference = reference; service = edreg shift; thresholds = thresholds; factors = factors; earlier = earlier }

-- ---- what the two differ in

-- "for dReg the transfer is 0"; an E-dReg hour's are the ramps of its targets
unfoldable pub transfers_of : Service → List ℤ
transfers_of dreg = replicate seconds_of_hour (pos 0)
transfers_of (edreg shift) = plan_of shift.targets

-- the targets of the four quarters
abbrev pub quarters : Shift → List ℤ
quarters shift = take 4 (drop 1 shift.targets)

-- "Energy service fee, E-dReg only"
abbrev pub energy_of : List ℤ → Service → Dollars
energy_of powers dreg = dollars (pos 0)
energy_of powers (edreg shift) = (energy_answer powers (quarters shift) shift.discharge shift.charge).dollars

abbrev pub energy_prices_fit : Service → Bool
energy_prices_fit dreg = true
energy_prices_fit (edreg shift) = is_price shift.discharge && is_price shift.charge

abbrev pub targets_fit : Service → Bool
targets_fit dreg = true
targets_fit (edreg shift) = are_transfers shift.targets

-- ---- the refusals: 1, 2, 19, 3, 5, 10, 4

-- an hour is 3,600 powers, 3,600 frequencies and a run of 3,600 scores
abbrev pub seconds_fit : ℕ → ℕ → ℕ → Bool
seconds_fit powers frequencies places = eqb powers seconds_of_hour && eqb frequencies seconds_of_hour && eqb places seconds_of_hour

-- "any other number of scores is 1 .. in [its] old place" (document 02, #102)
abbrev pub lengths_fit : ℕ → ℕ → ℕ → ℕ → Bool
lengths_fit powers frequencies earlier places = seconds_fit powers frequencies places && earlier_fit earlier

abbrev pub readings_fit : List ℤ → List ℤ → Bool
readings_fit powers frequencies = are_powers powers && are_frequencies frequencies

-- all but the readings': 1, 2, "19 .. directly after 2" (document 02, #107), 3, 5, 10; an hour that takes no reference, or shifts nothing, passes their tests
abbrev pub terms_tests : Bool → Terms → Bool → List ℤ → List ℤ → Bool → Bool → List (Bool × ℕ)
terms_tests lengths terms referred thresholds factors priced planned =
    (lengths, wrong_length)
    ∷ (is_capacity terms.capacity.0, bad_capacity)
    ∷ (referred, bad_reference)
    ∷ (is_price terms.clearing && is_price terms.performance && priced, bad_money)
    ∷ (bands_fit thresholds factors, bad_bands)
    ∷ (planned, bad_transfer)
    ∷ []

-- by the lengths of the runs
unfoldable pub terms_refusal : ℕ → ℕ → ℕ → ℕ → Terms → Bool → List ℤ → List ℤ → Bool → Bool → ℕ
terms_refusal powers frequencies earlier places terms referred thresholds factors priced planned =
    in_order (terms_tests (lengths_fit powers frequencies earlier places) terms referred thresholds factors priced planned)

abbrev pub tests_of : WholeHour → ℕ → List (Bool × ℕ)
tests_of h places =
    terms_tests (lengths_fit (length h.powers) (length h.frequencies) (length h.earlier) places) h.terms (is_reference h.reference.0) h.thresholds h.factors
    (energy_prices_fit h.service) (targets_fit h.service)

-- and then the readings' and the earlier scores': 4
abbrev pub readings_tests : WholeHour → List (Bool × ℕ)
readings_tests h = (are_scores h.earlier && readings_fit h.powers h.frequencies, bad_reading) ∷ []

-- of the lent run only its number of places matters
unfoldable pub hour_refusal : WholeHour → ℕ → ℕ
hour_refusal h places = in_order (tests_of h places ++ readings_tests h)

-- ---- the scores

unfoldable pub scores_of : WholeHour → List ℕ
scores_of h = run_scores h.powers h.frequencies (transfers_of h.service) h.terms.capacity h.reference

-- what an hour leaves in the lent run
unfoldable pub scores_left : WholeHour → List ℕ → List ℕ
scores_left h run = kept (hour_refusal h (length run)) (scores_of h) run

-- ---- the answer

unfoldable pub granted_hour : ℕ → ℤ → Dollars → Dollars → Dollars → Dollars → Dollars → Settlement
granted_hour rate factor capacity performance quality energy amount =
    record {
      refusal = 0;
      rate = rate;
      factor = factor;
      capacity = capacity;
      performance = performance;
      quality = quality;
      energy = energy;
      amount = amount;
    }

unfoldable pub refused_hour : ℕ → Settlement
refused_hour k =
    record {
      refusal = k;
      rate = 0;
      factor = pos 0;
      capacity = dollars (pos 0);
      performance = dollars (pos 0);
      quality = dollars (pos 0);
      energy = dollars (pos 0);
      amount = dollars (pos 0);
    }

-- an hour by its energy service fee and its rate. "Amount: quality part plus energy service fee."
unfoldable pub settled_of : Terms → List ℤ → List ℤ → Dollars → ℕ → Settlement
settled_of terms thresholds factors energy rate =
    let factor = result_unwrap_or (factor_answer thresholds factors rate) (pos 0) in
    let capacity = (fee_answer terms.clearing terms.capacity).dollars in
    let performance = (fee_answer terms.performance terms.capacity).dollars in
    let quality = (quality_answer capacity performance factor).dollars in
    granted_hour rate factor capacity performance quality energy (dollars (quality.0 +ℤ energy.0))

-- an hour that shifts nothing, by its rate alone (document 02, #103: "Rolling rule and fees are dReg's"). "Order. Hour, and calls for a part of its work": 2, 3, 5, 4
abbrev pub at_tests : Terms → List ℤ → List ℤ → ℕ → List (Bool × ℕ)
at_tests terms thresholds factors rate =
    (is_capacity terms.capacity.0, bad_capacity) ∷ (is_price terms.clearing && is_price terms.performance, bad_money) ∷ (bands_fit thresholds factors, bad_bands) ∷ (leb rate most_score, bad_reading) ∷ []

unfoldable pub at_refusal : Terms → List ℤ → List ℤ → ℕ → ℕ
at_refusal terms thresholds factors rate = in_order (at_tests terms thresholds factors rate)

unfoldable pub settled_at : Terms → List ℤ → List ℤ → ℕ → Settlement
settled_at terms thresholds factors rate =
    let k = at_refusal terms thresholds factors rate in
    kept k (settled_of terms thresholds factors (dollars (pos 0)) rate) (refused_hour k)

-- the hour's rate: the smallest rolling rate of its scores, after the earlier ones
abbrev pub rate_of : WholeHour → ℕ
rate_of h = (hourly_rate h.earlier (scores_of h)).rate

unfoldable pub hour_answer : WholeHour → ℕ → Settlement
hour_answer h places =
    let k = hour_refusal h places in
    kept k (settled_of h.terms h.thresholds h.factors (energy_of h.powers h.service) (rate_of h)) (refused_hour k)

-- an E-dReg hour that shifts nothing
abbrev pub no_shift : Shift
no_shift = record { discharge = pos 0; charge = pos 0; targets = replicate 5 (pos 0) }
