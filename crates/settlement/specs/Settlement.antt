-- What an hour comes to, whatever it was awarded for (document 01, "Fees of one hour"): the refusals of its terms in their order, its fees, its quality part and its amount, made of the
-- parts' own answers. dReg, E-dReg, sReg and the reserves differ in how they come to a rate, and in what they are paid for energy.
use Rattle.std.specs.Prelude.{ℕ, Bool, true, ◌&&◌, List, [], ◌∷◌, ◌++◌, leb, ℤ, pos, ◌+ℤ◌}
use Rattle.whole.specs.Choice.{in_order, kept}
use Rattle.units.specs.Refusals.{wrong_length, bad_capacity, bad_reference, bad_money, bad_bands, bad_transfer, bad_reading}
use Rattle.units.specs.Limits.{is_capacity, is_price, is_energy_paid, is_factor, most_score}
use Rattle.units.specs.Units.{dollars}
use Rattle.units.specs.declared.Dollars.{Dollars}
use Rattle.std.specs.Result.{result_unwrap_or}
use Rattle.bands.specs.Bands.{bands_fit, factor_answer}
use Rattle.fees.specs.Fees.{fee_answer, quality_answer}
use Rattle.settlement.specs.declared.Terms.{Terms}
use Rattle.settlement.specs.declared.Settlement.{Settlement}

-- ---- the refusals of the terms: 1, 2, 19, 3, 5, 10

-- by the tests of what an hour has besides: its lengths, its reference ("19 .. directly after 2", document 02, #107), its other prices, its bands, its targets; what an hour does not take passes
abbrev pub award_tests : Bool → Terms → Bool → Bool → Bool → Bool → List (Bool × ℕ)
award_tests lengths terms referred priced banded planned =
    (lengths, wrong_length)
    ∷ (is_capacity terms.capacity.0, bad_capacity)
    ∷ (referred, bad_reference)
    ∷ (is_price terms.clearing && is_price terms.performance && priced, bad_money)
    ∷ (banded, bad_bands)
    ∷ (planned, bad_transfer)
    ∷ []

abbrev pub terms_tests : Bool → Terms → Bool → List ℤ → List ℤ → Bool → Bool → List (Bool × ℕ)
terms_tests lengths terms referred thresholds factors priced planned = award_tests lengths terms referred priced (bands_fit thresholds factors) planned

unfoldable pub terms_refusal : Bool → Terms → Bool → List ℤ → List ℤ → Bool → Bool → ℕ
terms_refusal lengths terms referred thresholds factors priced planned = in_order (terms_tests lengths terms referred thresholds factors priced planned)

-- ---- the answer

unfoldable pub granted_hour : ℕ → ℤ → Dollars → Dollars → Dollars → Dollars → Dollars → Settlement
granted_hour rate factor capacity performance quality energy amount =
    record {
      refusal = 0;
      rate = rate;
      factor = factor;
      capacity = capacity;
      performance = performance;
      quality = quality;
      energy = energy;
      amount = amount;
    }

unfoldable pub refused_hour : ℕ → Settlement
refused_hour k =
    record {
      refusal = k;
      rate = 0;
      factor = pos 0;
      capacity = dollars (pos 0);
      performance = dollars (pos 0);
      quality = dollars (pos 0);
      energy = dollars (pos 0);
      amount = dollars (pos 0);
    }

-- an hour by its factor, its energy fee and its rate: the quality part is of both fees by the factor, the energy fee is not. "Amount: quality part plus energy service fee."
unfoldable pub earned_by : Terms → ℤ → Dollars → ℕ → Settlement
earned_by terms factor energy rate =
    let capacity = (fee_answer terms.clearing terms.capacity).dollars in
    let performance = (fee_answer terms.performance terms.capacity).dollars in
    let quality = (quality_answer capacity performance factor).dollars in
    granted_hour rate factor capacity performance quality energy (dollars (quality.0 +ℤ energy.0))

-- and by its bands, in which the rate finds the factor
unfoldable pub settled_of : Terms → List ℤ → List ℤ → Dollars → ℕ → Settlement
settled_of terms thresholds factors energy rate = earned_by terms (result_unwrap_or (factor_answer thresholds factors rate) (pos 0)) energy rate

-- ---- with the refusals of what is handed in. "Order. Hour, and calls for a part of its work": 2, 3, 5, 4

abbrev pub at_tests : Terms → Bool → Dollars → ℕ → List (Bool × ℕ)
at_tests terms banded energy rate = award_tests true terms true (is_energy_paid energy.0) banded true ++ (leb rate most_score, bad_reading) ∷ []

unfoldable pub at_refusal : Terms → Bool → Dollars → ℕ → ℕ
at_refusal terms banded energy rate = in_order (at_tests terms banded energy rate)

-- 5 for the bands
unfoldable pub settled_at : Terms → List ℤ → List ℤ → Dollars → ℕ → Settlement
settled_at terms thresholds factors energy rate =
    let k = at_refusal terms (bands_fit thresholds factors) energy rate in
    kept k (settled_of terms thresholds factors energy rate) (refused_hour k)

-- 5 for a factor that no band has
unfoldable pub earned_at : Terms → ℤ → Dollars → ℕ → Settlement
earned_at terms factor energy rate =
    let k = at_refusal terms (is_factor factor) energy rate in
    kept k (earned_by terms factor energy rate) (refused_hour k)
