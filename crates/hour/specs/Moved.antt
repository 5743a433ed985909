-- What the theorems of document 02, #107 (proofs/Moved.antt) are stated in: an hour that reads no reference, as it was before; and an hour whose reference and frequencies are moved together.
use Rattle.std.specs.Prelude.{ℕ, ◌≡◌, Bool, ◌&&◌, List, [], ◌∷◌, ℤ, length}
use Rattle.whole.specs.Choice.{in_order, kept}
use Rattle.units.specs.Refusals.{wrong_length, bad_capacity, bad_money, bad_bands, bad_transfer, bad_reading}
use Rattle.units.specs.Limits.{is_capacity, is_price}
use Rattle.curve.specs.Moved.{moved_by}
use Rattle.score.specs.Moved.{run_unmoved, all_moved_by, MoveFits}
use Rattle.rate.specs.Rolling.{are_scores, hourly_rate}
use Rattle.bands.specs.Bands.{bands_fit}
use Rattle.hour.specs.Hour.{WholeHour, transfers_of, energy_of, energy_prices_fit, targets_fit, lengths_fit, readings_fit, settled_of, refused_hour}
use Rattle.hour.specs.declared.Settlement.{Settlement}

-- 1, 2, 3, 5, 10, 4
abbrev pub hour_unmoved_tests : WholeHour → ℕ → List (Bool × ℕ)
hour_unmoved_tests h places =
    (lengths_fit (length h.powers) (length h.frequencies) (length h.earlier) places, wrong_length)
    ∷ (is_capacity h.terms.capacity.0, bad_capacity)
    ∷ (is_price h.terms.clearing && is_price h.terms.performance && energy_prices_fit h.service, bad_money)
    ∷ (bands_fit h.thresholds h.factors, bad_bands)
    ∷ (targets_fit h.service, bad_transfer)
    ∷ (are_scores h.earlier && readings_fit h.powers h.frequencies, bad_reading)
    ∷ []

abbrev pub hour_unmoved_refusal : WholeHour → ℕ → ℕ
hour_unmoved_refusal h places = in_order (hour_unmoved_tests h places)

abbrev pub scores_unmoved : WholeHour → List ℕ
scores_unmoved h = run_unmoved h.powers h.frequencies (transfers_of h.service) h.terms.capacity

unfoldable pub hour_unmoved : WholeHour → ℕ → Settlement
hour_unmoved h places =
    let k = hour_unmoved_refusal h places in
    kept k (settled_of h.terms h.thresholds h.factors (energy_of h.powers h.service) (hourly_rate h.earlier (scores_unmoved h)).rate) (refused_hour k)

-- what it leaves in the lent run
unfoldable pub left_unmoved : WholeHour → List ℕ → List ℕ
left_unmoved h run = kept (hour_unmoved_refusal h (length run)) (scores_unmoved h) run

-- the hour with its reference and every frequency moved by d
abbrev pub hour_moved_by : ℤ → WholeHour → WholeHour
hour_moved_by d h =
    record {
      powers = h.powers;
      frequencies = all_moved_by d h.frequencies;
      terms = h.terms;
      reference = moved_by d h.reference;
      service = h.service;
      thresholds = h.thresholds;
      factors = h.factors;
      earlier = h.earlier;
    }

-- the hour g, with a lent run again, is the hour h, with the run, moved by d; all in their ranges before and after
pub record MovedTogether (d : ℤ) (h g : WholeHour) (run again : List ℕ) : Type 0 where
  pub hour : g ≡ hour_moved_by d h
  pub lent : again ≡ run
  pub fits : MoveFits d h.frequencies h.reference
