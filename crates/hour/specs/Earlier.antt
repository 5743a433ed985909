-- What the theorems of #102 (proofs/Earlier.antt) are stated in: the hour by its own seconds alone, as document 01 has it (by a reference since #107), with no earlier scores to look at and windows
-- that hold only its own seconds; and two hours that are rated as one run of seconds.
use Rattle.std.specs.Prelude.{ℕ, ◌≡◌, Bool, List, [], ◌∷◌, ◌++◌, length, take, drop}
use Rattle.whole.specs.Choice.{in_order, kept}
use Rattle.units.specs.Refusals.{bad_reading}
use Rattle.units.specs.Limits.{is_reference}
use Rattle.rate.specs.Rolling.{rolling, smallest}
use Rattle.rate.specs.Earlier.{rate_alone}
use Rattle.hour.specs.Hour.{WholeHour, energy_of, energy_prices_fit, targets_fit, seconds_fit, readings_fit, terms_tests, scores_of, settled_of, refused_hour}
use Rattle.hour.specs.declared.Settlement.{Settlement}

-- 1, 2, 19, 3, 5, 10, 4
abbrev pub hour_alone_tests : WholeHour → ℕ → List (Bool × ℕ)
hour_alone_tests h places =
    terms_tests (seconds_fit (length h.powers) (length h.frequencies) places) h.terms (is_reference h.reference.0) h.thresholds h.factors (energy_prices_fit h.service)
    (targets_fit h.service)
    ++ (readings_fit h.powers h.frequencies, bad_reading) ∷ []

abbrev pub hour_alone_refusal : WholeHour → ℕ → ℕ
hour_alone_refusal h places = in_order (hour_alone_tests h places)

unfoldable pub hour_alone : WholeHour → ℕ → Settlement
hour_alone h places =
    let k = hour_alone_refusal h places in
    kept k (settled_of h.terms h.thresholds h.factors (energy_of h.powers h.service) (rate_alone (scores_of h)).rate) (refused_hour k)

-- what it leaves in the lent run
unfoldable pub left_alone : WholeHour → List ℕ → List ℕ
left_alone h run = kept (hour_alone_refusal h (length run)) (scores_of h) run

-- two hours, of scores `first` and `second`, whose rates are those of one run of seconds, cut where the second begins
pub record OneRun (earlier first second : List ℕ) (x y : Settlement) : Type 0 where
  pub first_rate : x.rate ≡ smallest (take (length first) (rolling earlier (first ++ second)))
  pub second_rate : y.rate ≡ smallest (drop (length first) (rolling earlier (first ++ second)))
