-- What only mirrors the code: the core of both hours, by its transfers and its energy service fee, once the terms are let through.
use Rattle.std.specs.Prelude.{ℕ, List, ℤ, length}
use Rattle.whole.specs.Choice.{unless, kept}
use Rattle.units.specs.Refusals.{bad_reading}
use Rattle.units.specs.declared.Kilowatts.{Kilowatts}
use Rattle.units.specs.declared.Millihertz.{Millihertz}
use Rattle.units.specs.declared.Dollars.{Dollars}
use Rattle.score.specs.Run.{run_refusal, run_scores}
use Rattle.rate.specs.Rolling.{are_scores, hourly_rate}
use Rattle.hour.specs.Hour.{settled_of, refused_hour}
use Rattle.hour.specs.declared.Terms.{Terms}
use Rattle.hour.specs.declared.Settlement.{Settlement}

-- 4 for an earlier score, then the run's own number
unfoldable pub worked_refusal : List ℤ → List ℤ → List ℤ → Kilowatts → Millihertz → List ℕ → ℕ → ℕ
worked_refusal powers frequencies transfers capacity reference earlier places =
    unless (are_scores earlier) bad_reading (run_refusal powers frequencies transfers capacity reference places)

unfoldable pub worked_of : List ℤ → List ℤ → List ℤ → Terms → Millihertz → List ℤ → List ℤ → List ℕ → Dollars → ℕ → Settlement
worked_of powers frequencies transfers terms reference thresholds factors earlier energy places =
    let k = worked_refusal powers frequencies transfers terms.capacity reference earlier places in
    kept k (settled_of terms thresholds factors energy (hourly_rate earlier (run_scores powers frequencies transfers terms.capacity reference)).rate) (refused_hour k)

unfoldable pub worked_left : List ℤ → List ℤ → List ℤ → Kilowatts → Millihertz → List ℕ → List ℕ → List ℕ
worked_left powers frequencies transfers capacity reference earlier run =
    kept (worked_refusal powers frequencies transfers capacity reference earlier (length run)) (run_scores powers frequencies transfers capacity reference) run
