-- What only mirrors the code: an sReg hour whose terms are let through.
use Rattle.std.specs.Prelude.{ℕ, List, length}
use Rattle.whole.specs.Choice.{unless, kept}
use Rattle.units.specs.Refusals.{bad_reading}
use Rattle.rate.specs.Rolling.{are_scores}
use Rattle.sreg.specs.Run.{sreg_scores_refusal}
use Rattle.sreg_hour.specs.Hour.{SRegHour, sreg_scores, refused_sreg, granted_sreg}
use Rattle.sreg_hour.specs.declared.Settled.{Settled}

-- 4 for an earlier score, then the scores' own number
unfoldable pub sreg_worked_refusal : SRegHour → ℕ → ℕ
sreg_worked_refusal h places =
    unless (are_scores h.earlier) bad_reading (sreg_scores_refusal h.powers h.frequencies h.terms.capacity h.state places)

unfoldable pub sreg_worked : SRegHour → ℕ → Settled
sreg_worked h places = let k = sreg_worked_refusal h places in kept k (granted_sreg h) (refused_sreg k)

unfoldable pub sreg_worked_left : SRegHour → List ℕ → List ℕ
sreg_worked_left h run = kept (sreg_worked_refusal h (length run)) (sreg_scores h) run
