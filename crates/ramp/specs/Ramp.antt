-- Document 01, "The transfer ramp" (document 000, formula 1), and its refusals.
use Rattle.std.specs.Prelude.{ℕ, ◌+◌, ◌/◌, ◌%◌, List, [], ◌∷◌, eqb, leb, ℤ, pos, ◌+ℤ◌, ◌-ℤ◌, ◌*ℤ◌, length, get_or}
use Rattle.whole.specs.Choice.{pick, in_order, kept}
use Rattle.whole.specs.Runs.{listed}
use Rattle.whole.specs.Whole.{away}
use Rattle.units.specs.Limits.{is_transfer, are_transfers, seconds_of_quarter, seconds_of_hour, seconds_of_ramp}
use Rattle.units.specs.Refusals.{wrong_length, bad_transfer}
use Rattle.units.specs.declared.Kilowatts.{Kilowatts}

-- second n of a quarter, with D the new target less the last one: up to second 300 the last target plus n x D / 300, rounded up if D is above 0
-- and down if below, and from second 301 the target
unfoldable pub ramp_at : ℤ → ℤ → ℕ → ℤ
ramp_at last target n = pick (leb n seconds_of_ramp) (last +ℤ away ((target -ℤ last) *ℤ pos n) seconds_of_ramp) target

-- a quarter's seconds 1 to 900
unfoldable pub ramp_of : ℤ → ℤ → List ℤ
ramp_of last target = listed (ramp_at last target) 1 seconds_of_quarter

-- what the ramp call answers over a run of so many places ("Order. Ramp: 1, 10"), and what it leaves in the run
unfoldable pub ramp_refusal : Kilowatts → Kilowatts → ℕ → ℕ
ramp_refusal last target places =
    in_order ((eqb places seconds_of_quarter, wrong_length) ∷ (is_transfer last.0, bad_transfer) ∷ (is_transfer target.0, bad_transfer) ∷ [])

unfoldable pub ramp_left : Kilowatts → Kilowatts → List ℤ → List ℤ
ramp_left last target run = kept (ramp_refusal last target (length run)) (ramp_of last.0 target.0) run

-- second i, from 0 to 3,599, of an E-dReg hour by its five targets, "the target before the hour and four quarter targets": the ramp of its quarter
unfoldable pub transfer_at : List ℤ → ℕ → ℤ
transfer_at targets i =
    let quarter = i / seconds_of_quarter in
    ramp_at (get_or targets quarter (pos 0)) (get_or targets (quarter + 1) (pos 0)) (i % seconds_of_quarter + 1)

-- an hour's 3,600 scheduled transfers, and the call that fills a run with them: it takes five targets. "Order. Ramp: 1, 10"
unfoldable pub plan_of : List ℤ → List ℤ
plan_of targets = listed (transfer_at targets) 0 seconds_of_hour

unfoldable pub plan_refusal : List ℤ → ℕ → ℕ
plan_refusal targets places =
    in_order ((eqb (length targets) 5, wrong_length) ∷ (eqb places seconds_of_hour, wrong_length) ∷ (are_transfers targets, bad_transfer) ∷ [])

unfoldable pub plan_left : List ℤ → List ℤ → List ℤ
plan_left targets run = kept (plan_refusal targets (length run)) (plan_of targets) run
