-- `series::scores` meets its contract: the hour is settled and its scores are widened, or the refusal leaves the run. Assumes nothing.
use Rattle.std.proofs.Common.{refl, ap}
use Rattle.units.specs.Limits.{seconds_of_hour}
use Rattle.hour.specs.declared.Settlement.{Settlement}
use Rattle.hours.specs.Hours.{hour_numbers, hour_asked, scores_reply}
use Rattle.series.proofs.Laws.{scores_none, scores_ran}
use Rattle.series.proofs.scores.Goals as goal

pub returns-then-settled-ne0 : goal.returns-then-settled-ne0
unfolding scores_reply
returns-then-settled-ne0 c =
    let a = c.args in
    let h = hour_asked a.hour (hour_numbers a.head a.bands.now a.counted a.earlier.now a.readings.now) in
    let p = scores_none h a.run.now _ (ap (λ (x : Settlement). x.refusal) c.settle-settled.ensures.answers) c.if-settled-ne0.true in
    record { answers = p.0; leaves = p.1 }

pub returns : goal.returns
unfolding scores_reply
returns c =
    let a = c.args in
    let h = hour_asked a.hour (hour_numbers a.head a.bands.now a.counted a.earlier.now a.readings.now) in
    let k = ap (λ (x : Settlement). x.refusal) c.settle-settled.ensures.answers in
    let p = scores_ran h a.run.now _ k _ _ _ seconds_of_hour refl c.requires c.settle-settled.ensures.leaves c.widen.ensures c.if-settled-ne0.false in
    record { answers = p.0; leaves = p.1 }
