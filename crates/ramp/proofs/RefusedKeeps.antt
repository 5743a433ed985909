-- A refused ramp or plan has its number alone and leaves the lent run as it was: both go by the call's number. Assumes nothing.
use mathlib.Core.Path.{ap, ◌∙◌}
use Rattle.whole.specs.Refused.{RefusedKeeps}
use Rattle.whole.proofs.Choice.{kept_old}
use Rattle.units.specs.Refusals.{told_number, refused_as}
use Rattle.units.proofs.Numbered.{bare, number_some}
use lib.ListN.{length}
use Rattle.ramp.specs.Ramp.{ramp_of, ramp_refusal, ramp_left, plan_of, plan_refusal, plan_left}
use Rattle.ramp.specs.Calls.{ramp_run, plan_run}
use Rattle.ramp.proofs.ramp.Reads as ramp
use Rattle.ramp.proofs.ramp.Kinds as ramp_kinds
use Rattle.ramp.proofs.plan.Reads as plan
use Rattle.ramp.proofs.plan.Kinds as plan_kinds

ramp_refused_keeps : RefusedKeeps 1 ramp_kinds.ps ramp_kinds.r (λ κs x. told_number x) (λ κs a k. refused_as k) ramp_run ramp_run ramp.Post
unfolding ramp_left
ramp_refused_keeps κs (last, (target, (seconds, end))) x s p f =
    (bare x f, p.1 ∙ kept_old (ramp_of last.0 target.0) seconds.now (number_some (ramp_refusal last target (length seconds.now)) (tt {0}) (λ z. f (ap (λ y. told_number y) p.0 ∙ z))))

plan_refused_keeps : RefusedKeeps 2 plan_kinds.ps plan_kinds.r (λ κs x. told_number x) (λ κs a k. refused_as k) plan_run plan_run plan.Post
unfolding plan_left
plan_refused_keeps κs (targets, (seconds, end)) x s p f =
    (bare x f, p.1 ∙ kept_old (plan_of targets.now) seconds.now (number_some (plan_refusal targets.now (length seconds.now)) (tt {0}) (λ z. f (ap (λ y. told_number y) p.0 ∙ z))))
