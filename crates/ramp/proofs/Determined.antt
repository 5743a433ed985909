-- Answers that meet a public function's contract are equal, and so is what each leaves in the lent run: each contract is made of
-- equations. Assumes nothing.
use mathlib.Core.Path.{sym, ◌∙◌}
use Rattle.whole.specs.Determined.{Determined, LeftDetermined}
use Rattle.ramp.specs.Calls.{ramp_run, plan_run}
use Rattle.ramp.proofs.ramp.Reads as ramp
use Rattle.ramp.proofs.ramp.Kinds as ramp_kinds
use Rattle.ramp.proofs.plan.Reads as plan
use Rattle.ramp.proofs.plan.Kinds as plan_kinds

ramp_determined : Determined 1 ramp_kinds.ps ramp_kinds.r ramp.Post
ramp_determined κs a x y s t p q = p.0 ∙ sym q.0

ramp_run_determined : LeftDetermined 1 ramp_kinds.ps ramp_kinds.r ramp_run ramp.Post
ramp_run_determined κs a x y s t p q = p.1 ∙ sym q.1

plan_determined : Determined 2 plan_kinds.ps plan_kinds.r plan.Post
plan_determined κs a x y s t p q = p.0 ∙ sym q.0

plan_run_determined : LeftDetermined 2 plan_kinds.ps plan_kinds.r plan_run plan.Post
plan_run_determined κs a x y s t p q = p.1 ∙ sym q.1
