-- Answers that meet the public function's contract are equal, and so is what each leaves in the lent run of scores: the contract is made of equations. Assumes nothing.
use mathlib.Core.Path.{sym, ◌∙◌}
use Rattle.whole.specs.Determined.{Determined, LeftDetermined}
use Rattle.sreg_hour.specs.Calls.{sreg_run}
use Rattle.sreg_hour.proofs.sreg_hour.Reads as sreg_hour_reads
use Rattle.sreg_hour.proofs.sreg_hour.Kinds as sreg_hour_kinds

sreg_hour_determined : Determined 6 sreg_hour_kinds.ps sreg_hour_kinds.r sreg_hour_reads.Post
sreg_hour_determined κs a x y s t p q = p.0 ∙ sym q.0

sreg_hour_scores_determined : LeftDetermined 6 sreg_hour_kinds.ps sreg_hour_kinds.r sreg_run sreg_hour_reads.Post
sreg_hour_scores_determined κs a x y s t p q = p.1 ∙ sym q.1
