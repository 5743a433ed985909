-- Answers that meet a public function's contract are equal, and so is what each leaves in the lent run of scores: the contracts are equations.
-- Assumes nothing.
use mathlib.Core.Path.{sym, ◌∙◌}
use Rattle.whole.specs.Determined.{Determined, LeftDetermined}
use Rattle.hour.specs.Calls.{hour_run, dreg_run}
use Rattle.hour.proofs.hour.Reads as hour_reads
use Rattle.hour.proofs.hour.Kinds as hour_kinds
use Rattle.hour.proofs.dreg_hour.Reads as dreg_hour_reads
use Rattle.hour.proofs.dreg_hour.Kinds as dreg_hour_kinds
use Rattle.hour.proofs.refused_hour.Reads as refused_hour_reads
use Rattle.hour.proofs.refused_hour.Kinds as refused_hour_kinds
use Rattle.hour.proofs.terms_refusal.Reads as terms_refusal_reads
use Rattle.hour.proofs.terms_refusal.Kinds as terms_refusal_kinds
use Rattle.hour.proofs.settled_at.Reads as settled_at_reads
use Rattle.hour.proofs.settled_at.Kinds as settled_at_kinds

hour_determined : Determined 6 hour_kinds.ps hour_kinds.r hour_reads.Post
hour_determined κs a x y s t p q = p.0 ∙ sym q.0

hour_scores_determined : LeftDetermined 6 hour_kinds.ps hour_kinds.r hour_run hour_reads.Post
hour_scores_determined κs a x y s t p q = p.1 ∙ sym q.1

dreg_hour_determined : Determined 6 dreg_hour_kinds.ps dreg_hour_kinds.r dreg_hour_reads.Post
dreg_hour_determined κs a x y s t p q = p.0 ∙ sym q.0

dreg_hour_scores_determined : LeftDetermined 6 dreg_hour_kinds.ps dreg_hour_kinds.r dreg_run dreg_hour_reads.Post
dreg_hour_scores_determined κs a x y s t p q = p.1 ∙ sym q.1

refused_hour_determined : Determined 0 refused_hour_kinds.ps refused_hour_kinds.r refused_hour_reads.Post
refused_hour_determined κs a x y s t p q = p ∙ sym q

terms_refusal_determined : Determined 2 terms_refusal_kinds.ps terms_refusal_kinds.r terms_refusal_reads.Post
terms_refusal_determined κs a x y s t p q = p ∙ sym q

settled_at_determined : Determined 2 settled_at_kinds.ps settled_at_kinds.r settled_at_reads.Post
settled_at_determined κs a x y s t p q = p ∙ sym q
