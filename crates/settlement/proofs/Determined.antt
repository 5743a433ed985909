-- Answers that meet a public function's contract are equal: the contracts are equations. Assumes nothing.
use mathlib.Core.Path.{sym, ◌∙◌}
use Rattle.whole.specs.Determined.{Determined}
use Rattle.settlement.proofs.settled_at.Reads as settled_at_reads
use Rattle.settlement.proofs.settled_at.Kinds as settled_at_kinds
use Rattle.settlement.proofs.earned_at.Reads as earned_at_reads
use Rattle.settlement.proofs.earned_at.Kinds as earned_at_kinds
use Rattle.settlement.proofs.refused_hour.Reads as refused_hour_reads
use Rattle.settlement.proofs.refused_hour.Kinds as refused_hour_kinds
use Rattle.settlement.proofs.terms_refusal.Reads as terms_refusal_reads
use Rattle.settlement.proofs.terms_refusal.Kinds as terms_refusal_kinds

settled_at_determined : Determined 2 settled_at_kinds.ps settled_at_kinds.r settled_at_reads.Post
settled_at_determined κs a x y s t p q = p ∙ sym q

earned_at_determined : Determined 0 earned_at_kinds.ps earned_at_kinds.r earned_at_reads.Post
earned_at_determined κs a x y s t p q = p ∙ sym q

refused_hour_determined : Determined 0 refused_hour_kinds.ps refused_hour_kinds.r refused_hour_reads.Post
refused_hour_determined κs a x y s t p q = p ∙ sym q

terms_refusal_determined : Determined 2 terms_refusal_kinds.ps terms_refusal_kinds.r terms_refusal_reads.Post
terms_refusal_determined κs a x y s t p q = p ∙ sym q
