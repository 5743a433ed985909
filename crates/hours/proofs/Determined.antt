-- Answers that meet a public function's contract are equal, and so is what each leaves in the lent run: the contracts are equations.
-- Assumes nothing.
use mathlib.Core.Path.{sym, ◌∙◌}
use Rattle.whole.specs.Determined.{Determined, LeftDetermined}
use Rattle.hours.proofs.settle.Reads as settle
use Rattle.hours.proofs.settle.Kinds as settle_kinds
use Rattle.hours.proofs.answer.Reads as answer
use Rattle.hours.proofs.answer.Kinds as answer_kinds

settle_determined : Determined 4 settle_kinds.ps settle_kinds.r settle.Post
settle_determined κs a x y s t p q = p.0 ∙ sym q.0

settle_scores_determined : LeftDetermined 4 settle_kinds.ps settle_kinds.r (λ κs s. s.1.1.1.1.1.1.0.now) settle.Post
settle_scores_determined κs a x y s t p q = p.1 ∙ sym q.1

answer_determined : Determined 3 answer_kinds.ps answer_kinds.r answer.Post
answer_determined κs a x y s t p q = p ∙ sym q
