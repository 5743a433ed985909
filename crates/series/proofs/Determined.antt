-- Answers that meet the public function's contract are equal, and so is what each leaves in the lent run: the contract is made of equations.
-- Assumes nothing.
use mathlib.Core.Path.{sym, ◌∙◌}
use Rattle.whole.specs.Determined.{Determined, LeftDetermined}
use Rattle.series.proofs.answer.Reads as answer
use Rattle.series.proofs.answer.Kinds as answer_kinds

answer_determined : Determined 4 answer_kinds.ps answer_kinds.r answer.Post
answer_determined κs a x y s t p q = p.0 ∙ sym q.0

answer_run_determined : LeftDetermined 4 answer_kinds.ps answer_kinds.r (λ κs s. s.1.1.1.1.1.1.0.now) answer.Post
answer_run_determined κs a x y s t p q = p.1 ∙ sym q.1
