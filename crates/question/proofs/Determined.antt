-- Answers that meet the public function's contract are equal, and so is what each leaves in the lent run: the contract is made of equations.
-- Assumes nothing.
use mathlib.Core.Path.{sym, ◌∙◌}
use Rattle.whole.specs.Determined.{Determined, LeftDetermined}
use Rattle.question.proofs.reply.Reads as reply
use Rattle.question.proofs.reply.Kinds as reply_kinds

reply_determined : Determined 2 reply_kinds.ps reply_kinds.r reply.Post
reply_determined κs a x y s t p q = p.0 ∙ sym q.0

reply_out_determined : LeftDetermined 2 reply_kinds.ps reply_kinds.r (λ κs s. s.1.1.1.1.1.0.now) reply.Post
reply_out_determined κs a x y s t p q = p.1.0 ∙ sym q.1.0
