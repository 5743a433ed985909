-- Answers that meet a public function's contract are equal, and so is what each leaves in the lent runs: the contracts are equations.
-- Assumes nothing.
use mathlib.Core.Path.{sym, ◌∙◌}
use Rattle.whole.specs.Determined.{Determined, LeftDetermined}
use Rattle.board.specs.Calls.{lent_marks, lent_amounts}
use Rattle.intake.specs.Calls.{lent_out}
use Rattle.intake.proofs.start.Reads as start_reads
use Rattle.intake.proofs.start.Kinds as start_kinds
use Rattle.intake.proofs.feed.Reads as feed_reads
use Rattle.intake.proofs.feed.Kinds as feed_kinds
use Rattle.intake.proofs.finish.Reads as finish_reads
use Rattle.intake.proofs.finish.Kinds as finish_kinds

start_determined : Determined 0 start_kinds.ps start_kinds.r start_reads.Post
start_determined κs a x y s t p q = p ∙ sym q

feed_determined : Determined 4 feed_kinds.ps feed_kinds.r feed_reads.Post
feed_determined κs a x y s t p q = p.0 ∙ sym q.0

feed_marks_determined : LeftDetermined 4 feed_kinds.ps feed_kinds.r (λ κs s. lent_marks s.1) feed_reads.Post
feed_marks_determined κs a x y s t p q = p.1.0 ∙ sym q.1.0

feed_amounts_determined : LeftDetermined 4 feed_kinds.ps feed_kinds.r (λ κs s. lent_amounts s.1) feed_reads.Post
feed_amounts_determined κs a x y s t p q = p.1.1.0 ∙ sym q.1.1.0

feed_out_determined : LeftDetermined 4 feed_kinds.ps feed_kinds.r (λ κs s. lent_out s.1) feed_reads.Post
feed_out_determined κs a x y s t p q = p.1.1.1.0 ∙ sym q.1.1.1.0

finish_determined : Determined 3 finish_kinds.ps finish_kinds.r finish_reads.Post
finish_determined κs a x y s t p q = p.0 ∙ sym q.0

finish_marks_determined : LeftDetermined 3 finish_kinds.ps finish_kinds.r (λ κs s. lent_marks s) finish_reads.Post
finish_marks_determined κs a x y s t p q = p.1.0 ∙ sym q.1.0

finish_amounts_determined : LeftDetermined 3 finish_kinds.ps finish_kinds.r (λ κs s. lent_amounts s) finish_reads.Post
finish_amounts_determined κs a x y s t p q = p.1.1.0 ∙ sym q.1.1.0

finish_out_determined : LeftDetermined 3 finish_kinds.ps finish_kinds.r (λ κs s. lent_out s) finish_reads.Post
finish_out_determined κs a x y s t p q = p.1.1.1.0 ∙ sym q.1.1.1.0
