-- Answers that meet a public function's contract are equal, and so is what each leaves in the lent run: the contracts are equations.
-- Assumes nothing.
use mathlib.Core.Path.{sym, ◌∙◌}
use Rattle.whole.specs.Determined.{Determined, LeftDetermined}
use Rattle.asked.proofs.start.Reads as start_reads
use Rattle.asked.proofs.start.Kinds as start_kinds
use Rattle.asked.proofs.read.Reads as read_reads
use Rattle.asked.proofs.read.Kinds as read_kinds
use Rattle.asked.proofs.end.Reads as end_reads
use Rattle.asked.proofs.end.Kinds as end_kinds

start_determined : Determined 0 start_kinds.ps start_kinds.r start_reads.Post
start_determined κs a x y s t p q = p ∙ sym q

read_determined : Determined 2 read_kinds.ps read_kinds.r read_reads.Post
read_determined κs a x y s t p q = p.0 ∙ sym q.0

read_numbers_determined : LeftDetermined 2 read_kinds.ps read_kinds.r (λ κs s. s.1.1.0.now) read_reads.Post
read_numbers_determined κs a x y s t p q = p.1 ∙ sym q.1

end_determined : Determined 1 end_kinds.ps end_kinds.r end_reads.Post
end_determined κs a x y s t p q = p.0 ∙ sym q.0

end_numbers_determined : LeftDetermined 1 end_kinds.ps end_kinds.r (λ κs s. s.1.0.now) end_reads.Post
end_numbers_determined κs a x y s t p q = p.1 ∙ sym q.1
