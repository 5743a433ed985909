-- Answers that meet a public function's contract are equal, and so is what they leave in a lent run: each contract is an equation for each. Assumes nothing.
use mathlib.Core.Path.{sym, ◌∙◌}
use Rattle.whole.specs.Determined.{Determined, LeftDetermined}
use Rattle.pair_frame.proofs.read_pair.Reads as read_pair
use Rattle.pair_frame.proofs.read_pair.Kinds as read_pair_kinds
use Rattle.pair_frame.proofs.write_pair.Reads as write_pair
use Rattle.pair_frame.proofs.write_pair.Kinds as write_pair_kinds

read_pair_determined : Determined 1 read_pair_kinds.ps read_pair_kinds.r read_pair.Post
read_pair_determined κs a x y s t p q = p ∙ sym q

write_pair_determined : Determined 1 write_pair_kinds.ps write_pair_kinds.r write_pair.Post
write_pair_determined κs a x y s t p q = p.0 ∙ sym q.0

write_pair_line_determined : LeftDetermined 1 write_pair_kinds.ps write_pair_kinds.r (λ κs s. s.1.1.1.0.now) write_pair.Post
write_pair_line_determined κs a x y s t p q = p.1 ∙ sym q.1
