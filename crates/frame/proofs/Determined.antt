-- Answers that meet a public function's contract are equal, and so is what they leave in a lent run: each contract is an equation for each.
-- Assumes nothing.
use mathlib.Core.Path.{sym, ◌∙◌}
use Rattle.whole.specs.Determined.{Determined, LeftDetermined}
use Rattle.frame.proofs.open_line.Reads as open_line
use Rattle.frame.proofs.open_line.Kinds as open_line_kinds
use Rattle.frame.proofs.close_line.Reads as close_line
use Rattle.frame.proofs.close_line.Kinds as close_line_kinds
use Rattle.frame.proofs.read_frame.Reads as read_frame
use Rattle.frame.proofs.read_frame.Kinds as read_frame_kinds
use Rattle.frame.proofs.write_frame.Reads as write_frame
use Rattle.frame.proofs.write_frame.Kinds as write_frame_kinds

open_line_determined : Determined 1 open_line_kinds.ps open_line_kinds.r open_line.Post
open_line_determined κs a x y s t p q = p ∙ sym q

close_line_determined : Determined 1 close_line_kinds.ps close_line_kinds.r close_line.Post
close_line_determined κs a x y s t p q = p.0 ∙ sym q.0

close_line_line_determined : LeftDetermined 1 close_line_kinds.ps close_line_kinds.r (λ κs s. s.1.0.now) close_line.Post
close_line_line_determined κs a x y s t p q = p.1 ∙ sym q.1

read_frame_determined : Determined 1 read_frame_kinds.ps read_frame_kinds.r read_frame.Post
read_frame_determined κs a x y s t p q = p ∙ sym q

write_frame_determined : Determined 1 write_frame_kinds.ps write_frame_kinds.r write_frame.Post
write_frame_determined κs a x y s t p q = p.0 ∙ sym q.0

write_frame_line_determined : LeftDetermined 1 write_frame_kinds.ps write_frame_kinds.r (λ κs s. s.1.0.now) write_frame.Post
write_frame_line_determined κs a x y s t p q = p.1 ∙ sym q.1
