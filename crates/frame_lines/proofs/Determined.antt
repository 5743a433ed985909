-- Answers that meet a public function's contract are equal, and so is what each leaves in the lent run: the contracts are made of equations.
-- Assumes nothing.
use mathlib.Core.Path.{sym, ◌∙◌}
use Rattle.whole.specs.Determined.{Determined, LeftDetermined}
use Rattle.frame_lines.proofs.put_frames.Reads as put_frames
use Rattle.frame_lines.proofs.put_frames.Kinds as put_frames_kinds
use Rattle.frame_lines.proofs.put_pair.Reads as put_pair
use Rattle.frame_lines.proofs.put_pair.Kinds as put_pair_kinds

put_frames_determined : Determined 1 put_frames_kinds.ps put_frames_kinds.r put_frames.Post
put_frames_determined κs a x y s t p q = p.0 ∙ sym q.0

put_frames_out_determined : LeftDetermined 1 put_frames_kinds.ps put_frames_kinds.r (λ κs s. s.1.0.now) put_frames.Post
put_frames_out_determined κs a x y s t p q = p.1 ∙ sym q.1

put_pair_determined : Determined 1 put_pair_kinds.ps put_pair_kinds.r put_pair.Post
put_pair_determined κs a x y s t p q = p.0 ∙ sym q.0

put_pair_out_determined : LeftDetermined 1 put_pair_kinds.ps put_pair_kinds.r (λ κs s. s.1.1.1.0.now) put_pair.Post
put_pair_out_determined κs a x y s t p q = p.1 ∙ sym q.1
