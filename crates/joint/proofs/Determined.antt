-- Answers that meet a public function's contract are equal: the contracts are equations. Assumes nothing.
use mathlib.Core.Path.{sym, ◌∙◌}
use Rattle.whole.specs.Determined.{Determined}
use Rattle.joint.proofs.joint.Reads as joint_reads
use Rattle.joint.proofs.joint.Kinds as joint_kinds
use Rattle.joint.proofs.sreg_joint.Reads as sreg_joint_reads
use Rattle.joint.proofs.sreg_joint.Kinds as sreg_joint_kinds

joint_determined : Determined 5 joint_kinds.ps joint_kinds.r joint_reads.Post
joint_determined κs a x y s t p q = p ∙ sym q

sreg_joint_determined : Determined 5 sreg_joint_kinds.ps sreg_joint_kinds.r sreg_joint_reads.Post
sreg_joint_determined κs a x y s t p q = p ∙ sym q
