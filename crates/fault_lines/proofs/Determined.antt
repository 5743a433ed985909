-- Answers that meet the public function's contract are equal, and so is what each leaves in the lent run: the contract is made of equations.
-- Assumes nothing.
use mathlib.Core.Path.{sym, ◌∙◌}
use Rattle.whole.specs.Determined.{Determined, LeftDetermined}
use Rattle.fault_lines.proofs.put_fault.Reads as put_fault
use Rattle.fault_lines.proofs.put_fault.Kinds as put_fault_kinds

put_fault_determined : Determined 1 put_fault_kinds.ps put_fault_kinds.r put_fault.Post
put_fault_determined κs a x y s t p q = p.0 ∙ sym q.0

put_fault_out_determined : LeftDetermined 1 put_fault_kinds.ps put_fault_kinds.r (λ κs s. s.1.1.0.now) put_fault.Post
put_fault_out_determined κs a x y s t p q = p.1 ∙ sym q.1
