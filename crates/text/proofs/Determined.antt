-- Answers that meet a public function's contract are equal, and so is what each leaves in the lent run: the contracts are equations.
-- Assumes nothing.
use mathlib.Core.Path.{sym, ◌∙◌}
use Rattle.whole.specs.Determined.{Determined, LeftDetermined}
use Rattle.text.proofs.put.Reads as put_reads
use Rattle.text.proofs.put.Kinds as put_kinds
use Rattle.text.proofs.put_decimal.Reads as decimal_reads
use Rattle.text.proofs.put_decimal.Kinds as decimal_kinds
use Rattle.text.proofs.put_signed.Reads as signed_Reads
use Rattle.text.proofs.put_signed.Kinds as signed_kinds

put_determined : Determined 2 put_kinds.ps put_kinds.r put_reads.Post
put_determined κs a x y s t p q = p.0 ∙ sym q.0

put_out_determined : LeftDetermined 2 put_kinds.ps put_kinds.r (λ κs s. s.0.now) put_reads.Post
put_out_determined κs a x y s t p q = p.1 ∙ sym q.1

put_decimal_determined : Determined 1 decimal_kinds.ps decimal_kinds.r decimal_reads.Post
put_decimal_determined κs a x y s t p q = p.0 ∙ sym q.0

put_decimal_out_determined : LeftDetermined 1 decimal_kinds.ps decimal_kinds.r (λ κs s. s.0.now) decimal_reads.Post
put_decimal_out_determined κs a x y s t p q = p.1 ∙ sym q.1

put_signed_determined : Determined 1 signed_kinds.ps signed_kinds.r signed_Reads.Post
put_signed_determined κs a x y s t p q = p.0 ∙ sym q.0

put_signed_out_determined : LeftDetermined 1 signed_kinds.ps signed_kinds.r (λ κs s. s.0.now) signed_Reads.Post
put_signed_out_determined κs a x y s t p q = p.1 ∙ sym q.1
