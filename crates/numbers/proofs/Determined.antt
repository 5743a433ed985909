-- Answers that meet a public function's contract are equal, and so is what each leaves in a lent run: each contract is one equation. Assumes nothing.
use mathlib.Core.Path.{sym, ◌∙◌}
use Rattle.whole.specs.Determined.{Determined, LeftDetermined}
use Rattle.numbers.proofs.cut.Reads as cut
use Rattle.numbers.proofs.cut.Kinds as cut_kinds
use Rattle.numbers.proofs.byte_of.Reads as byte_of_lem
use Rattle.numbers.proofs.byte_of.Kinds as byte_of_kinds
use Rattle.numbers.proofs.fill_bytes.Reads as fill_bytes
use Rattle.numbers.proofs.fill_bytes.Kinds as fill_bytes_kinds
use Rattle.numbers.proofs.first_four.Reads as first_four_lem
use Rattle.numbers.proofs.first_four.Kinds as first_four_kinds
use Rattle.numbers.proofs.column.Reads as column
use Rattle.numbers.proofs.column.Kinds as column_kinds

cut_determined : Determined 1 cut_kinds.ps cut_kinds.r cut.Post
cut_determined κs a x y s t p q = p ∙ sym q

byte_of_determined : Determined 0 byte_of_kinds.ps byte_of_kinds.r byte_of_lem.Post
byte_of_determined κs a x y s t p q = p ∙ sym q

fill_bytes_run_determined : LeftDetermined 2 fill_bytes_kinds.ps fill_bytes_kinds.r (λ κs s. s.1.0.now) fill_bytes.Post
fill_bytes_run_determined κs a x y s t p q = p ∙ sym q

first_four_determined : Determined 1 first_four_kinds.ps first_four_kinds.r first_four_lem.Post
first_four_determined κs a x y s t p q = p ∙ sym q

column_run_determined : LeftDetermined 2 column_kinds.ps column_kinds.r (λ κs s. s.1.1.0.now) column.Post
column_run_determined κs a x y s t p q = p ∙ sym q
