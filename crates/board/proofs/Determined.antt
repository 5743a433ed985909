-- Answers that meet a public function's contract are equal, and so is what each leaves in the two lent runs: the contracts are equations, and an
-- equation between boards is one between their lists. Assumes nothing.
use mathlib.Core.Path.{sym, ap, ◌∙◌}
use mathlib.Core.Bool.{Bool}
use lib.IntN.{ℤ}
use Rattle.whole.specs.Determined.{Determined, LeftDetermined}
use Rattle.history.specs.Board.{Board}
use Rattle.head.specs.Rules.{Fee}
use Rattle.board.specs.Calls.{lent_marks, lent_amounts}
use Rattle.board.proofs.open_in.Reads as open_in_reads
use Rattle.board.proofs.open_in.Kinds as open_in_kinds
use Rattle.board.proofs.total_in.Reads as total_in_reads
use Rattle.board.proofs.total_in.Kinds as total_in_kinds
use Rattle.board.proofs.post_in.Reads as post_in_reads
use Rattle.board.proofs.post_in.Kinds as post_in_kinds
use Rattle.board.proofs.replace_in.Reads as replace_in_reads
use Rattle.board.proofs.replace_in.Kinds as replace_in_kinds
use Rattle.board.proofs.withdraw_in.Reads as withdraw_in_reads
use Rattle.board.proofs.withdraw_in.Kinds as withdraw_in_kinds
use Rattle.board.proofs.check_in.Reads as check_in_reads
use Rattle.board.proofs.check_in.Kinds as check_in_kinds
use Rattle.board.proofs.hour_in.Reads as hour_in_reads
use Rattle.board.proofs.hour_in.Kinds as hour_in_kinds

post_in_determined : Determined 2 post_in_kinds.ps post_in_kinds.r post_in_reads.Post
post_in_determined κs a x y s t p q = p.0 ∙ sym q.0

post_in_marks_determined : LeftDetermined 2 post_in_kinds.ps post_in_kinds.r (λ κs s. lent_marks s) post_in_reads.Post
post_in_marks_determined κs a x y s t p q = ap (λ (b : Board Fee Bool ℤ). b.marks) (p.1 ∙ sym q.1)

post_in_amounts_determined : LeftDetermined 2 post_in_kinds.ps post_in_kinds.r (λ κs s. lent_amounts s) post_in_reads.Post
post_in_amounts_determined κs a x y s t p q = ap (λ (b : Board Fee Bool ℤ). b.amounts) (p.1 ∙ sym q.1)

replace_in_determined : Determined 2 replace_in_kinds.ps replace_in_kinds.r replace_in_reads.Post
replace_in_determined κs a x y s t p q = p.0 ∙ sym q.0

replace_in_marks_determined : LeftDetermined 2 replace_in_kinds.ps replace_in_kinds.r (λ κs s. lent_marks s) replace_in_reads.Post
replace_in_marks_determined κs a x y s t p q = ap (λ (b : Board Fee Bool ℤ). b.marks) (p.1 ∙ sym q.1)

replace_in_amounts_determined : LeftDetermined 2 replace_in_kinds.ps replace_in_kinds.r (λ κs s. lent_amounts s) replace_in_reads.Post
replace_in_amounts_determined κs a x y s t p q = ap (λ (b : Board Fee Bool ℤ). b.amounts) (p.1 ∙ sym q.1)

withdraw_in_determined : Determined 2 withdraw_in_kinds.ps withdraw_in_kinds.r withdraw_in_reads.Post
withdraw_in_determined κs a x y s t p q = p.0 ∙ sym q.0

withdraw_in_marks_determined : LeftDetermined 2 withdraw_in_kinds.ps withdraw_in_kinds.r (λ κs s. lent_marks s) withdraw_in_reads.Post
withdraw_in_marks_determined κs a x y s t p q = ap (λ (b : Board Fee Bool ℤ). b.marks) (p.1 ∙ sym q.1)

withdraw_in_amounts_determined : LeftDetermined 2 withdraw_in_kinds.ps withdraw_in_kinds.r (λ κs s. lent_amounts s) withdraw_in_reads.Post
withdraw_in_amounts_determined κs a x y s t p q = ap (λ (b : Board Fee Bool ℤ). b.amounts) (p.1 ∙ sym q.1)

hour_in_determined : Determined 1 hour_in_kinds.ps hour_in_kinds.r hour_in_reads.Post
hour_in_determined κs a x y s t p q = p ∙ sym q

check_in_determined : Determined 1 check_in_kinds.ps check_in_kinds.r check_in_reads.Post
check_in_determined κs a x y s t p q = p ∙ sym q

total_in_determined : Determined 1 total_in_kinds.ps total_in_kinds.r total_in_reads.Post
total_in_determined κs a x y s t p q = p ∙ sym q

open_in_determined : Determined 2 open_in_kinds.ps open_in_kinds.r open_in_reads.Post
open_in_determined κs a x y s t p q = p.0 ∙ sym q.0

open_in_marks_determined : LeftDetermined 2 open_in_kinds.ps open_in_kinds.r (λ κs s. lent_marks s) open_in_reads.Post
open_in_marks_determined κs a x y s t p q = p.1.0 ∙ sym q.1.0

open_in_amounts_determined : LeftDetermined 2 open_in_kinds.ps open_in_kinds.r (λ κs s. lent_amounts s) open_in_reads.Post
open_in_amounts_determined κs a x y s t p q = p.1.1 ∙ sym q.1.1
