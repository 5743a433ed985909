-- Answers that meet `take`'s contract are equal, and so is what each leaves in the two lent runs: a book has all of a cover and of the runs. Assumes nothing.
use mathlib.Core.Path.{sym, ap, ◌∙◌}
use Rattle.whole.specs.Determined.{Determined, LeftDetermined}
use Rattle.board.specs.Calls.{lent_marks, lent_amounts}
use Rattle.book.specs.Book.{Book}
use Rattle.book.specs.Inner.{cover_of}
use Rattle.book.proofs.take.Reads as take_reads
use Rattle.book.proofs.take.Kinds as take_kinds

take_determined : Determined 3 take_kinds.ps take_kinds.r take_reads.Post
take_determined κs a x y s t p q i = record { refusal = (p.0 ∙ sym q.0) i; cover = cover_of ((p.1 ∙ sym q.1) i) }

take_marks_determined : LeftDetermined 3 take_kinds.ps take_kinds.r (λ κs s. lent_marks s.1) take_reads.Post
take_marks_determined κs a x y s t p q = ap (λ (b : Book). b.board.marks) (p.1 ∙ sym q.1)

take_amounts_determined : LeftDetermined 3 take_kinds.ps take_kinds.r (λ κs s. lent_amounts s.1) take_reads.Post
take_amounts_determined κs a x y s t p q = ap (λ (b : Book). b.board.amounts) (p.1 ∙ sym q.1)
