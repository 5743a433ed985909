-- `intake::end_line`: a line read where it lies reads as the one that is kept. Assumes nothing.
use borrow.Author.Rules.{rules}
use Prim.Native.Nat.{ℕ}
use mathlib.Core.Path.{◌≡◌, ap, ◌∙◌}
use mathlib.Core.List.{List}
use lib.ListN.{length, take}
use Rattle.frame.specs.Frame.{reading_of}
use Rattle.book.specs.Book.{reading_refusal, book_in}
use Rattle.book.specs.Inner.{book_of}
use Rattle.intake.specs.Inner.{held_in}
use Rattle.intake.proofs.Cutting.{reading_here, held_part}
use Rattle.intake.proofs.end_line.Goals as goal

pub returns-then-line-eq0-clause-number : goal.returns-then-line-eq0-clause-number
returns-then-line-eq0-clause-number c =
    let a = c.args in
    let size : length a.line.bytes ≡ 25 = search rules in
    c.take.ensures.number ∙ ap (reading_refusal (book_of a.cover a.marks.now a.amounts.now)) (reading_here a.line a.rest.now size c.if-line-eq0.true)

pub returns-then-line-eq0-clause-book : goal.returns-then-line-eq0-clause-book
returns-then-line-eq0-clause-book c =
    let a = c.args in
    let size : length a.line.bytes ≡ 25 = search rules in
    c.take.ensures.book ∙ ap (book_in (book_of a.cover a.marks.now a.amounts.now)) (reading_here a.line a.rest.now size c.if-line-eq0.true)

pub returns-clause-number : goal.returns-clause-number
returns-clause-number c =
    let a = c.args in
    let size : length c.keep-full.result.bytes ≡ 25 = search rules in
    let e = ap (λ (n : ℕ). take n c.keep-full.result.bytes) c.held.ensures ∙ held_part c.keep-full.result size ∙ ap held_in c.keep-full.ensures in
    c.take-2.ensures.number ∙ ap (λ (l : List ℕ). reading_refusal (book_of a.cover a.marks.now a.amounts.now) (reading_of l)) e

pub returns-clause-book : goal.returns-clause-book
returns-clause-book c =
    let a = c.args in
    let size : length c.keep-full.result.bytes ≡ 25 = search rules in
    let e = ap (λ (n : ℕ). take n c.keep-full.result.bytes) c.held.ensures ∙ held_part c.keep-full.result size ∙ ap held_in c.keep-full.ensures in
    c.take-2.ensures.book ∙ ap (λ (l : List ℕ). book_in (book_of a.cover a.marks.now a.amounts.now) (reading_of l)) e
