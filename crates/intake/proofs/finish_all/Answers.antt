-- `intake::finish_all`: the total, at most 28 bytes, is put after the last answer. Assumes nothing.
use borrow.Author.Rules.{rules}
use Prim.Native.Nat.{◌≤◌}
use native.Mathlib.Omega.{arith}
use mathlib.Core.Path.{◌≡◌, ap, ◌∙◌}
use lib.ListN.{length}
use mathlib.Core.List.{◌++◌}
use mir.Syntax.{w64}
use mir.Val.{SFits, to_z, of_z}
use mir.Facts.{to_z-of_z}
use Rattle.units.specs.declared.Dollars.{Dollars}
use Rattle.intake.specs.Text.{total_text}
use Rattle.intake.specs.Answers.{book_total}
use Rattle.book.specs.Inner.{book_of}
use Rattle.intake.specs.Inner.{book_refusal, last_in, last_book, last_answer}
use Rattle.intake.proofs.Kept.{all_kept}
use Rattle.text.proofs.Places.{put_then}
use Rattle.text.proofs.Spelling.{length_signed}
use Rattle.intake.proofs.Printed.{total_long}
use Rattle.intake.proofs.finish_all.Goals as goal

pub total-sum-requires : goal.total-sum-requires
total-sum-requires c =
    let a = c.args in
    ap book_refusal c.last_line-work.ensures.book ∙ all_kept (book_of a.state.cover a.marks.now a.amounts.now) (last_in a.state.line) c.requires.amounts_value

pub put_total-requires : goal.put_total-requires
put_total-requires c =
    let z = c.total-sum.result.0 in
    let fits : SFits w64 z = search rules in
    let short : length (total_text (to_z w64 (of_z w64 z))) ≤ 28 = rw (to_z-of_z fits) (omega (arith, total_long z, length_signed z fits)) in
    let l = c.last_line-work in
    omega (arith, short, l.ensures.room, l.auto.out, c.requires.in_bounds)

pub returns-clause-answers : goal.returns-clause-answers
returns-clause-answers c =
    let a = c.args in
    let r = c.last_line-work.ensures in
    let book = last_book a.state a.marks.now a.amounts.now in
    let first = last_answer a.state a.marks.now a.amounts.now in
    let fits : SFits w64 c.total-sum.result.0 = search rules in
    let total = to_z-of_z fits ∙ ap (λ (z : Dollars). z.0) c.total-sum.ensures ∙ ap book_total r.book in
    let place = rw total at c.put_total.ensures.place in
    let text = rw total at c.put_total.ensures.text in
    let two = put_then a.out.now _ _ 0 _ _ first (total_text (book_total book)) (omega (arith, r.place, r.room, c.requires.in_bounds)) (omega (arith, r.place)) r.text place text in
    let long : c.put_total.result ≡ length (first ++ total_text (book_total book)) = omega (arith, two.0) in
    λ i. record { refusal = 0; written = long i }

pub returns-clause-text : goal.returns-clause-text
returns-clause-text c =
    let a = c.args in
    let r = c.last_line-work.ensures in
    let book = last_book a.state a.marks.now a.amounts.now in
    let first = last_answer a.state a.marks.now a.amounts.now in
    let fits : SFits w64 c.total-sum.result.0 = search rules in
    let total = to_z-of_z fits ∙ ap (λ (z : Dollars). z.0) c.total-sum.ensures ∙ ap book_total r.book in
    let place = rw total at c.put_total.ensures.place in
    let text = rw total at c.put_total.ensures.text in
    let two = put_then a.out.now _ _ 0 _ _ first (total_text (book_total book)) (omega (arith, r.place, r.room, c.requires.in_bounds)) (omega (arith, r.place)) r.text place text in
    two.1

pub returns-clause-room : goal.returns-clause-room
returns-clause-room c =
    let z = c.total-sum.result.0 in
    let fits : SFits w64 z = search rules in
    let short : length (total_text (to_z w64 (of_z w64 z))) ≤ 28 = rw (to_z-of_z fits) (omega (arith, total_long z, length_signed z fits)) in
    omega (arith, c.put_total.ensures.place, short, c.last_line-work.ensures.room, c.requires.in_bounds)
