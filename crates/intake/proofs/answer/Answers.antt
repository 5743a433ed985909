-- `intake::answer`: by the number of lines answered; an answer is at most twelve bytes. Assumes nothing.
use borrow.Author.Rules.{rules}
use Prim.Native.Nat.{ℕ, ◌+◌, ◌<◌}
use native.Mathlib.Omega.{arith}
use mathlib.Core.Path.{sym, ap, ◌∙◌}
use mathlib.Core.List.{List}
use lib.ListN.{length}
use Rattle.text.specs.Text.{put}
use Rattle.intake.specs.Text.{verdict_text}
use Rattle.intake.specs.Answers.{counted_to}
use Rattle.book.specs.Inner.{book_of}
use Rattle.intake.specs.Inner.{held_in, kept_in}
use Rattle.intake.proofs.Counting.{answered_none, answered_one}
use Rattle.text.proofs.Places.{put_nothing}
use Rattle.intake.proofs.Printed.{length_answer}
use Rattle.intake.proofs.answer.Goals as goal

pub returns-then-count-ge-MOST-clause-book : goal.returns-then-count-ge-MOST-clause-book
returns-then-count-ge-MOST-clause-book c =
    let a = c.args in
    let n = answered_none (book_of a.cover a.marks.now a.amounts.now) (held_in (kept_in a.line a.rest.now)) c.if-count-ge-MOST.true in
    sym n.1

pub returns-then-count-ge-MOST-clause-place : goal.returns-then-count-ge-MOST-clause-place
returns-then-count-ge-MOST-clause-place c =
    let a = c.args in
    let n = answered_none (book_of a.cover a.marks.now a.amounts.now) (held_in (kept_in a.line a.rest.now)) c.if-count-ge-MOST.true in
    rw n.0 (omega arith)

pub returns-then-count-ge-MOST-clause-text : goal.returns-then-count-ge-MOST-clause-text
returns-then-count-ge-MOST-clause-text c =
    let a = c.args in
    let n = answered_none (book_of a.cover a.marks.now a.amounts.now) (held_in (kept_in a.line a.rest.now)) c.if-count-ge-MOST.true in
    rw n.0 (sym (put_nothing _ _))

pub put_answer-to-requires : goal.put_answer-to-requires
put_answer-to-requires c =
    let h : c.end_line-taken.result.refusal < 256 = search rules in
    let short = length_answer (c.args.cover.count + 1) c.end_line-taken.result.refusal (omega arith) h in
    omega (arith, short, c.requires)

pub returns-clause-book : goal.returns-clause-book
returns-clause-book c =
    let a = c.args in
    let n = answered_one (book_of a.cover a.marks.now a.amounts.now) (held_in (kept_in a.line a.rest.now)) c.if-count-ge-MOST.false in
    ap (counted_to (a.cover.count + 1)) c.end_line-taken.ensures.book ∙ sym n.1

pub returns-clause-place : goal.returns-clause-place
returns-clause-place c =
    let a = c.args in
    let n = answered_one (book_of a.cover a.marks.now a.amounts.now) (held_in (kept_in a.line a.rest.now)) c.if-count-ge-MOST.false in
    let text = ap (verdict_text (a.cover.count + 1)) c.end_line-taken.ensures.number ∙ sym n.0 in
    c.put_answer-to.ensures.place ∙ ap (λ (t : List ℕ). a.at + length t) text

pub returns-clause-text : goal.returns-clause-text
returns-clause-text c =
    let a = c.args in
    let n = answered_one (book_of a.cover a.marks.now a.amounts.now) (held_in (kept_in a.line a.rest.now)) c.if-count-ge-MOST.false in
    let text = ap (verdict_text (a.cover.count + 1)) c.end_line-taken.ensures.number ∙ sym n.0 in
    c.put_answer-to.ensures.text ∙ ap (put a.out.now a.at) text

pub returns-clause-room : goal.returns-clause-room
returns-clause-room c =
    let h : c.end_line-taken.result.refusal < 256 = search rules in
    let short = length_answer (c.args.cover.count + 1) c.end_line-taken.result.refusal (omega arith) h in
    omega (arith, c.put_answer-to.ensures.place, short)
