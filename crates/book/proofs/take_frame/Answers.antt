-- `book::take_frame`: an open or a call. Assumes nothing.
use mathlib.Core.Path.{sym, ◌∙◌}
use Rattle.book.specs.Inner.{book_of}
use Rattle.book.proofs.Calls.{framed_open, framed_call}
use Rattle.book.proofs.take_frame.Goals as goal

pub returns-then-entry-eq-OPEN-clause-number : goal.returns-then-entry-eq-OPEN-clause-number
returns-then-entry-eq-OPEN-clause-number c = let a = c.args in c.open_month.ensures.number ∙ sym (framed_open (book_of a.cover a.marks.now a.amounts.now) a.entry c.if-entry-eq-OPEN.true).0

pub returns-then-entry-eq-OPEN-clause-book : goal.returns-then-entry-eq-OPEN-clause-book
returns-then-entry-eq-OPEN-clause-book c = let a = c.args in c.open_month.ensures.book ∙ sym (framed_open (book_of a.cover a.marks.now a.amounts.now) a.entry c.if-entry-eq-OPEN.true).1

pub returns-clause-number : goal.returns-clause-number
returns-clause-number c = let a = c.args in c.call_month.ensures.number ∙ sym (framed_call (book_of a.cover a.marks.now a.amounts.now) a.entry c.if-entry-eq-OPEN.false).0

pub returns-clause-book : goal.returns-clause-book
returns-clause-book c = let a = c.args in c.call_month.ensures.book ∙ sym (framed_call (book_of a.cover a.marks.now a.amounts.now) a.entry c.if-entry-eq-OPEN.false).1
