-- `book::open_month`: a month that opens has both runs cleared. Assumes nothing.
use Rattle.book.proofs.Calls.{opened_14, opened_by}
use Rattle.book.proofs.open_month.Goals as goal

pub returns-then-cover-clause-number : goal.returns-then-cover-clause-number
returns-then-cover-clause-number c = let a = c.args in (opened_14 a.cover a.marks.now a.amounts.now a.days c.if-cover.true).0

pub returns-then-cover-clause-book : goal.returns-then-cover-clause-book
returns-then-cover-clause-book c = let a = c.args in (opened_14 a.cover a.marks.now a.amounts.now a.days c.if-cover.true).1

pub returns-clause-number : goal.returns-clause-number
returns-clause-number c =
    let a = c.args in
    let h = c.open_in-headed.ensures in
    (opened_by a.cover a.marks.now a.amounts.now a.days _ _ _ _ c.if-cover.false c.open_taken.ensures h.answers h.marks h.amounts).0

pub returns-clause-book : goal.returns-clause-book
returns-clause-book c =
    let a = c.args in
    let h = c.open_in-headed.ensures in
    (opened_by a.cover a.marks.now a.amounts.now a.days _ _ _ _ c.if-cover.false c.open_taken.ensures h.answers h.marks h.amounts).1
