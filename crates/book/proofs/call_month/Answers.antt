-- `book::call_month`: 14, then by the kind. Assumes nothing.
use mathlib.Core.Path.{sym, ap, ◌∙◌}
use borrow.Author.Tests.{not-true, not-false}
use Rattle.units.specs.Refusals.{told_number}
use Rattle.book.specs.Book.{call_of}
use Rattle.book.specs.Inner.{book_of, place_call}
use Rattle.book.specs.declared.Taken.{Taken}
use Rattle.book.proofs.Calls.{call_touches, call_other, called_14, called_place, place_told, called_head}
use Rattle.book.proofs.call_month.Goals as goal

pub returns-then-not-cover-clause-number : goal.returns-then-not-cover-clause-number
returns-then-not-cover-clause-number c = let a = c.args in (called_14 a.cover a.marks.now a.amounts.now (call_of a.entry) (not-true a.cover.opened c.if-not-cover.true)).0

pub returns-then-not-cover-clause-book : goal.returns-then-not-cover-clause-book
returns-then-not-cover-clause-book c = let a = c.args in (called_14 a.cover a.marks.now a.amounts.now (call_of a.entry) (not-true a.cover.opened c.if-not-cover.true)).1

pub returns-then-uses_hour-clause-number : goal.returns-then-uses_hour-clause-number
returns-then-uses_hour-clause-number c =
    let a = c.args in
    let k = c.call_place.ensures in
    let told = c.told_number-refusal.ensures ∙ ap told_number k.number ∙ place_told a.cover a.marks.now a.amounts.now (place_call a.entry) in
    rw (call_touches a.entry (sym c.uses_hour.ensures ∙ c.if-uses_hour.true))
    (called_place a.cover a.marks.now a.amounts.now (place_call a.entry) _ _ _ (not-false a.cover.opened c.if-not-cover.false) told k.board).0

pub returns-then-uses_hour-clause-book : goal.returns-then-uses_hour-clause-book
returns-then-uses_hour-clause-book c =
    let a = c.args in
    let k = c.call_place.ensures in
    let told = c.told_number-refusal.ensures ∙ ap told_number k.number ∙ place_told a.cover a.marks.now a.amounts.now (place_call a.entry) in
    rw (call_touches a.entry (sym c.uses_hour.ensures ∙ c.if-uses_hour.true))
    (called_place a.cover a.marks.now a.amounts.now (place_call a.entry) _ _ _ (not-false a.cover.opened c.if-not-cover.false) told k.board).1

pub returns-clause-number : goal.returns-clause-number
returns-clause-number c =
    let a = c.args in
    rw (call_other a.entry (sym c.uses_hour.ensures ∙ c.if-uses_hour.false))
    (ap (λ (t : Taken). t.refusal) c.call_head.ensures ∙ (called_head a.cover a.marks.now a.amounts.now a.entry.kind a.entry.amount.0 (not-false a.cover.opened c.if-not-cover.false)).0)

pub returns-clause-book : goal.returns-clause-book
returns-clause-book c =
    let a = c.args in
    rw (call_other a.entry (sym c.uses_hour.ensures ∙ c.if-uses_hour.false))
    (ap (λ (t : Taken). book_of t.cover a.marks.now a.amounts.now) c.call_head.ensures ∙ (called_head a.cover a.marks.now a.amounts.now a.entry.kind a.entry.amount.0 (not-false a.cover.opened c.if-not-cover.false)).1)
