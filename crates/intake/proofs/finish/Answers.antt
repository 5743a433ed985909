-- `intake::finish`: what is not refused has room, and a ledger in form. Assumes nothing.
use mathlib.Core.Path.{sym, ◌∙◌}
use Rattle.book.specs.Inner.{book_of}
use Rattle.intake.proofs.Kept.{end_room}
use Rattle.intake.proofs.finish.Goals as goal

pub finish_all-requires-clause-in_bounds : goal.finish_all-requires-clause-in_bounds
finish_all-requires-clause-in_bounds c =
    let a = c.args in
    (end_room (book_of a.state.cover a.marks.now a.amounts.now) _ (sym c.end_refusal-refusal.ensures ∙ c.if-refusal-ne0.false)).0

pub finish_all-requires-clause-amounts_value : goal.finish_all-requires-clause-amounts_value
finish_all-requires-clause-amounts_value c =
    let a = c.args in
    (end_room (book_of a.state.cover a.marks.now a.amounts.now) _ (sym c.end_refusal-refusal.ensures ∙ c.if-refusal-ne0.false)).1
