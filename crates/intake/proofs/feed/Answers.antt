-- `intake::feed`: what is not refused has room for its answers. Assumes nothing.
use mathlib.Core.Path.{sym, ◌∙◌}
use Rattle.book.specs.Inner.{book_of}
use Rattle.intake.proofs.Kept.{feed_room}
use Rattle.intake.proofs.feed.Goals as goal

pub answer_all-requires : goal.answer_all-requires
answer_all-requires c =
    let a = c.args in
    feed_room (book_of a.state.cover a.marks.now a.amounts.now) _ _ (sym c.feed_refusal-refusal.ensures ∙ c.if-refusal-ne0.false)
