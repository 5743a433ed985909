-- `asked::read_all`: by each byte, which begins the next question or is taken. Assumes nothing.
use mathlib.Core.Path.{ap, ◌∙◌}
use lib.ListN.{length}
use Rattle.asked.proofs.Reading.{length_stepped, begins_by, stores_by, still_next, still_stops}
use Rattle.asked.proofs.read_all.Goals as goal

pub returns-then-state-next-clause-answer : goal.returns-then-state-next-clause-answer
returns-then-state-next-clause-answer c =
    c.reach.ensures ∙ (still_stops c.loop-i.invariant.1 c.loop-i-test.true (begins_by _ _ _ c.step-next.ensures ∙ c.if-state-next.true)).0

pub returns-then-state-next-clause-run : goal.returns-then-state-next-clause-run
returns-then-state-next-clause-run c = (still_stops c.loop-i.invariant.1 c.loop-i-test.true (begins_by _ _ _ c.step-next.ensures ∙ c.if-state-next.true)).1

pub loop-i-preserved : goal.loop-i-preserved
loop-i-preserved c =
    let l = c.loop-i in
    let stored = rw (stores_by l.state _ _ c.step-next.ensures l.numbers) at c.store.ensures in
    (ap length stored ∙ length_stepped _ _ _ ∙ l.invariant.0, rw (stored, c.stepped-state.ensures) (still_next l.invariant.1 c.loop-i-test.true (begins_by _ _ _ c.step-next.ensures ∙ c.if-state-next.false)))
