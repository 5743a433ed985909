-- `replies::finish`: what was reached is answered. Assumes nothing.
use mathlib.Core.Path.{sym, ◌∙◌}
use Rattle.replies.proofs.Laws.{has_room, finished}
use Rattle.replies.proofs.finish.Goals as goal

pub replied_to-requires : goal.replied_to-requires
replied_to-requires c = has_room _ _ (sym c.fits.ensures ∙ c.if-not-fits.false)

pub returns-clause-answer : goal.returns-clause-answer
returns-clause-answer c =
    let a = c.args in
    let w = c.replied_to.ensures in
    let r = c.end-reached.ensures in
    (finished a.state a.numbers.now _ a.out.now _ _ _ (sym c.fits.ensures ∙ c.if-not-fits.false) w.answer w.text r.answer r.run).0

pub returns-clause-run : goal.returns-clause-run
returns-clause-run c =
    let a = c.args in
    let w = c.replied_to.ensures in
    let r = c.end-reached.ensures in
    (finished a.state a.numbers.now _ a.out.now _ _ _ (sym c.fits.ensures ∙ c.if-not-fits.false) w.answer w.text r.answer r.run).1.0

pub returns-clause-text : goal.returns-clause-text
returns-clause-text c =
    let a = c.args in
    let w = c.replied_to.ensures in
    let r = c.end-reached.ensures in
    (finished a.state a.numbers.now _ a.out.now _ _ _ (sym c.fits.ensures ∙ c.if-not-fits.false) w.answer w.text r.answer r.run).1.1
