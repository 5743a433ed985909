-- `replies::feed`: what was reached is answered. Assumes nothing.
use mathlib.Core.Path.{sym, ap, ◌∙◌}
use native.Mathlib.Omega.{arith}
use Rattle.asked.proofs.Reading.{read_taken}
use Rattle.asked.specs.declared.Reached.{Reached}
use Rattle.replies.specs.Inner.{replied_to}
use Rattle.replies.specs.declared.Replied.{Replied}
use Rattle.replies.proofs.Laws.{has_room, fed}
use Rattle.replies.proofs.feed.Goals as goal

pub replied_to-requires : goal.replied_to-requires
replied_to-requires c = has_room _ _ (sym c.fits.ensures ∙ c.if-not-fits.false)

pub returns-clause-answer : goal.returns-clause-answer
returns-clause-answer c =
    let a = c.args in
    let w = c.replied_to.ensures in
    let r = c.read-reached.ensures in
    (fed a.state a.numbers.now _ a.out.now _ _ _ (sym c.fits.ensures ∙ c.if-not-fits.false) w.answer w.text a.chunk.now r.answer r.run).0

pub returns-clause-run : goal.returns-clause-run
returns-clause-run c =
    let a = c.args in
    let w = c.replied_to.ensures in
    let r = c.read-reached.ensures in
    (fed a.state a.numbers.now _ a.out.now _ _ _ (sym c.fits.ensures ∙ c.if-not-fits.false) w.answer w.text a.chunk.now r.answer r.run).1.0

pub returns-clause-text : goal.returns-clause-text
returns-clause-text c =
    let a = c.args in
    let w = c.replied_to.ensures in
    let r = c.read-reached.ensures in
    (fed a.state a.numbers.now _ a.out.now _ _ _ (sym c.fits.ensures ∙ c.if-not-fits.false) w.answer w.text a.chunk.now r.answer r.run).1.1

pub returns-clause-within : goal.returns-clause-within
unfolding replied_to
returns-clause-within c =
    let a = c.args in
    let w = c.replied_to.ensures in
    let taken = ap (λ (x : Replied). x.taken) w.answer ∙ ap (λ (x : Reached). x.taken) c.read-reached.ensures.answer in
    (omega (arith, taken, read_taken a.state a.chunk.now a.numbers.now), w.within)
