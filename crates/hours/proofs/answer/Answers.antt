-- `hours::answer` meets its contract: the fields of what `settle_asked` answers. Assumes nothing.
use Rattle.std.proofs.Common.{sym, ap, ◌∙◌, subst}
use Rattle.sreg_hour.specs.declared.Settled.{Settled}
use Rattle.words.specs.Inner.{boxed}
use Rattle.hours.specs.Hours.{hour_numbers, hour_shown, hour_reply}
use Rattle.hours.specs.Inner.{in_twelve}
use Rattle.hours.proofs.HourLaws.{AnswersNone, answers_none, twelve_is}
use Rattle.hours.proofs.answer.Goals as goal

pub returns : goal.returns
unfolding hour_reply
returns c =
    let r = c.settle_asked-asked in
    let a = c.args in
    let n = hour_numbers a.terms a.bands.now a.counted a.earlier.now a.readings.now in
    let none = subst (λ (x : Settled). AnswersNone a.hour x.state) (sym r.ensures.answers) (answers_none a.hour n) in
    c.shown.ensures ∙ ap (in_twelve a.hour r.result.hour) c.state_fields.ensures ∙ twelve_is a.hour r.result none ∙ ap (λ (x : Settled). boxed (hour_shown a.hour x)) r.ensures.answers
