-- `rules::bands` meets its contract: a lookup of the rate 0 is refused for the bands alone. Assumes nothing.
use Rattle.std.proofs.Common.{sym, ap, ◌∙◌}
use Rattle.units.specs.Refusals.{told_number}
use Rattle.rules.specs.Rules.{bands_reply}
use Rattle.rules.proofs.Laws.{by_bands}
use Rattle.rules.proofs.bands.Goals as goal

pub returns-in-Ok : goal.returns-in-Ok
unfolding bands_reply
returns-in-Ok c =
    let k = ap (λ y. told_number y) (sym c.in-Ok.is ∙ c.looked_up.ensures) ∙ by_bands c.args.tail.now in
    rw (c.few.ensures, ← k)

pub returns-in-Err : goal.returns-in-Err
unfolding bands_reply
returns-in-Err c =
    let k = ap (λ y. told_number y) (sym c.in-Err.is ∙ c.looked_up.ensures) ∙ by_bands c.args.tail.now in
    rw (c.few-in-Err.ensures, c.number.ensures, ← k)
