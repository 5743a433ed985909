-- The terms' refusals, and then the rate's.
use Rattle.std.proofs.Common.{◌∙◌}
use Rattle.settlement.proofs.Laws.{at_last}
use Rattle.settlement.proofs.at_refusal.Goals as goal

pub returns : goal.returns
returns c =
    let a = c.args in
    simp (c.award_refusal-k.ensures, c.energy_fits.ensures, c.unless-rated.ensures) at c.or_else.ensures ∙ at_last a.terms a.banded a.energy a.rate
