-- `hour::at_refusal` meets its contract: the terms' refusals, of runs as long as they are to be, and then the rate's. Assumes nothing.
use mathlib.Core.Path.{refl, ◌∙◌}
use borrow.Author.Rules.{rules}
use Rattle.hour.proofs.Laws.{at_last}
use Rattle.hour.proofs.at_refusal.Statement.{statement}
use Rattle.hour.proofs.at_refusal.Tie as tie

terms_refusal_requires : tie.Need-terms_refusal-k-requires
terms_refusal_requires c κs = search rules

unless_requires : tie.Need-unless-rated-requires
unless_requires c κs = search rules

or_else_requires : tie.Need-or_else-requires
or_else_requires c κs = search rules

returns : tie.Need-returns
returns c =
    let rated = c in
    let terms = rated in
    let a = terms.args in
    rw (terms.terms_refusal-k.ensures, rated.unless-rated.ensures) at c.or_else.ensures ∙ at_last a.terms a.thresholds.now a.factors.now a.rate _ refl

pub at_refusal_spec : {M : Type 1} → statement M
at_refusal_spec =
    tie.close (tie.spec terms_refusal_requires unless_requires or_else_requires returns)
