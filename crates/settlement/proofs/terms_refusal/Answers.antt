-- The bands' call refuses just what does not fit.
use Rattle.settlement.specs.Settlement.{terms_refusal}
use Rattle.settlement.proofs.Laws.{bands_test}
use Rattle.settlement.proofs.terms_refusal.Goals as goal

pub returns : goal.returns
unfolding terms_refusal
returns c = simp (c.is_ok-banded.ensures.value, c.check.ensures, bands_test c.args.thresholds.now c.args.factors.now) at c.award_refusal.ensures
