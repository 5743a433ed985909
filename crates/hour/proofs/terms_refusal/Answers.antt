-- `hour::terms_refusal` meets its contract: straight-line code that mirrors the list of tests. Assumes nothing.
use Rattle.std.proofs.Common.{rules, SFits, w64}
use Rattle.std.proofs.Math.Facts.{to_z-of_z}
use Rattle.hour.specs.Hour.{terms_refusal}
use Rattle.hour.proofs.Laws.{bands_test}
use Rattle.hour.proofs.terms_refusal.Goals as goal

pub returns : goal.returns
unfolding terms_refusal
returns c =
    let a = c.args in
    let clearing : SFits w64 a.terms.clearing = search rules in
    let performance : SFits w64 a.terms.performance = search rules in
    simp (
      c.lengths_fit-lengths.ensures,
      c.unless-capacity.ensures,
      c.capacity_fits.ensures,
      c.unless-reference.ensures,
      c.unless-prices.ensures,
      c.prices_fit.ensures,
      c.unless-bands.ensures,
      c.is_ok-banded.ensures.value,
      c.check.ensures,
      bands_test a.thresholds.now a.factors.now,
      c.unless-targets.ensures,
      to_z-of_z clearing,
      to_z-of_z performance,
    ) at c.unless.ensures
