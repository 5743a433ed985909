-- `bands::first_place` meets its contract: the library looks for the first threshold that is at most the rate. Assumes nothing.
use Rattle.std.proofs.Common.{◌≡◌, ◌∙◌, length, unwrap_or, position, rules, tests, ap}
use Rattle.std.specs.Int.Signed.{le_z}
use Rattle.std.proofs.lemmas.Iterator.{YieldsList-from_slice}
use Rattle.std.proofs.lemmas.Iterator.Search.{position_from_yields_List}
use Rattle.bands.proofs.Steps.{place_is}
use Rattle.bands.proofs.first_place.Goals as goal

pub returns : goal.returns
returns c =
    let ts = c.args.thresholds.now in
    let found : c.position.result ≡ position (λ t. le_z t c.args.rate) ts =
    position_from_yields_List (λ t. le_z t c.args.rate) _ _ c.position.result c.position.ensures.ran (YieldsList-from_slice ts cc) (λ x b q k. search (rules, tests)) in
    c.unwrap_or.ensures ∙ ap (λ o. unwrap_or o (length ts)) found ∙ place_is ts c.args.rate
