-- `score::seconds_fit` meets its contract: a second more is one test more. Assumes nothing.
use Rattle.std.proofs.Common.{true, ◌&&◌, length, get_or, pos, sym, ◌∙◌, arith, SFits, w64, rules}
use Rattle.std.proofs.Math.Facts.{to_z-of_z}
use Rattle.whole.proofs.Choice.{both}
use Rattle.whole.proofs.Folds.{fold_none, fold_step, all_fails}
use Rattle.score.specs.Inner.{fit_at}
use Rattle.score.proofs.seconds_fit.Goals as goal

pub loop-i-init : goal.loop-i-init
loop-i-init c = fold_none true ◌&&◌ _

pub returns-then-not-second_fits : goal.returns-then-not-second_fits
returns-then-not-second_fits c =
    let a = c.args in
    let i = c.loop-i.i in
    let power : SFits w64 (get_or a.powers.now i (pos 0)) = search rules in
    let frequency : SFits w64 (get_or a.frequencies.now i (pos 0)) = search rules in
    let transfer : SFits w64 (get_or a.transfers.now i (pos 0)) = search rules in
    let found = rw (to_z-of_z power, to_z-of_z frequency, to_z-of_z transfer) at c.second_fits.ensures in
    sym (all_fails (length a.powers.now) (fit_at a.powers.now a.frequencies.now a.transfers.now) i (omega arith) (sym found ∙ c.if-not-second_fits.true))

pub loop-i-preserved : goal.loop-i-preserved
loop-i-preserved c =
    let a = c.args in
    let i = c.loop-i.i in
    let power : SFits w64 (get_or a.powers.now i (pos 0)) = search rules in
    let frequency : SFits w64 (get_or a.frequencies.now i (pos 0)) = search rules in
    let transfer : SFits w64 (get_or a.transfers.now i (pos 0)) = search rules in
    let found = rw (to_z-of_z power, to_z-of_z frequency, to_z-of_z transfer) at c.second_fits.ensures in
    fold_step true ◌&&◌ _ _ ∙ both c.loop-i.invariant (sym found ∙ c.if-not-second_fits.false)
