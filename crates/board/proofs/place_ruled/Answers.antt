-- `board::place_ruled`: each test that fails is the definition's first, and a place of the month is one of the run's. Assumes nothing.
use mathlib.Core.Path.{sym, ◌∙◌}
use mathlib.Core.List.{[]}
use native.Mathlib.Omega.{arith}
use lib.Dec.{eqb}
use lib.ListN.{length}
use borrow.Author.Tests.{eqb-true}
use Rattle.whole.proofs.Choice.{and_both}
use Rattle.units.specs.Limits.{hours_of_day, month_places}
use Rattle.history.proofs.Days.{hours_even}
use Rattle.history.proofs.Board.{fit_opens}
use Rattle.head.specs.Rules.{month_rules}
use Rattle.head.specs.Inner.{board_in}
use Rattle.head.proofs.Sound.{most_days_lem}
use Rattle.board.proofs.place_ruled.Goals as goal

pub bounds-marks-place : goal.bounds-marks-place
bounds-marks-place c =
    let a = c.args in
    let days = a.head.days in
    let seen = sym c.fits.ensures ∙ c.if-not-fits.false in
    let runs = sym c.runs_fit.ensures ∙ c.if-not-runs_fit.false in
    let opens = fit_opens (month_rules days) (board_in a.head [] []) seen in
    let long = eqb-true (length a.marks.now) month_places (and_both (eqb (length a.marks.now) month_places) _ runs).0 in
    omega (arith, c.if-places-place.false, c.places.ensures, hours_even hours_of_day days, most_days_lem days opens, long)
