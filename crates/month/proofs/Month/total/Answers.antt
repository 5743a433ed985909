-- `Month::total`: its runs are the ledger's by their types, so that the total in place refuses it just with 22. Assumes nothing.
use mathlib.Core.Path.{◌≡◌, ap, ◌∙◌}
use mathlib.Core.Bool.{true}
use lib.ListN.{length}
use borrow.Author.Rules.{rules}
use borrow.Author.Tests.{eq-eqb}
use Rattle.whole.proofs.Choice.{both}
use Rattle.units.specs.Limits.{month_places}
use Rattle.history.specs.Inner.{runs_fit, total_in}
use Rattle.head.specs.Rules.{month_rules}
use Rattle.head.specs.Inner.{board_in}
use Rattle.head.specs.declared.Head.{Head}
use Rattle.board.specs.Board.{told_of}
use Rattle.month.specs.Month.{rules_of, board_of}
use Rattle.month.proofs.Readouts.{total_is_lem}
use Rattle.month.proofs.Month.total.Goals as goal

pub returns : goal.returns
returns c =
    let m = c.args.self in
    let runs : runs_fit (rules_of m) (board_of m) ≡ true = both (eq-eqb (length m.marks) month_places (search rules)) (eq-eqb (length m.amounts) month_places (search rules)) in
    c.total_in.ensures
    ∙ ap (λ (x : Head). told_of (total_in (month_rules x.days) (board_in x m.marks m.amounts))) c.head.ensures
    ∙ total_is_lem m runs
