-- `Month::well_formed`: its runs are the ledger's by their types, so that the test in place refuses it just with 22. Assumes nothing.
use mathlib.Core.Path.{◌≡◌, ap, ◌∙◌}
use mathlib.Core.Bool.{true}
use lib.ListN.{length}
use borrow.Author.Rules.{rules}
use borrow.Author.Tests.{eq-eqb}
use Rattle.std.specs.Result.{is_ok}
use Rattle.whole.proofs.Choice.{both}
use Rattle.units.specs.Refusals.{result_by}
use Rattle.month.proofs.Core.{ok_by}
use Rattle.history.specs.Inner.{runs_fit, ledger_refusal}
use Rattle.history.proofs.Board.{ledger_test}
use Rattle.units.specs.Limits.{month_places}
use Rattle.head.specs.Rules.{month_rules}
use Rattle.head.specs.Inner.{board_in}
use Rattle.head.specs.declared.Head.{Head}
use Rattle.month.specs.Month.{rules_of, board_of}
use Rattle.month.proofs.Month.well_formed.Goals as goal

pub returns : goal.returns
returns c =
    let m = c.args.self in
    let runs : runs_fit (rules_of m) (board_of m) ≡ true = both (eq-eqb (length m.marks) month_places (search rules)) (eq-eqb (length m.amounts) month_places (search rules)) in
    let answer = c.check_in.ensures ∙ ap (λ (x : Head). result_by (ledger_refusal (month_rules x.days) (board_in x m.marks m.amounts)) tt) c.head.ensures in
    c.is_ok.ensures.value ∙ ap is_ok answer ∙ ok_by (ledger_refusal (rules_of m) (board_of m)) ∙ ledger_test (rules_of m) (board_of m) runs
