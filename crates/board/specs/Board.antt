-- The month ledger in place (document 01, "The ledger"): a head by value and two lent runs, its marks and its amounts. What the calls answer and leave, and
-- what the read-outs tell, as an instance of the theory of any ledger.
use Rattle.std.specs.Prelude.{ℕ, Bool, List, Result, ℤ}
use Rattle.whole.specs.Choice.{pick}
use Rattle.units.specs.Refusals.{wrong_length, refused_as, result_by}
use Rattle.units.specs.Units.{dollars}
use Rattle.units.specs.declared.Dollars.{Dollars}
use Rattle.units.specs.declared.refusal.Refusal.{Refusal}
use Rattle.history.specs.Rules.{Deed}
use Rattle.history.specs.Board.{Board}
use Rattle.history.specs.Inner.{runs_fit, ruled_at, handed_at}
use Rattle.head.specs.Rules.{Fee, Item, month_rules}
use Rattle.head.specs.Inner.{board_in, fresh_head, opened_head}
use Rattle.head.specs.declared.Head.{Head}

-- a call at a place: 1, 22, 9, 6, 3, then 7 or 8; and the board that it leaves
abbrev pub place_ruled : Head → List Bool → List ℤ → ℕ → Deed Item → ℕ
place_ruled head marks amounts place deed = ruled_at (month_rules head.days) (board_in head marks amounts) place deed

abbrev pub place_handed : Head → List Bool → List ℤ → ℕ → Deed Item → Board Fee Bool ℤ
place_handed head marks amounts place deed = handed_at (month_rules head.days) (board_in head marks amounts) place deed

-- a month opened in place: 1, then what the head answers
unfoldable pub opened_in : ℕ → List Bool → List ℤ → Result Head Refusal
opened_in days marks amounts =
    pick (runs_fit (month_rules days) (board_in (fresh_head days) marks amounts)) (opened_head days) (refused_as wrong_length)

-- what a read-out tells
abbrev pub told_of : ℕ × ℤ → Result Dollars Refusal
told_of t = result_by t.0 (dollars t.1)
