-- `Month::withdraw`: 22, and then the call in place. Assumes nothing.
use mathlib.Core.Path.{◌≡◌, refl, sym, ◌∙◌}
use borrow.Author.Rules.{rules}
use Rattle.std.specs.Prelude.{Err}
use Rattle.history.specs.Rules.{Call, Deed}
use Rattle.history.proofs.Board.{withdraw_at}
use Rattle.head.proofs.HourPlaces.{place_for}
use Rattle.month.specs.Month.{rules_of, board_of}
use Rattle.month.proofs.Core.{formed, answer_22, away_at, answer_at}
use Rattle.month.proofs.Month.withdraw.Goals as goal

pub returns-then-not-well_formed : goal.returns-then-not-well_formed
returns-then-not-well_formed c = answer_22 _ _ (sym c.if-not-well_formed.true ∙ c.well_formed-2.ensures) refl

pub returns-in_err-withdraw_in : goal.returns-in_err-withdraw_in
returns-in_err-withdraw_in c =
    let a = c.args in
    let told : c.from_residual.result ≡ Err c.in_err-withdraw_in.field-0.0 = search rules in
    told
    ∙ away_at a.self (Call.withdraw a.day a.hour) (Deed.withdraws) a.day a.hour
    (withdraw_at (rules_of a.self) (board_of a.self) a.day a.hour _ (place_for a.self.days a.day a.hour)) _ _
    (formed a.self (sym c.if-not-well_formed.false ∙ c.well_formed-2.ensures) refl (search rules) (search rules))
    c.head.ensures c.place_of-freed.ensures _ c.in_err-withdraw_in.ensures.answers

pub returns : goal.returns
returns c =
    let a = c.args in
    answer_at a.self (Call.withdraw a.day a.hour) (Deed.withdraws) a.day a.hour
    (withdraw_at (rules_of a.self) (board_of a.self) a.day a.hour _ (place_for a.self.days a.day a.hour)) _ _
    (formed a.self (sym c.if-not-well_formed.false ∙ c.well_formed-2.ensures) refl (search rules) (search rules))
    c.head.ensures c.place_of-freed.ensures _ _ c.in_ok-withdraw_in.ensures.answers c.in_ok-withdraw_in.ensures.leaves
