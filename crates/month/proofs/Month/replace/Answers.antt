-- `Month::replace`: 22, and then the call in place. Assumes nothing.
use mathlib.Core.Path.{◌≡◌, refl, sym, ◌∙◌}
use borrow.Author.Rules.{rules}
use Rattle.std.specs.Prelude.{Err}
use Rattle.history.specs.Rules.{Call, Deed}
use Rattle.history.proofs.Board.{replace_at}
use Rattle.head.specs.Rules.{amount_item}
use Rattle.head.proofs.HourPlaces.{place_for}
use Rattle.month.specs.Month.{rules_of, board_of}
use Rattle.month.proofs.Core.{formed, answer_22, away_at, answer_at}
use Rattle.month.proofs.Month.replace.Goals as goal

pub returns-then-not-well_formed : goal.returns-then-not-well_formed
returns-then-not-well_formed c = answer_22 _ _ (sym c.if-not-well_formed.true ∙ c.well_formed-2.ensures) refl

pub returns-in_err-replace_in : goal.returns-in_err-replace_in
returns-in_err-replace_in c =
    let a = c.args in
    let told : c.from_residual.result ≡ Err c.in_err-replace_in.field-0.0 = search rules in
    told
    ∙ away_at a.self (Call.replace a.day a.hour (amount_item a.amount.0)) (Deed.replaces (amount_item a.amount.0)) a.day a.hour
    (replace_at (rules_of a.self) (board_of a.self) a.day a.hour _ (place_for a.self.days a.day a.hour) (amount_item a.amount.0)) _ _
    (formed a.self (sym c.if-not-well_formed.false ∙ c.well_formed-2.ensures) refl (search rules) (search rules))
    c.head.ensures c.place_of-held.ensures _ c.in_err-replace_in.ensures.answers

pub returns : goal.returns
returns c =
    let a = c.args in
    answer_at a.self (Call.replace a.day a.hour (amount_item a.amount.0)) (Deed.replaces (amount_item a.amount.0)) a.day a.hour
    (replace_at (rules_of a.self) (board_of a.self) a.day a.hour _ (place_for a.self.days a.day a.hour) (amount_item a.amount.0)) _ _
    (formed a.self (sym c.if-not-well_formed.false ∙ c.well_formed-2.ensures) refl (search rules) (search rules))
    c.head.ensures c.place_of-held.ensures _ _ c.in_ok-replace_in.ensures.answers c.in_ok-replace_in.ensures.leaves
