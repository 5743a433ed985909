-- `Month::set_excess_fee`: 22, and then the call on the head. Assumes nothing.
use mathlib.Core.Path.{◌∙◌}
use borrow.Author.Rules.{rules}
use Rattle.history.specs.Rules.{Call}
use Rattle.head.specs.Rules.{excess}
use Rattle.head.proofs.Heads.{heads_fee}
use Rattle.month.specs.Inner.{month_head}
use Rattle.month.proofs.Core.{answer_head}
use Rattle.month.proofs.Month.set_excess_fee.Goals as goal

pub returns : goal.returns
returns c =
    let a = c.args in
    let m = a.self in
    c.with_head.ensures
    ∙ answer_head m (Call.loss_fee excess a.amount.0) (search rules) (search rules) (λ runs. heads_fee (month_head m) m.marks m.amounts runs excess a.amount.0) _ _ c.set_excess_fee.ensures c.head.ensures
