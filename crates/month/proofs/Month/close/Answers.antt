-- `Month::close`: 22, and then the call on the head. Assumes nothing.
use mathlib.Core.Path.{◌∙◌}
use borrow.Author.Rules.{rules}
use Rattle.history.specs.Rules.{Call}
use Rattle.head.proofs.Heads.{heads_close}
use Rattle.month.specs.Inner.{month_head}
use Rattle.month.proofs.Core.{answer_head}
use Rattle.month.proofs.Month.close.Goals as goal

pub returns : goal.returns
returns c =
    let a = c.args in
    let m = a.self in
    c.with_head.ensures
    ∙ answer_head m Call.close (search rules) (search rules) (λ runs. heads_close (month_head m) m.marks m.amounts runs) _ _ c.close.ensures c.head.ensures
