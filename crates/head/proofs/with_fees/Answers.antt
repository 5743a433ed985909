-- `head::with_fees`: what refuses every change refuses a fee. Assumes nothing.
use mathlib.Core.Path.{◌≡◌, sym, ◌∙◌}
use borrow.Author.Rules.{rules}
use Rattle.std.specs.Prelude.{Err}
use Rattle.head.proofs.Heads.{fee_refused}
use Rattle.head.proofs.with_fees.Goals as goal

pub returns-in_err-may_change : goal.returns-in_err-may_change
returns-in_err-may_change c =
    let told : c.from_residual.result ≡ Err c.in_err-may_change.field-0.0 = search rules in
    told ∙ sym (fee_refused c.args.head c.args.set.0 c.args.basic c.args.excess _ c.in_err-may_change.ensures)
