-- `Month::open`: the head's answer, with every place empty. Assumes nothing.
use mathlib.Core.Path.{◌≡◌, ap, ◌∙◌}
use mathlib.Core.Bool.{false}
use lib.IntN.{pos}
use lib.ListN.{replicate}
use borrow.Author.Rules.{rules}
use Rattle.std.specs.Prelude.{Result, Ok, Err}
use Rattle.units.specs.Limits.{month_places}
use Rattle.units.specs.declared.refusal.Refusal.{Refusal}
use Rattle.head.specs.declared.Head.{Head}
use Rattle.month.specs.Inner.{booked_of}
use Rattle.month.proofs.Core.{open_is}
use Rattle.month.proofs.Month.«open».Goals as goal

pub returns-in_err-head : goal.returns-in_err-head
returns-in_err-head c =
    let told : c.from_residual.result ≡ Err c.in_err-head.field-0.0 = search rules in
    told ∙ ap (λ (h : Result Head Refusal). booked_of h (replicate month_places false) (replicate month_places (pos 0))) c.in_err-head.ensures ∙ open_is c.args.days

pub returns : goal.returns
returns c =
    ap Ok c.month_in.ensures
    ∙ ap (λ (h : Result Head Refusal). booked_of h (replicate month_places false) (replicate month_places (pos 0))) c.in_ok-head.ensures
    ∙ open_is c.args.days
