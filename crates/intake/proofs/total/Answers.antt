-- `intake::total`: the total in place of a ledger in form. Assumes nothing.
use mathlib.Core.Path.{ap, ◌∙◌}
use Rattle.units.specs.Units.{dollars}
use lib.IntN.{pos}
use Rattle.std.specs.Prelude.{Result}
use Rattle.std.specs.Result.{result_unwrap_or}
use Rattle.units.specs.declared.Dollars.{Dollars}
use Rattle.units.specs.declared.refusal.Refusal.{Refusal}
use Rattle.book.specs.Inner.{book_of}
use Rattle.intake.specs.Answers.{book_total}
use Rattle.intake.proofs.Kept.{total_told_is}
use Rattle.intake.proofs.total.Goals as goal

pub returns-then-cover : goal.returns-then-cover
returns-then-cover c =
    let a = c.args in
    c.unwrap_or.ensures ∙ ap (λ (x : Result Dollars Refusal). result_unwrap_or x (dollars (pos 0))) (c.total_in.ensures ∙ total_told_is (book_of a.cover a.marks.now a.amounts.now) c.requires c.if-cover.true)

pub returns : goal.returns
unfolding book_total
returns c = rw c.if-cover.false
