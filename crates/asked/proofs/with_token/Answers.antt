-- `asked::with_token`: a question with room for one number more has fewer than the most. Assumes nothing.
use native.Mathlib.Omega.{arith}
use mathlib.Core.Path.{sym, ap, ◌∙◌}
use Rattle.asked.specs.declared.Asked.{Asked}
use Rattle.asked.proofs.Sizes.{kept_room_lem, count_asking}
use Rattle.asked.proofs.with_token.Goals as goal

pub overflow_add-result : goal.overflow_add-result
overflow_add-result c =
    let a = c.args in
    let fault = rw c.number-number.ensures at c.fault_in-fault.ensures in
    record { fits = omega (arith, kept_room_lem a.asked.count a.token (sym fault ∙ c.if-fault-eq0.true), ap (λ (q : Asked). q.count) c.asking-question.ensures ∙ count_asking a.asked a.line) }
