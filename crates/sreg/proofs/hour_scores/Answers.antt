-- A refusal before the readings are looked at leaves the run as it was.
use Rattle.std.proofs.Common.{sym, ◌∙◌}
use Rattle.sreg.proofs.Laws.{first_refused}
use Rattle.sreg.proofs.hour_scores.Goals as goal

pub returns-then-k-ne0-clause-leaves : goal.returns-then-k-ne0-clause-leaves
returns-then-k-ne0-clause-leaves c =
    let a = c.args in
    sym (first_refused a.powers.now a.frequencies.now a.capacity a.state a.scores.now (λ z. c.if-k-ne0.true (c.before_readings-k.ensures ∙ z))).1
