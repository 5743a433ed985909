-- A planned transfer is within its limits: by its test.
use Rattle.std.proofs.Common.{sym, ◌∙◌}
use Rattle.whole.proofs.Sums.{in_within}
use Rattle.bench.proofs.readings.transfer_of.Goals as goal

pub returns-then-within : goal.returns-then-within
returns-then-within c = in_within (sym c.within.ensures ∙ c.if-within.true)
