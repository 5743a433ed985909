-- `intake::cut::keep`: by each byte. Assumes nothing.
use mathlib.Core.Path.{sym, ◌∙◌}
use Rattle.intake.proofs.Cutting.{kept_next, kept_done}
use Rattle.intake.proofs.cut.keep.Goals as goal

pub loop-b-preserved : goal.loop-b-preserved
loop-b-preserved c = rw c.push-kept.ensures (c.loop-b.invariant ∙ kept_next _ _ _ c.loop-b-test.true)

pub returns : goal.returns
returns c = sym (c.loop-b.invariant ∙ kept_done _ _ _ c.loop-b-test.false)
