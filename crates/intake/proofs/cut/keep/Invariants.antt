-- `intake::cut::keep`: the bytes that are left, kept here, give the whole. Assumes nothing.
use mathlib.Core.Path.{◌≡◌}
use lib.ListN.{drop}
use Rattle.intake.specs.Inner.{kept_in}
use Rattle.intake.proofs.cut.keep.Given as goal

abbrev pub invariant-loop-b : goal.invariant-loop-b
invariant-loop-b l = kept_in l.fn.line l.more ≡ kept_in l.kept (drop l.b-index l.more)
