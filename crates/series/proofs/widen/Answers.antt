-- `series::widen` meets its contract: a turn fills one place more. Assumes nothing.
use mir.Syntax.{w64}
use Rattle.std.proofs.Common.{◌≡◌, length, ap, ◌∙◌, arith}
use Rattle.whole.specs.Runs.{listed}
use Rattle.whole.proofs.Runs.{filled_next, filled_all}
use Rattle.whole.proofs.Signed.{back}
use Rattle.series.proofs.Laws.{wide_all}
use Rattle.series.proofs.widen.Invariants.{numbers}
use Rattle.series.proofs.widen.Goals as goal

pub loop-i-preserved : goal.loop-i-preserved
loop-i-preserved c =
    let b = c.args.bytes.now in
    rw (back w64 c.from.type_inv c.from.ensures, c.loop-i.invariant) (filled_next (numbers b) c.args.run.now c.loop-i.i (omega (arith, c.requires)))

pub returns : goal.returns
returns c =
    let b = c.args.bytes.now in
    let n : c.loop-i.i ≡ length b = omega arith in
    let m : c.loop-i.i ≡ length c.args.run.now = omega (arith, c.requires) in
    c.loop-i.invariant ∙ filled_all (numbers b) 0 c.args.run.now c.loop-i.i m ∙ ap (listed (numbers b) 0) n ∙ wide_all b
