-- `question::parts::head_of` meets its contract: a turn fills one place more. Assumes nothing.
use mir.Syntax.{w64}
use Rattle.std.proofs.Common.{◌≡◌, ap, ◌∙◌, pos, replicate, arith}
use Rattle.whole.specs.Runs.{listed}
use Rattle.whole.proofs.Runs.{filled_next, filled_all}
use Rattle.whole.proofs.Signed.{back}
use Rattle.numbers.specs.Numbers.{number}
use Rattle.question.specs.Parts.{head_of}
use Rattle.question.proofs.parts.head_of.Goals as goal

pub loop-i-preserved : goal.loop-i-preserved
loop-i-preserved c =
    let n = c.args.numbers.now in
    rw (back w64 c.at.type_inv c.at.ensures, c.loop-i.invariant) (filled_next (number n) (replicate 12 (pos 0)) c.loop-i.i (omega arith))

pub returns : goal.returns
unfolding head_of
returns c =
    let n = c.args.numbers.now in
    let e : c.loop-i.i ≡ 12 = omega arith in
    c.loop-i.invariant ∙ filled_all (number n) 0 (replicate 12 (pos 0)) c.loop-i.i e ∙ ap (listed (number n) 0) e
