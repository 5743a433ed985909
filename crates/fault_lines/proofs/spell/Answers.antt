-- `fault_lines::spell` meets its contract: each piece is put after the one before.
use Rattle.std.proofs.Common.{arith}
use Rattle.text.proofs.Pieces.{Begun}
use Rattle.fault_lines.specs.Text.{fault_text}
use Rattle.fault_lines.proofs.Laws.{fault_long, told}
use Rattle.fault_lines.proofs.spell.Goals as goal
use Rattle.fault_lines.proofs.spell.Goals.{After-put}

whole_line : (c : After-put) → Begun c.args.out.now (fault_text c.args.fault c.args.line) c.put.new.out c.put.result
whole_line c =
    let a = c.args in
    let line = c.put-a.ensures in
    let number = c.put_decimal-b.ensures in
    let words = rw c.words_of.ensures at c.put.ensures.text in
    let place = rw c.words_of.ensures at c.put.ensures.place in
    told a.fault a.line a.out.now _ _ _ _ _ _ c.ranges.line.fits c.requires line.place line.text number.place number.text place words

pub returns-clause-place : goal.returns-clause-place
returns-clause-place c = (whole_line (goal.at.returns-clause-place c).After-put).0

pub returns-clause-text : goal.returns-clause-text
returns-clause-text c = (whole_line (goal.at.returns-clause-text c).After-put).1

pub returns-clause-short : goal.returns-clause-short
returns-clause-short c =
    omega (arith, (whole_line (goal.at.returns-clause-short c).After-put).0, fault_long c.args.fault c.args.line c.ranges.line.fits)
