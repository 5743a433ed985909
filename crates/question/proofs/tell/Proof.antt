-- `question::tell` meets its contract, by its one test. Assumes nothing.
use native.Mathlib.Omega.{arith}
use borrow.Author.Rules.{rules}
use borrow.Author.Tests.{eq-eqb, ne_eqb}
use Rattle.text.proofs.Pieces.{begin}
use Rattle.fault_lines.proofs.Laws.{fault_long}
use Rattle.question.specs.Questions.{question_text}
use Rattle.question.proofs.tell.Statement.{statement}
use Rattle.question.proofs.tell.Tie as tie

put_answer_requires : tie.Need-put_answer-requires
put_answer_requires c κs = search rules

same_length : tie.Need-shape_of-out-then-fault-eq0
same_length c = search rules

returns : tie.Need-returns-then-fault-eq0
unfolding question_text
returns c = rw (eq-eqb _ _ c.if-fault-eq0.true) c.put_answer.ensures

put_fault_requires : tie.Need-put_fault-requires
put_fault_requires c κs = search rules

same_length_2 : tie.Need-shape_of-out
same_length_2 c = search rules

returns_2 : tie.Need-returns
unfolding question_text
returns_2 c =
    let p = c.put_fault in
    let l = c in
    let s = l in
    let long = fault_long s.args.fault s.args.line (omega (arith, s.ranges.line)) in
    let one = begin s.args.out.now _ _ _ (omega (arith, long, s.requires)) p.ensures.0 p.ensures.1 in
    rw (ne_eqb _ _ l.if-fault-eq0.false) (one.0, (one.1, omega (arith, one.0, long)))

pub tell_spec : {M : Type 1} → statement M
tell_spec =
    tie.close
    (tie.spec put_answer_requires same_length returns put_fault_requires same_length_2 returns_2)
