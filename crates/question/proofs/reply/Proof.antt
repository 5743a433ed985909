-- `question::reply` meets its contract: the word is looked up, the numbers are cut, and the first fault or the answer is told. Assumes nothing.
use borrow.Author.Rules.{rules}
use Rattle.question.specs.Questions.{first_fault, reply_text}
use Rattle.question.proofs.Telling.{no_room, with_room}
use Rattle.question.proofs.reply.Statement.{statement}
use Rattle.question.proofs.reply.Tie as tie

question_of_requires : tie.Need-question_of-row-requires
question_of_requires c κs = tt

cut_requires : tie.Need-cut-places-requires
cut_requires c κs = tt

or_else_requires : tie.Need-or_else-requires
or_else_requires c κs = tt

or_else_requires_2 : tie.Need-or_else-fault-requires
or_else_requires_2 c κs = tt

told_line_requires : tie.Need-told_line-at-requires
told_line_requires c κs = tt

returns : tie.Need-returns-then-out-lt-ROOM
returns c = no_room _ _ c.if-out-lt-ROOM.true

tell_requires : tie.Need-tell-written-requires
tell_requires c κs = c.if-out-lt-ROOM.false

same_length : tie.Need-shape_of-out
same_length c = search rules

returns_2 : tie.Need-returns
unfolding reply_text first_fault
returns_2 c =
    let w = c.tell-written.ensures in
    let l = c in
    let t = l in
    let o = t in
    let k = o in
    let q = k in
    let e = rw (t.told_line-at.ensures, o.or_else-fault.ensures, k.or_else.ensures, q.cut-places.ensures, q.question_of-row.ensures) at w in
    with_room _ _ _ _ l.if-out-lt-ROOM.false e.0 e.1.0 w.1.1

pub reply_spec : {M : Type 1} → statement M
reply_spec =
    tie.close
    (tie.spec
    question_of_requires
    cut_requires
    or_else_requires
    or_else_requires_2
    told_line_requires
    returns
    tell_requires
    same_length
    returns_2)
