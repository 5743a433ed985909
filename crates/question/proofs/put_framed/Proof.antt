-- `question::put_framed` meets its contract: its parts are cut out, and the frames of their answer are put. Assumes nothing.
use native.Mathlib.Omega.{arith}
use borrow.Author.Rules.{rules}
use Rattle.text.proofs.Pieces.{begin}
use Rattle.frame_lines.proofs.Laws.{frames_long}
use Rattle.question.specs.Questions.{frame_prints}
use Rattle.question.proofs.put_framed.Statement.{statement}
use Rattle.question.proofs.put_framed.Tie as tie

head_of_requires : tie.Need-head_of-requires
head_of_requires c κs = search rules

rest_requires : tie.Need-rest-requires
rest_requires c κs = search rules

head_of_requires_2 : tie.Need-head_of-requires-2
head_of_requires_2 c κs = search rules

part_requires : tie.Need-part-requires
part_requires c κs = search rules

part_requires_2 : tie.Need-part-requires-2
part_requires_2 c κs = search rules

rest_requires_2 : tie.Need-rest-requires-2
rest_requires_2 c κs = search rules

answer_requires : tie.Need-answer-framed-requires
answer_requires c κs = search rules

put_frames_requires : tie.Need-put_frames-requires
put_frames_requires c κs = search rules

same_length : tie.Need-shape_of-out
same_length c = search rules

returns : tie.Need-returns
returns c =
    let x = c in
    let q2 = x in
    let p2 = q2 in
    let q = p2 in
    let h2 = q in
    let r = h2 in
    let e = rw (r.head_of.ensures, h2.head_of-2.ensures, r.rest.ensures, q.part.ensures, p2.part-2.ensures, q2.rest-2.ensures) at x.answer-framed.ensures in
    let s = r in
    let p = rw e at c.put_frames.ensures in
    let long = frames_long (frame_prints s.args.asks s.args.numbers.now s.args.places) in
    let one = begin s.args.out.now _ _ _ (omega (arith, long, s.requires)) p.0 p.1 in
    (one.0, (one.1, omega (arith, one.0, long)))

pub put_framed_spec : {M : Type 1} → statement M
put_framed_spec =
    tie.close
    (tie.spec
    head_of_requires
    rest_requires
    head_of_requires_2
    part_requires
    part_requires_2
    rest_requires_2
    answer_requires
    put_frames_requires
    same_length
    returns)
