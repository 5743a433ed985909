-- `question::put_hour` meets its contract: the fields come back out of their box. Assumes nothing.
use Rattle.hours.proofs.HourLaws.{hour_few}
use Rattle.question.specs.Questions.{hour_prints}
use Rattle.question.proofs.Boxes.{Held, held}
use borrow.Author.Rules.{rules}
use Rattle.question.proofs.put_hour.Statement.{statement}
use Rattle.question.proofs.put_hour.Tie as tie

head_of_requires : tie.Need-head_of-requires
head_of_requires c κs = search rules

part_requires : tie.Need-part-requires
part_requires c κs = search rules

part_requires_2 : tie.Need-part-requires-2
part_requires_2 c κs = search rules

rest_requires : tie.Need-rest-requires
rest_requires c κs = search rules

answer_requires : tie.Need-answer-few-requires
answer_requires c κs = search rules

-- what the box holds
here : (c : tie.After-answer-few) → let a = c.args in Held c.answer-few.result (hour_prints a.hour a.numbers.now a.places)
here c =
    let r = c in
    let e = r in
    let p = e in
    held _ _ (hour_few _ _) (rw (p.head_of.ensures, p.part.ensures, e.part-2.ensures, r.rest.ensures) at c.answer-few.ensures)

put_few_requires : tie.Need-put_few-requires
put_few_requires c κs = ((here c.before).most, search rules)

same_length : tie.Need-shape_of-out
same_length c = search rules

returns : tie.Need-returns
returns c = rw (here c.before.before.before.before).back at c.put_few.ensures

pub put_hour_spec : {M : Type 1} → statement M
put_hour_spec =
    tie.close
    (tie.spec
    head_of_requires
    part_requires
    part_requires_2
    rest_requires
    answer_requires
    put_few_requires
    same_length
    returns)
