-- `question::put_series` meets its contract: the fields of the answer are read back from the run. Assumes nothing.
use lib.Seq.{length-take-le}
use Rattle.std.proofs.Common.{sym}
use Rattle.series.proofs.Laws.{ran_fits, ran_fields, ran_reply}
use Rattle.question.specs.Parts.{head_of, given_in}
use Rattle.question.specs.Questions.{series_prints}
use Rattle.question.proofs.LineLaws.{series_short}
use Rattle.question.proofs.put_series.Goals as goal

pub slice_bounds-fields-end : goal.slice_bounds-fields-end
slice_bounds-fields-end c =
    let a = c.args in
    let g = rw (c.head_of.ensures, c.part.ensures, c.part-2.ensures, c.rest.ensures) at c.answer-ran.ensures in
    ran_fits (series_prints a.asks a.numbers.now a.places) _ _ _ g.answers g.leaves

pub slice_bounds-put_line-end : goal.slice_bounds-put_line-end
slice_bounds-put_line-end c =
    let a = c.args in
    let g = rw (c.head_of.ensures, c.part.ensures, c.part-2.ensures, c.rest.ensures) at c.answer-ran.ensures in
    sym (length-take-le _ _ (ran_fits (series_prints a.asks a.numbers.now a.places) _ _ _ g.answers g.leaves))

pub put_line-requires-clause-fields_len_bound : goal.put_line-requires-clause-fields_len_bound
put_line-requires-clause-fields_len_bound c =
    let a = c.args in
    let h = head_of a.numbers.now in
    let g = rw (c.head_of.ensures, c.part.ensures, c.part-2.ensures, c.rest.ensures) at c.answer-ran.ensures in
    rw (ran_fields (series_prints a.asks a.numbers.now a.places) _ _ _ g.answers g.leaves) (series_short a.asks h (given_in h a.numbers.now a.places))

pub returns-clause-place : goal.returns-clause-place
returns-clause-place c =
    let a = c.args in
    let g = rw (c.head_of.ensures, c.part.ensures, c.part-2.ensures, c.rest.ensures) at c.answer-ran.ensures in
    rw (ran_reply (series_prints a.asks a.numbers.now a.places) _ _ _ g.answers g.leaves) at c.put_line.ensures.place

pub returns-clause-text : goal.returns-clause-text
returns-clause-text c =
    let a = c.args in
    let g = rw (c.head_of.ensures, c.part.ensures, c.part-2.ensures, c.rest.ensures) at c.answer-ran.ensures in
    rw (ran_reply (series_prints a.asks a.numbers.now a.places) _ _ _ g.answers g.leaves) at c.put_line.ensures.text
