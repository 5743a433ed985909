-- `rules::score` meets its contract: the library's answer, field by field. Assumes nothing.
use lib.IntN.{pos}
use lib.ListN.{get_or}
use mir.Syntax.{w64}
use mir.Val.{SFits}
use mir.Facts.{to_z-of_z}
use Rattle.rules.specs.Rules.{score_reply}
use borrow.Author.Rules.{rules}
use Rattle.rules.proofs.score.Statement.{statement}
use Rattle.rules.proofs.score.Tie as tie

array_copy_out_few : tie.Need-bounds-head-0
array_copy_out_few c = search rules

array_copy_out_t10 : tie.Need-bounds-head-1
array_copy_out_t10 c = search rules

array_copy_out_t14 : tie.Need-bounds-head-2
array_copy_out_t14 c = search rules

array_copy_out_t18 : tie.Need-bounds-head-3
array_copy_out_t18 c = search rules

array_copy_out_t22 : tie.Need-bounds-head-4
array_copy_out_t22 c = search rules

second_score_requires : tie.Need-second_score-scored-requires
second_score_requires c κs = search rules

cast_few : tie.Need-overflow_cast-scored
cast_few c = search rules

few_requires : tie.Need-few-requires
few_requires c κs = search rules

returns : tie.Need-returns
unfolding score_reply
returns c =
    let r = c.second_score-scored in
    let score = cast_few c.before in
    let head = c.args.head in
    let n0 : SFits w64 (get_or head 0 (pos 0)) = search rules in
    let n1 : SFits w64 (get_or head 1 (pos 0)) = search rules in
    let n2 : SFits w64 (get_or head 2 (pos 0)) = search rules in
    let n3 : SFits w64 (get_or head 3 (pos 0)) = search rules in
    let n4 : SFits w64 (get_or head 4 (pos 0)) = search rules in
    rw (c.few.ensures, to_z-of_z score, r.ensures, to_z-of_z n0, to_z-of_z n1, to_z-of_z n2, to_z-of_z n3, to_z-of_z n4)

pub score_spec : {M : Type 1} → statement M
score_spec =
    tie.close
    (tie.spec
    array_copy_out_few
    array_copy_out_t10
    array_copy_out_t14
    array_copy_out_t18
    array_copy_out_t22
    second_score_requires
    cast_few
    few_requires
    returns)
