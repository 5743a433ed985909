-- `rules::quality` meets its contract: the library's answer, as any fee's is printed. Assumes nothing.
use lib.IntN.{pos}
use lib.ListN.{get_or}
use mir.Syntax.{w64}
use mir.Val.{SFits}
use mir.Facts.{to_z-of_z}
use Rattle.rules.specs.Rules.{quality_reply}
use borrow.Author.Rules.{rules}
use Rattle.rules.proofs.quality.Statement.{statement}
use Rattle.rules.proofs.quality.Tie as tie

array_copy_out_t6 : tie.Need-bounds-head-0
array_copy_out_t6 c = search rules

array_copy_out_t10 : tie.Need-bounds-head-1
array_copy_out_t10 c = search rules

array_copy_out_quality_part : tie.Need-bounds-head-2
array_copy_out_quality_part c = search rules

quality_part_requires : tie.Need-quality_part-requires
quality_part_requires c κs = search rules

charge_requires : tie.Need-charge-requires
charge_requires c κs = search rules

returns : tie.Need-returns
unfolding quality_reply
returns c =
    let r = c.quality_part in
    let head = c.args.head in
    let n0 : SFits w64 (get_or head 0 (pos 0)) = search rules in
    let n1 : SFits w64 (get_or head 1 (pos 0)) = search rules in
    let n2 : SFits w64 (get_or head 2 (pos 0)) = search rules in
    rw (c.charge.ensures, r.ensures, to_z-of_z n0, to_z-of_z n1, to_z-of_z n2)

pub quality_spec : {M : Type 1} → statement M
quality_spec =
    tie.close
    (tie.spec
    array_copy_out_t6
    array_copy_out_t10
    array_copy_out_quality_part
    quality_part_requires
    charge_requires
    returns)
