-- `frames::asked` meets its contract: the numbers stand side by side. Assumes nothing.
use lib.IntN.{pos}
use lib.ListN.{get_or}
use mir.Syntax.{w64}
use mir.Val.{SFits}
use mir.Facts.{to_z-of_z}
use Rattle.frames.specs.Frames.{frame_asked}
use borrow.Author.Rules.{rules}
use Rattle.frames.proofs.asked.Statement.{statement}
use Rattle.frames.proofs.asked.Tie as tie

array_copy_out_framed_by : tie.Need-bounds-head-0
array_copy_out_framed_by c = search rules

array_copy_out_framed_by_2 : tie.Need-bounds-head-1
array_copy_out_framed_by_2 c = search rules

array_copy_out_framed_by_3 : tie.Need-bounds-head-2
array_copy_out_framed_by_3 c = search rules

array_copy_out_framed_by_4 : tie.Need-bounds-head-3
array_copy_out_framed_by_4 c = search rules

framed_by_requires : tie.Need-framed_by-requires
framed_by_requires c κs = search rules

returns : tie.Need-returns
unfolding frame_asked
returns c =
    let head = c.args.head in
    let n0 : SFits w64 (get_or head 0 (pos 0)) = search rules in
    let n1 : SFits w64 (get_or head 1 (pos 0)) = search rules in
    let n2 : SFits w64 (get_or head 2 (pos 0)) = search rules in
    let n3 : SFits w64 (get_or head 3 (pos 0)) = search rules in
    rw (c.framed_by.ensures, to_z-of_z n0, to_z-of_z n1, to_z-of_z n2, to_z-of_z n3)

pub asked_spec : {M : Type 1} → statement M
asked_spec =
    tie.close
    (tie.spec
    array_copy_out_framed_by
    array_copy_out_framed_by_2
    array_copy_out_framed_by_3
    array_copy_out_framed_by_4
    framed_by_requires
    returns)
