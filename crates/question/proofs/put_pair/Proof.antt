-- `question::put_pair` meets its contract: its first three numbers are the frame's. Assumes nothing.
use native.Mathlib.Omega.{arith}
use lib.IntN.{pos}
use lib.ListN.{get_or}
use mir.Syntax.{w64}
use mir.Val.{SFits}
use mir.Facts.{to_z-of_z}
use borrow.Author.Rules.{rules}
use Rattle.text.proofs.Pieces.{begin}
use Rattle.numbers.specs.Numbers.{number}
use Rattle.frame_lines.proofs.Laws.{pair_long}
use Rattle.question.specs.Parts.{head_of}
use Rattle.question.proofs.put_pair.Statement.{statement}
use Rattle.question.proofs.put_pair.Tie as tie

head_of_requires : tie.Need-head_of-head-requires
head_of_requires c κs = search rules

array_copy_out_put_pair : tie.Need-bounds-head-0
array_copy_out_put_pair c = search rules

array_copy_out_put_pair_2 : tie.Need-bounds-head-1
array_copy_out_put_pair_2 c = search rules

array_copy_out_put_pair_3 : tie.Need-bounds-head-2
array_copy_out_put_pair_3 c = search rules

put_pair_requires : tie.Need-put_pair-requires
put_pair_requires c κs = search rules

same_length : tie.Need-shape_of-out
same_length c = search rules

returns : tie.Need-returns
returns c =
    let z = c in
    let h = z in
    let s = h in
    let head = h.head_of-head.result in
    let n0 : SFits w64 (get_or head 0 (pos 0)) = search rules in
    let n1 : SFits w64 (get_or head 1 (pos 0)) = search rules in
    let n2 : SFits w64 (get_or head 2 (pos 0)) = search rules in
    let p = rw (to_z-of_z n0, to_z-of_z n1, to_z-of_z n2, h.head_of-head.ensures) at z.put_pair.ensures in
    let first = head_of s.args.numbers.now in
    let long = pair_long (number first 0) (number first 1) (number first 2) in
    let one = begin s.args.out.now _ _ _ (omega (arith, long, s.requires)) p.0 p.1 in
    (one.0, (one.1, omega (arith, one.0, long)))

pub put_pair_spec : {M : Type 1} → statement M
put_pair_spec =
    tie.close
    (tie.spec
    head_of_requires
    array_copy_out_put_pair
    array_copy_out_put_pair_2
    array_copy_out_put_pair_3
    put_pair_requires
    same_length
    returns)
