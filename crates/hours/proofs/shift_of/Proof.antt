-- `hours::shift_of` meets its contract: the prices and the targets stand side by side. Assumes nothing.
use lib.IntN.{pos}
use lib.ListN.{get_or}
use mir.Syntax.{w64}
use mir.Val.{SFits}
use mir.Facts.{to_z-of_z}
use Rattle.hours.specs.Hours.{shift_of}
use borrow.Author.Rules.{rules}
use Rattle.hours.proofs.shift_of.Statement.{statement}
use Rattle.hours.proofs.shift_of.Tie as tie

array_copy_out_t5 : tie.Need-bounds-numbers-4
array_copy_out_t5 c = search rules

array_copy_out_t8 : tie.Need-bounds-numbers-5
array_copy_out_t8 c = search rules

array_copy_out_t11 : tie.Need-bounds-numbers-6
array_copy_out_t11 c = search rules

array_copy_out_t14 : tie.Need-bounds-numbers-7
array_copy_out_t14 c = search rules

array_copy_out_t17 : tie.Need-bounds-numbers-8
array_copy_out_t17 c = search rules

array_copy_out_t20 : tie.Need-bounds-numbers-9
array_copy_out_t20 c = search rules

array_copy_out_t23 : tie.Need-bounds-numbers-10
array_copy_out_t23 c = search rules

returns : tie.Need-returns
unfolding shift_of
returns c =
    let head = c.args.numbers in
    let n4 : SFits w64 (get_or head 4 (pos 0)) = search rules in
    let n5 : SFits w64 (get_or head 5 (pos 0)) = search rules in
    let n6 : SFits w64 (get_or head 6 (pos 0)) = search rules in
    let n7 : SFits w64 (get_or head 7 (pos 0)) = search rules in
    let n8 : SFits w64 (get_or head 8 (pos 0)) = search rules in
    let n9 : SFits w64 (get_or head 9 (pos 0)) = search rules in
    let n10 : SFits w64 (get_or head 10 (pos 0)) = search rules in
    rw (to_z-of_z n4, to_z-of_z n5, to_z-of_z n6, to_z-of_z n7, to_z-of_z n8, to_z-of_z n9, to_z-of_z n10)

pub shift_of_spec : {M : Type 1} → statement M
shift_of_spec =
    tie.close
    (tie.spec
    array_copy_out_t5
    array_copy_out_t8
    array_copy_out_t11
    array_copy_out_t14
    array_copy_out_t17
    array_copy_out_t20
    array_copy_out_t23
    returns)
