-- `frames::post` meets its contract: the hour is settled, and its amount framed. Assumes nothing.
use lib.IntN.{pos}
use lib.ListN.{get_or}
use mir.Syntax.{w64}
use mir.Val.{SFits}
use mir.Facts.{to_z-of_z}
use Rattle.frames.specs.Frames.{hour_post}
use borrow.Author.Rules.{rules}
use Rattle.frames.proofs.post.Statement.{statement}
use Rattle.frames.proofs.post.Tie as tie

settle_requires : tie.Need-settle-settled-requires
settle_requires c κs = search rules

cast_framed_by : tie.Need-overflow_cast-framed_by
cast_framed_by c = search rules

array_copy_out_framed_by : tie.Need-bounds-head-0
array_copy_out_framed_by c = search rules

array_copy_out_framed_by_2 : tie.Need-bounds-head-1
array_copy_out_framed_by_2 c = search rules

framed_by_requires : tie.Need-framed_by-requires
framed_by_requires c κs = search rules

returns : tie.Need-returns
unfolding hour_post
returns c =
    let r = c.settle-settled in
    let head = c.args.head in
    let amount : SFits w64 r.result.amount.0 = search rules in
    let n0 : SFits w64 (get_or head 0 (pos 0)) = search rules in
    let n1 : SFits w64 (get_or head 1 (pos 0)) = search rules in
    rw (c.framed_by.ensures, to_z-of_z n0, to_z-of_z n1, to_z-of_z amount, r.ensures.0)

pub post_spec : {M : Type 1} → statement M
post_spec =
    tie.close
    (tie.spec
    settle_requires
    cast_framed_by
    array_copy_out_framed_by
    array_copy_out_framed_by_2
    framed_by_requires
    returns)
