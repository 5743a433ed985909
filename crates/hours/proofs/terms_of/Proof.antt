-- `hours::terms_of` meets its contract: the prices stand side by side, after the capacity and what is between. Assumes nothing.
use Prim.Native.Nat.{◌+◌}
use lib.IntN.{pos}
use lib.ListN.{get_or}
use mir.Syntax.{w64}
use mir.Val.{SFits}
use mir.Facts.{to_z-of_z}
use borrow.Author.Rules.{rules}
use Rattle.hours.specs.Hours.{terms_of}
use Rattle.hours.proofs.terms_of.Statement.{statement}
use Rattle.hours.proofs.terms_of.Tie as tie

prices_at_requires : tie.Need-prices_at-n-requires
prices_at_requires c κs = search rules

array_copy_out_t7 : tie.Need-bounds-numbers-0
array_copy_out_t7 c = search rules

mul_t9 : tie.Need-offset_bounds-numbers-n
mul_t9 c = search rules

array_copy_out_t12 : tie.Need-bounds-numbers-n
array_copy_out_t12 c = search rules

add_t13 : tie.Need-overflow_add-result
add_t13 c = search rules

mul_t14 : tie.Need-offset_bounds-numbers-n-2
mul_t14 c = search rules

array_copy_out_t17 : tie.Need-bounds-numbers-n-2
array_copy_out_t17 c = search rules

returns : tie.Need-returns
unfolding terms_of
returns c =
    let p = c in
    let head = p.args.numbers in
    let from = p.prices_at-n.result in
    let n0 : SFits w64 (get_or head 0 (pos 0)) = search rules in
    let clearing : SFits w64 (get_or head from (pos 0)) = search rules in
    let performance : SFits w64 (get_or head (from + 1) (pos 0)) = search rules in
    rw (to_z-of_z n0, to_z-of_z clearing, to_z-of_z performance, p.prices_at-n.ensures.0)

pub terms_of_spec : {M : Type 1} → statement M
terms_of_spec =
    tie.close
    (tie.spec
    prices_at_requires
    array_copy_out_t7
    mul_t9
    array_copy_out_t12
    add_t13
    mul_t14
    array_copy_out_t17
    returns)
