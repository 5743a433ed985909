-- `frame_lines::put_both` meets its contract: the second line is put after the first, and both at once. Assumes nothing.
use Prim.Native.Nat.{◌≤◌}
use native.Mathlib.Omega.{arith}
use mathlib.Core.Path.{◌≡◌, sym}
use mathlib.Core.List.{◌++◌}
use lib.ListN.{length, length-append, replicate}
use lib.Seq.{length-take-le}
use Rattle.text.proofs.Pieces.{Begun, begin, more, begun_front}
use borrow.Author.Rules.{rules}
use Rattle.frame_lines.proofs.put_both.Statement.{statement}
use Rattle.frame_lines.proofs.put_both.Tie as tie

slice_aggregate_put : tie.Need-slice_bounds-put-end
slice_aggregate_put c = search rules

slice_aggregate_put_2 : tie.Need-slice_bounds-put-end-2
slice_aggregate_put_2 c = search rules

put_requires : tie.Need-put-a-requires
put_requires c κs = search rules

slice_aggregate_put_3 : tie.Need-slice_bounds-put-end-3
slice_aggregate_put_3 c = search rules

slice_aggregate_put_4 : tie.Need-slice_bounds-put-end-4
slice_aggregate_put_4 c = search rules

put_requires_2 : tie.Need-put-b-requires
put_requires_2 c κs = search rules

-- each line has 25 bytes
long : (c : tie.Start) → (length c.args.bytes ≡ 25) × (length c.args.rest ≡ 25)
long c = (search rules, search rules)

begun : (c : tie.After-put-b) → let a = c.args in Begun (replicate 50 0) (a.bytes ++ a.rest) c.put-b.new.out c.put-b.result
begun c =
    let p = c in
    let s = p in
    let l = long s.before.before.before.before.before.before.before.before in
    let one = begin (replicate 50 0) _ _ s.args.bytes (omega arith) p.put-a.ensures.0 p.put-a.ensures.1 in
    more (replicate 50 0) _ _ _ _ s.args.bytes s.args.rest (omega arith) one c.put-b.ensures.0 c.put-b.ensures.1

short : (c : tie.After-put-b) → c.put-b.result ≤ length c.put-b.new.out
short c =
    let s = c in
    let l = long s.before.before.before.before.before.before.before.before in
    let room : length c.put-b.new.out ≡ 50 = search rules in
    omega (arith, (begun c).0, length-append s.args.bytes s.args.rest)

array_share_prefix_lines : tie.Need-slice_bounds-lines-end
array_share_prefix_lines c = short c.before.before

slice_aggregate_put_5 : tie.Need-slice_bounds-put-end-5
slice_aggregate_put_5 c = sym (length-take-le _ _ (short c.before.before.before))

put_requires_3 : tie.Need-put-requires
put_requires_3 c κs = search rules

same_length : tie.Need-shape_of-out
same_length c = search rules

returns : tie.Need-returns
returns c = let z = c in rw (begun_front _ _ (begun z.before.before.before.before.before.before)) at z.put.ensures

pub put_both_spec : {M : Type 1} → statement M
put_both_spec =
    tie.close
    (tie.spec
    slice_aggregate_put
    slice_aggregate_put_2
    put_requires
    slice_aggregate_put_3
    slice_aggregate_put_4
    put_requires_2
    array_share_prefix_lines
    slice_aggregate_put_5
    put_requires_3
    same_length
    returns)
