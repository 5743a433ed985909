-- `frame_lines::put_alone` meets its contract: the line end is put after the digits, and both at once. Assumes nothing.
use Prim.Native.Nat.{◌≤◌}
use native.Mathlib.Omega.{arith}
use mathlib.Core.Path.{◌≡◌, sym}
use lib.ListN.{length, length-append, replicate}
use lib.Seq.{length-take-le}
use Rattle.text.specs.Text.{decimal_of, end_of_line}
use Rattle.text.proofs.Spelling.{length_decimal}
use Rattle.text.proofs.Pieces.{Begun, begin, more, begun_front}
use Rattle.frame_lines.specs.Text.{alone_text}
use borrow.Author.Rules.{rules}
use Rattle.frame_lines.proofs.put_alone.Statement.{statement}
use Rattle.frame_lines.proofs.put_alone.Tie as tie

slice_aggregate_put_decimal : tie.Need-slice_bounds-put_decimal-end
slice_aggregate_put_decimal c = search rules

put_decimal_requires : tie.Need-put_decimal-a-requires
put_decimal_requires c κs = search rules

slice_aggregate_put : tie.Need-slice_bounds-put-end
slice_aggregate_put c = search rules

put_requires : tie.Need-put-b-requires
put_requires c κs = search rules

-- the number has at most three digits
few : (c : tie.Start) → length (decimal_of c.args.k) ≤ 3
few c = length_decimal 2 c.args.k (omega (arith, c.ranges.k))

begun : (c : tie.After-put-b) → Begun (replicate 4 0) (alone_text c.args.k) c.put-b.new.out c.put-b.result
begun c =
    let p = c in
    let s = p in
    let f = few s.before.before.before.before.before.before.before.before in
    let one = begin (replicate 4 0) _ _ (decimal_of s.args.k) (omega arith) p.put_decimal-a.ensures.0 p.put_decimal-a.ensures.1 in
    more (replicate 4 0) _ _ _ _ (decimal_of s.args.k) end_of_line (omega arith) one c.put-b.ensures.0 c.put-b.ensures.1

short : (c : tie.After-put-b) → c.put-b.result ≤ length c.put-b.new.out
short c =
    let s = c in
    let f = few s.before.before.before.before.before.before.before.before in
    let room : length c.put-b.new.out ≡ 4 = search rules in
    omega (arith, (begun c).0, length-append (decimal_of s.args.k) end_of_line)

array_share_prefix_line : tie.Need-slice_bounds-line-end
array_share_prefix_line c = short c.before.before

slice_aggregate_put_2 : tie.Need-slice_bounds-put-end-3
slice_aggregate_put_2 c = sym (length-take-le _ _ (short c.before.before.before))

put_requires_2 : tie.Need-put-requires
put_requires_2 c κs = search rules

same_length : tie.Need-shape_of-out
same_length c = search rules

returns : tie.Need-returns
returns c = let z = c in rw (begun_front _ _ (begun z.before.before.before.before.before.before)) at z.put.ensures

pub put_alone_spec : {M : Type 1} → statement M
put_alone_spec =
    tie.close
    (tie.spec slice_aggregate_put_decimal put_decimal_requires slice_aggregate_put put_requires array_share_prefix_line slice_aggregate_put_2 put_requires_2 same_length returns)
