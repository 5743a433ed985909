-- `frame_lines::put_one` meets its contract: by the number. Assumes nothing.
use borrow.Author.Tests.{eq-eqb, ne_eqb}
use borrow.Author.Rules.{rules}
use Rattle.frame_lines.proofs.put_one.Statement.{statement}
use Rattle.frame_lines.proofs.put_one.Tie as tie

slice_aggregate_put : tie.Need-slice_bounds-put-end
slice_aggregate_put c = search rules

put_requires : tie.Need-put-requires
put_requires c κs = search rules

same_length : tie.Need-shape_of-out-then-k-eq0
same_length c = search rules

returns : tie.Need-returns-then-k-eq0
returns c = let y = c in rw (eq-eqb _ 0 y.if-k-eq0.true) y.put.ensures

put_alone_requires : tie.Need-put_alone-requires
put_alone_requires c κs = search rules

same_length_2 : tie.Need-shape_of-out
same_length_2 c = search rules

returns_2 : tie.Need-returns
returns_2 c = let y = c in rw (ne_eqb _ 0 y.if-k-eq0.false) y.put_alone.ensures

pub put_one_spec : {M : Type 1} → statement M
put_one_spec =
    tie.close
    (tie.spec
    slice_aggregate_put
    put_requires
    same_length
    returns
    put_alone_requires
    same_length_2
    returns_2)
