-- `frame_lines::put_two` meets its contract: by the number. Assumes nothing.
use borrow.Author.Tests.{eq-eqb, ne_eqb}
use borrow.Author.Rules.{rules}
use Rattle.frame_lines.proofs.put_two.Statement.{statement}
use Rattle.frame_lines.proofs.put_two.Tie as tie

or_else_requires : tie.Need-or_else-n-requires
or_else_requires c κs = search rules

put_both_requires : tie.Need-put_both-requires
put_both_requires c κs = search rules

same_length : tie.Need-shape_of-out-then-n-eq0
same_length c = search rules

returns : tie.Need-returns-then-n-eq0
returns c =
    let y = c in
    let t = y in
    let o = t in
    rw (← o.or_else-n.ensures, eq-eqb o.or_else-n.result 0 t.if-n-eq0.true) y.put_both.ensures

put_alone_requires : tie.Need-put_alone-requires
put_alone_requires c κs = search rules

same_length_2 : tie.Need-shape_of-out
same_length_2 c = search rules

returns_2 : tie.Need-returns
returns_2 c =
    let y = c in
    let t = y in
    let o = t in
    rw (← o.or_else-n.ensures, ne_eqb o.or_else-n.result 0 t.if-n-eq0.false) y.put_alone.ensures

pub put_two_spec : {M : Type 1} → statement M
put_two_spec =
    tie.close
    (tie.spec
    or_else_requires
    put_both_requires
    same_length
    returns
    put_alone_requires
    same_length_2
    returns_2)
