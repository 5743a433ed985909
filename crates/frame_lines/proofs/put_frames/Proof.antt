-- `frame_lines::put_frames` meets its contract: one line or two. Assumes nothing.
use Rattle.frame_lines.proofs.Laws.{one_text_lem, two_text_lem}
use borrow.Author.Rules.{rules}
use Rattle.frame_lines.proofs.put_frames.Statement.{statement}
use Rattle.frame_lines.proofs.put_frames.Tie as tie

lined_of_requires : tie.Need-lined_of-first-requires
lined_of_requires c κs = search rules

or_else_requires : tie.Need-or_else-k-requires
or_else_requires c κs = search rules

lined_of_requires_2 : tie.Need-lined_of-requires
lined_of_requires_2 c κs = search rules

put_two_requires : tie.Need-put_two-requires
put_two_requires c κs = search rules

same_length : tie.Need-shape_of-out-then-framed
same_length c = search rules

returns : tie.Need-returns-then-framed
returns c =
    let z = c in
    let m = z in
    let t = m in
    let o = t in
    let l = o in
    rw (o.or_else-k.ensures, l.lined_of-first.ensures, m.lined_of.ensures, two_text_lem l.args.framed t.if-framed.true) at z.put_two.ensures

put_one_requires : tie.Need-put_one-requires
put_one_requires c κs = search rules

same_length_2 : tie.Need-shape_of-out
same_length_2 c = search rules

returns_2 : tie.Need-returns
returns_2 c =
    let z = c in
    let t = z in
    let o = t in
    let l = o in
    rw (o.or_else-k.ensures, l.lined_of-first.ensures, one_text_lem l.args.framed t.if-framed.false) at z.put_one.ensures

pub put_frames_spec : {M : Type 1} → statement M
put_frames_spec =
    tie.close
    (tie.spec
    lined_of_requires
    or_else_requires
    lined_of_requires_2
    put_two_requires
    same_length
    returns
    put_one_requires
    same_length_2
    returns_2)
