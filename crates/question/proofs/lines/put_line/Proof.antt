-- `question::lines::put_line` meets its contract: each piece is put after the one before. Assumes nothing.
use borrow.Author.Rules.{rules}
use Prim.Native.Nat.{◌≤◌}
use native.Mathlib.Omega.{arith}
use mathlib.Core.Path.{◌≡◌, ap, ◌∙◌}
use mathlib.Core.List.{◌++◌, append_assoc}
use lib.ListN.{length, length-append}
use Rattle.text.specs.Text.{decimal_of, put, end_of_line}
use Rattle.text.proofs.Places.{length_put}
use Rattle.text.proofs.Spelling.{length_decimal}
use Rattle.question.specs.Lines.{fields_text, line_text}
use Rattle.text.proofs.Pieces.{Begun, begin, more, further}
use Rattle.question.proofs.lines.put_line.Statement.{statement}
use Rattle.question.proofs.lines.put_line.Tie as tie

put_decimal_requires : tie.Need-put_decimal-a-requires
put_decimal_requires c κs = search rules

-- the refusal's number has at most three digits
few : (c : tie.After-put_decimal-a) → length (decimal_of c.args.refusal) ≤ 3
few c = length_decimal 2 c.args.refusal (omega (arith, c.ranges.refusal))

begun : (c : tie.After-put_decimal-a) → Begun c.args.out.now (decimal_of c.args.refusal) c.put_decimal-a.new.out c.put_decimal-a.result
begun c = begin _ _ _ _ (omega (arith, few c)) c.put_decimal-a.ensures.0 c.put_decimal-a.ensures.1

as_long : (c : tie.After-put_decimal-a) → length c.put_decimal-a.new.out ≡ length c.args.out.now
as_long c = ap length (begun c).1 ∙ length_put _ 0 _ (omega (arith, few c))

put_fields_requires : tie.Need-put_fields-b-requires
put_fields_requires c κs = let p = c in (omega (arith, few p.before.before.before, (begun p.before.before.before).0, as_long p.before.before.before), p.requires.1)

put_requires : tie.Need-put-requires
put_requires c κs = search rules

same_length : tie.Need-shape_of-out
same_length c = search rules

returns : tie.Need-returns
unfolding line_text
returns c =
    let z = c in
    let y = z in
    let x = y in
    let s = x in
    let a = s.args in
    let out = a.out.now in
    let first = decimal_of a.refusal in
    let fields = fields_text a.fields.now in
    let e = y.put_fields-b.ensures in
    let two = further out _ _ _ _ first fields (omega (arith, few x.before.before.before.before.before.before.before.before.before.before.before.before)) (begun x.before.before.before.before.before.before.before.before.before.before.before.before) e.0 e.1.0 in
    let three = more out _ _ _ _ _ end_of_line (omega (arith, few x.before.before.before.before.before.before.before.before.before.before.before.before, two.0, e.1.1, (begun x.before.before.before.before.before.before.before.before.before.before.before.before).0)) two z.put.ensures.0 z.put.ensures.1 in
    let g = append_assoc first fields end_of_line in
    (three.0 ∙ ap length g, (three.1 ∙ ap (put out 0) g, omega (arith, three.0, length-append (first ++ fields) end_of_line, two.0, few x.before.before.before.before.before.before.before.before.before.before.before.before, e.1.1, (begun x.before.before.before.before.before.before.before.before.before.before.before.before).0)))

pub put_line_spec : {M : Type 1} → statement M
put_line_spec =
    tie.close
    (tie.spec put_decimal_requires put_fields_requires put_requires same_length returns)
