-- `intake::print::put_answer` meets its contract: each part is put after the one before. Assumes nothing.
use borrow.Author.Rules.{rules}
use native.Mathlib.Omega.{arith}
use mathlib.Core.List.{[], ◌∷◌, ◌++◌, append_assoc}
use lib.ListN.{length-append}
use Rattle.text.specs.Text.{decimal_of}
use Rattle.text.proofs.Places.{with_first, with_then}
use Rattle.intake.specs.Text.{verdict_text}
use Rattle.intake.proofs.Printed.{answer_long}
use Rattle.intake.proofs.print.put_answer.Statement.{statement}
use Rattle.intake.proofs.print.put_answer.Tie as tie

put_decimal_requires : tie.Need-put_decimal-a-requires
put_decimal_requires c κs = search rules

put_requires : tie.Need-put-b-requires
put_requires c κs = search rules

put_decimal_requires_2 : tie.Need-put_decimal-c-requires
put_decimal_requires_2 c κs = search rules

put_requires_2 : tie.Need-put-requires
put_requires_2 c κs = search rules

same_length : tie.Need-shape_of-out
same_length c = search rules

returns : tie.Need-returns
unfolding verdict_text
returns c = let z = c in
    let y = z in
    let x = y in
    let w = x in
    let s = w in
    let a = s.args in
    let long = answer_long a.number a.refusal in
    let room = s.requires in
    let n = decimal_of a.number in
    let d = decimal_of a.refusal in
    let one = with_first a.out.now _ a.at _ n (omega arith) w.put_decimal-a.ensures.0 w.put_decimal-a.ensures.1 in
    let two = with_then a.out.now _ _ a.at _ _ n (32 ∷ []) (simp length-append (omega arith)) one.0 one.1 x.put-b.ensures.0 x.put-b.ensures.1 in
    let three = with_then a.out.now _ _ a.at _ _ (n ++ (32 ∷ [])) d (simp length-append (omega arith)) two.0 two.1 y.put_decimal-c.ensures.0 y.put_decimal-c.ensures.1 in
    let four = with_then a.out.now _ _ a.at _ _ ((n ++ (32 ∷ [])) ++ d) (10 ∷ []) (simp length-append (omega arith)) three.0 three.1 z.put.ensures.0 z.put.ensures.1 in
    rw (append_assoc (n ++ (32 ∷ [])) d (10 ∷ []), append_assoc n (32 ∷ []) (d ++ (10 ∷ []))) at four

pub put_answer_spec : {M : Type 1} → statement M
put_answer_spec =
    tie.close
    (tie.spec put_decimal_requires put_requires put_decimal_requires_2 put_requires_2 same_length returns)
