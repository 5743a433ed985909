-- `intake::print::put_total` meets its contract: each part is put after the one before. Assumes nothing.
use borrow.Author.Rules.{rules}
use native.Mathlib.Omega.{arith}
use mathlib.Core.List.{[], ◌∷◌, ◌++◌, append_assoc}
use lib.ListN.{length-append}
use mir.Facts.{to_z-of_z}
use Rattle.text.specs.Text.{signed_text}
use Rattle.text.proofs.Places.{with_first, with_then}
use Rattle.intake.specs.Text.{total_word, total_text}
use Rattle.intake.proofs.Printed.{total_long}
use Rattle.intake.proofs.print.put_total.Statement.{statement}
use Rattle.intake.proofs.print.put_total.Tie as tie

put_requires : tie.Need-put-a-requires
put_requires c κs = search rules

put_signed_requires : tie.Need-put_signed-b-requires
put_signed_requires c κs = search rules

put_requires_2 : tie.Need-put-requires
put_requires_2 c κs = search rules

same_length : tie.Need-shape_of-out
same_length c = search rules

returns : tie.Need-returns
unfolding total_text
returns c = let z = c in
    let y = z in
    let x = y in
    let s = x in
    let a = s.args in
    let long = total_long a.total in
    let room = s.requires in
    let t = signed_text a.total in
    let g = rw (to_z-of_z s.ranges.total) at y.put_signed-b.ensures in
    let one = with_first a.out.now _ a.at _ total_word (omega arith) x.put-a.ensures.0 x.put-a.ensures.1 in
    let two = with_then a.out.now _ _ a.at _ _ total_word t (simp length-append (omega arith)) one.0 one.1 g.0 g.1 in
    let three = with_then a.out.now _ _ a.at _ _ (total_word ++ t) (10 ∷ []) (simp length-append (omega arith)) two.0 two.1 z.put.ensures.0 z.put.ensures.1 in
    rw (append_assoc total_word t (10 ∷ [])) at three

pub put_total_spec : {M : Type 1} → statement M
put_total_spec =
    tie.close
    (tie.spec put_requires put_signed_requires put_requires_2 same_length returns)
