-- `question::lines::put_field` meets its contract: the number is put after the space. Assumes nothing.
use borrow.Author.Rules.{rules}
use native.Mathlib.Omega.{arith}
use mathlib.Core.Path.{◌∙◌}
use mathlib.Core.List.{[], ◌∷◌}
use mir.Facts.{to_z-of_z}
use Rattle.text.specs.Text.{signed_text}
use Rattle.text.proofs.Places.{place_fits_lem, text_fits, with_then}
use Rattle.question.proofs.lines.put_field.Statement.{statement}
use Rattle.question.proofs.lines.put_field.Tie as tie

put_requires : tie.Need-put-a-requires
put_requires c κs = search rules

put_signed_requires : tie.Need-put_signed-requires
put_signed_requires c κs = search rules

same_length : tie.Need-shape_of-out
same_length c = search rules

returns : tie.Need-returns
returns c =
    let p = c in
    let q = p in
    let s = q in
    let a = s.args in
    let z = rw (to_z-of_z s.ranges.z) at p.put_signed.ensures in
    let w = with_then a.out.now _ _ a.at _ _ (32 ∷ []) (signed_text a.z) (omega arith) (q.put-a.ensures.0 ∙ place_fits_lem _ _ _ (omega arith)) (q.put-a.ensures.1 ∙ text_fits _ _ _ (omega arith)) z.0 z.1 in
    w

pub put_field_spec : {M : Type 1} → statement M
put_field_spec =
    tie.close (tie.spec put_requires put_signed_requires same_length returns)
