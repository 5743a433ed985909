-- `text::put_signed` meets its contract: by the sign. Below 0 the digits stand after a sign in a run of signs.
use Rattle.std.proofs.Common.{◌≡◌, ◌≤◌, ◌∙◌, sym, ap, length, take}
use lib.IntN.{nat_abs}
use lib.Seq.{length-take-le}
use mir.Facts.{to_z-of_z}
use Rattle.whole.proofs.Signed.{signed, bits}
use Rattle.text.specs.Text.{signed_text, place_after, with_text}
use Rattle.text.proofs.Spelling.{signed_run}
use Rattle.text.proofs.put_signed.Goals as goal
use Rattle.text.proofs.put_signed.Goals.{After-put_decimal-k}

made : (c : After-put_decimal-k) → (c.put_decimal-k.result ≤ length c.put_decimal-k.new.out) × (take c.put_decimal-k.result c.put_decimal-k.new.out ≡ signed_text c.args.z)
made c =
    let z = c.args.z in
    let u = c.unsigned_abs.ensures in
    signed_run z _ _ _ (u.value ∙ ap nat_abs (to_z-of_z c.ranges.z)) u.bound (omega (signed, bits c.ranges.z)) c.put_decimal-k.ensures.place c.put_decimal-k.ensures.text

pub slice_bounds-text-end : goal.slice_bounds-text-end
slice_bounds-text-end c = (made (goal.at.slice_bounds-text-end c).After-put_decimal-k).0

pub slice_bounds-put-end : goal.slice_bounds-put-end
slice_bounds-put-end c = sym (length-take-le _ _ (made (goal.at.slice_bounds-put-end c).After-put_decimal-k).0)

pub returns-then-z-lt0-clause-place : goal.returns-then-z-lt0-clause-place
returns-then-z-lt0-clause-place c = c.put.ensures.place ∙ ap (place_after _ _) (made (goal.at.returns-then-z-lt0-clause-place c).After-put_decimal-k).1

pub returns-then-z-lt0-clause-text : goal.returns-then-z-lt0-clause-text
returns-then-z-lt0-clause-text c = c.put.ensures.text ∙ ap (with_text _ _) (made (goal.at.returns-then-z-lt0-clause-text c).After-put_decimal-k).1
