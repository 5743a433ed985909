-- The opposite of a price fits, and is what charging brings.
use Rattle.std.proofs.Common.{◌≡◌, pos, neg_ℤ, ◌-ℤ◌, ◌∙◌}
use mathlib.Core.Bool.{false}
use lib.Signed.{lt_z}
use mir.Facts.{to_z-of_z}
use Rattle.whole.proofs.Signed.{signed, inside, opposite, difference}
use Rattle.fees.specs.Fees.{signed_price}
use Rattle.fees.proofs.signed_price.Goals as goal

pub overflow_sub-result : goal.overflow_sub-result
overflow_sub-result c =
    let d = inside c.requires.0 in
    let b = inside c.requires.1 in
    omega signed

pub returns-then-target-lt0 : goal.returns-then-target-lt0
unfolding signed_price
returns-then-target-lt0 c =
    let charge = c.args.charge in
    let above : lt_z (pos 0) c.args.target ≡ false = rw (to_z-of_z c.ranges.target) at c.if-target-gt0.false in
    let turned : pos 0 -ℤ charge ≡ neg_ℤ charge = omega (signed, opposite charge, difference (pos 0) charge) in
    to_z-of_z (overflow_sub-result c) ∙ simp (to_z-of_z c.ranges.charge, above, rw (to_z-of_z c.ranges.target) at c.if-target-lt0.true, turned)
