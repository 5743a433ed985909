-- `score::score_of` meets its contract: where the lower bound is not above the upper one, the nearer bound is the one that the output lies beyond. Assumes nothing.
use Rattle.std.proofs.Common.{◌≡◌, SFits, w64, true, false, ℤ, pos, negsuc, ◌-ℤ◌, min, max, arith, ◌∙◌, ap₂, to_z, of_z}
use Rattle.std.proofs.Math.Facts.{to_z-of_z}
use Rattle.std.specs.Int.{int_max}
use Rattle.std.specs.Int.Signed.{lt_z}
use Rattle.whole.specs.Whole.{up, down}
use Rattle.whole.proofs.Choice.{by_test}
use Rattle.whole.proofs.Signed.{signed, back, difference}
use Rattle.score.proofs.Laws.{past, score_outside}
use Rattle.score.proofs.score_of.Goals as goal

-- how far the larger of two numbers lies above 0
one : (x : ℤ) → min (up x) (down x) ≡ 0
one (pos n) = omega arith
one (negsuc n) = omega arith

larger : (x y : ℤ) → up (int_max x y) ≡ max (up x) (up y)
larger x y =
    by_test (lt_z y x)
    (λ (t : lt_z y x ≡ true). let e : int_max x y ≡ x = rw t in rw e (omega (signed, one x, one y)))
    (λ (t : lt_z y x ≡ false). let e : int_max x y ≡ y = rw t in rw e (omega (signed, one x, one y)))

pub returns : goal.returns
returns c =
    let a = c.args in
    let order = c.requires.1.1.1 in
    let above = a.output -ℤ a.upper in
    let below = a.lower -ℤ a.output in
    let u = difference a.output a.upper in
    let l = difference a.lower a.output in
    let fits_above : SFits w64 above = omega signed in
    let fits_below : SFits w64 below = omega signed in
    let m = max (past a.output a.upper) (past a.lower a.output) in
    let above_is : to_z w64 (of_z w64 (to_z w64 (of_z w64 a.output) -ℤ to_z w64 (of_z w64 a.upper))) ≡ above = rw (to_z-of_z c.ranges.output, to_z-of_z c.ranges.upper) (to_z-of_z fits_above) in
    let below_is : to_z w64 (of_z w64 (to_z w64 (of_z w64 a.lower) -ℤ to_z w64 (of_z w64 a.output))) ≡ below = rw (to_z-of_z c.ranges.output, to_z-of_z c.ranges.lower) (to_z-of_z fits_below) in
    let beyond : c.max.result ≡ int_max above below = c.max.ensures.value ∙ ap₂ int_max above_is below_is in
    let most : up (int_max above below) ≡ m = rw (larger above below) (omega (signed, one above, one below)) in
    rw (c.less.ensures, back w64 c.max.type_inv beyond, score_outside a.output a.upper a.lower order) (omega (arith, one (int_max above below), most))
