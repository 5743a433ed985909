-- A power less another is at most twice the most power.
use Rattle.std.proofs.Common.{arith, rules, ℤ, ◌-ℤ◌}
use mir.Syntax.{w64}
use mir.Val.{SFits}
use mir.Facts.{to_z-of_z}
use Rattle.whole.specs.Whole.{Within}
use Rattle.whole.proofs.Signed.{signed, inside, difference}
use Rattle.whole.proofs.Sums.{in_within}
use Rattle.sreg.proofs.Places.{place_2}
use Rattle.sreg.proofs.score_in.Goals as goal

pub percent-requires : goal.percent-requires
percent-requires c =
    let w : Within 200000 c.args.power = in_within c.requires.1.0 in
    let f : SFits w64 c.args.capacity.0 = search rules in
    rw (to_z-of_z c.ranges.power, to_z-of_z f) (omega arith, inside c.requires.1.1)

less_fits : (p q : ℤ) → Within 200000 p → Within 200000 q → SFits w64 (p -ℤ q)
less_fits p q a b = omega signed

pub overflow_sub-start : goal.overflow_sub-start
overflow_sub-start c =
    let a : Within 200000 c.args.place.power = in_within (rw (place_2 c.args.place c.if-place-eq2.true) at c.requires.0) in
    let f : SFits w64 c.args.place.power = search rules in
    rw (to_z-of_z f, to_z-of_z c.ranges.power) (less_fits _ _ a (in_within c.requires.1.0))

pub percent-requires-then-place-eq2 : goal.percent-requires-then-place-eq2
percent-requires-then-place-eq2 c =
    let a : Within 200000 c.args.place.power = in_within (rw (place_2 c.args.place c.if-place-eq2.true) at c.requires.0) in
    let b : Within 200000 c.args.power = in_within c.requires.1.0 in
    let f : SFits w64 c.args.place.power = search rules in
    let g : SFits w64 c.args.capacity.0 = search rules in
    rw (to_z-of_z f, to_z-of_z c.ranges.power, to_z-of_z g, to_z-of_z (less_fits _ _ a b)) (omega (arith, difference c.args.place.power c.args.power), inside c.requires.1.1)

pub returns-then-place-eq2 : goal.returns-then-place-eq2
returns-then-place-eq2 c =
    let a : Within 200000 c.args.place.power = in_within (rw (place_2 c.args.place c.if-place-eq2.true) at c.requires.0) in
    let b : Within 200000 c.args.power = in_within c.requires.1.0 in
    let f : SFits w64 c.args.place.power = search rules in
    let g : SFits w64 c.args.capacity.0 = search rules in
    rw (place_2 c.args.place c.if-place-eq2.true) (rw (to_z-of_z f, to_z-of_z c.ranges.power, to_z-of_z g, to_z-of_z (less_fits _ _ a b)) at c.percent-then-place-eq2.ensures)
