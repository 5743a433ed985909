-- `ramp::ramping` meets its contract: the distance of the targets is small, and so is the part of it that is moved; a ramp that falls is one that rises, turned.
-- Assumes nothing.
use Prim.Native.Nat.{ℕ, ◌*◌, ◌≤◌}
use mathlib.Core.Path.{◌≡◌}
use native.Mathlib.Omega.{arith}
use lib.IntN.{ℤ, pos, ◌-ℤ◌, ◌*ℤ◌}
use mir.Syntax.{w64}
use mir.Val.{to_z, of_z}
use mir.Facts.{to_z-of_z}
use borrow.Author.Tests.{le-leb}
use Rattle.whole.specs.Whole.{Within, away}
use Rattle.whole.proofs.Signed.{signed, back, difference, product, within_size}
use Rattle.whole.proofs.Rounding.{away_within}
use Rattle.units.specs.Limits.{most_transfer, seconds_of_ramp}
use Rattle.ramp.specs.Ramp.{ramp_at}
use Rattle.ramp.proofs.Falling.{falling}
use Rattle.ramp.proofs.ramping.Statement.{statement}
use Rattle.ramp.proofs.ramping.Tie as tie

-- two targets are so far apart, and a second's part of the way is no more
apart : {x y : ℤ} → Within most_transfer x → Within most_transfer y → Within (2 * most_transfer) (x -ℤ y)
apart {x} {y} a b = omega (arith, difference x y)

moved : {z : ℤ} {n : ℕ} → Within (2 * most_transfer) z → n ≤ seconds_of_ramp → Within (2 * most_transfer) (away (z *ℤ pos n) seconds_of_ramp)
moved {z} {n} d h = let m : Within seconds_of_ramp (pos n) = omega arith in away_within (z *ℤ pos n) seconds_of_ramp (2 * most_transfer) (omega arith) (within_size (product d m))

sub_ramped : tie.Need-overflow_sub-target
sub_ramped c = omega signed

ramped_requires : tie.Need-ramped-requires
ramped_requires c κs =
    let s = c.before in
    (rw (to_z-of_z (sub_ramped c), to_z-of_z s.ranges.target, to_z-of_z s.ranges.last) (apart s.requires.1.0 s.requires.0), s.requires.1.1)

-- the part that is moved, of the parameters themselves
risen : (c : tie.After-ramped) → let a = c.args in to_z w64 (of_z w64 c.ramped.result) ≡ away ((a.target -ℤ a.last) *ℤ pos a.n) seconds_of_ramp
risen c =
    let s = c.before.before in
    back w64 c.ramped.type_inv (rw (to_z-of_z (sub_ramped c.before), to_z-of_z s.ranges.target, to_z-of_z s.ranges.last) at c.ramped.ensures)

add_result : tie.Need-overflow_add-result
add_result c =
    let s = c.before.before in
    let w = moved (apart s.requires.1.0 s.requires.0) s.requires.1.1 in
    rw (risen c, to_z-of_z s.ranges.last) (omega signed)

returns : tie.Need-returns-then-last-target
unfolding ramp_at
returns c = let s = c.before.before in rw (to_z-of_z (add_result c), risen c, to_z-of_z s.ranges.last, le-leb s.args.n seconds_of_ramp s.requires.1.1)

sub_ramped_2 : tie.Need-overflow_sub-last
sub_ramped_2 c = omega signed

ramped_requires_2 : tie.Need-ramped-requires-2
ramped_requires_2 c κs =
    let s = c.before in
    (rw (to_z-of_z (sub_ramped_2 c), to_z-of_z s.ranges.target, to_z-of_z s.ranges.last) (apart s.requires.0 s.requires.1.0), s.requires.1.1)

fallen : (c : tie.After-ramped-2) → let a = c.args in to_z w64 (of_z w64 c.ramped-2.result) ≡ away ((a.last -ℤ a.target) *ℤ pos a.n) seconds_of_ramp
fallen c =
    let s = c.before.before in
    back w64 c.ramped-2.type_inv (rw (to_z-of_z (sub_ramped_2 c.before), to_z-of_z s.ranges.target, to_z-of_z s.ranges.last) at c.ramped-2.ensures)

sub_result : tie.Need-overflow_sub-result
sub_result c =
    let s = c.before.before in
    let w = moved (apart s.requires.0 s.requires.1.0) s.requires.1.1 in
    rw (fallen c, to_z-of_z s.ranges.last) (omega signed)

returns_2 : tie.Need-returns
unfolding ramp_at
returns_2 c =
    let s = c.before.before in
    rw (to_z-of_z (sub_result c), fallen c, to_z-of_z s.ranges.last, le-leb s.args.n seconds_of_ramp s.requires.1.1) (falling s.args.last s.args.target s.args.n)

pub ramping_spec : {M : Type 1} → statement M
ramping_spec =
    tie.close
    (tie.spec
    sub_ramped
    ramped_requires
    add_result
    returns
    sub_ramped_2
    ramped_requires_2
    sub_result
    returns_2)
