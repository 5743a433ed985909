-- `score::by_bounds` meets its contract: the output of a second that is not refused is small. Assumes nothing.
use Prim.Native.Nat.{◌*◌, ◌≤◌, ◌<◌}
use mathlib.Core.Path.{◌≡◌}
use native.Mathlib.Omega.{arith}
use lib.IntN.{ℤ, pos, nat_abs, ◌-ℤ◌, ◌*ℤ◌}
use mir.Syntax.{w64}
use mir.Val.{to_z, of_z}
use mir.Facts.{to_z-of_z}
use borrow.Author.Rules.{rules}
use Rattle.whole.specs.Whole.{Within, Between}
use Rattle.whole.proofs.Rounding.{nearest_within}
use Rattle.whole.proofs.Signed.{back, size, times, difference, within_size}
use Rattle.units.specs.Limits.{most_capacity, most_power, most_transfer}
use Rattle.score.specs.Score.{percent_output}
use Rattle.score.specs.Inner.{most_output}
use Rattle.score.proofs.by_bounds.Statement.{statement}
use Rattle.score.proofs.by_bounds.Tie as tie

-- percent output is at most 300,000 kW over 1 kW
output_within : (power transfer capacity : ℤ) → Within most_power power → Within most_transfer transfer → Between (pos 1) (pos most_capacity) capacity
    → Within most_output (percent_output power transfer capacity)
unfolding percent_output
output_within power transfer capacity p t c =
    let n = (power -ℤ transfer) *ℤ pos 100 in
    let some : 0 < nat_abs capacity = omega (arith, size capacity) in
    let w : Within most_output n = omega (arith, times 100 (power -ℤ transfer), difference power transfer) in
    let s : nat_abs n ≤ most_output = within_size w in
    let l : nat_abs n ≤ most_output * nat_abs capacity = omega arith in
    nearest_within n (nat_abs capacity) most_output some l

percent_output_requires : tie.Need-percent_output-output-requires
percent_output_requires c κs = search rules

output_is : (c : tie.After-percent_output-output) → let a = c.args in to_z w64 (of_z w64 c.percent_output-output.result) ≡ percent_output a.power.0 a.transfer.0 a.capacity.0
output_is c = back w64 c.percent_output-output.type_inv c.percent_output-output.ensures

score_of_requires : tie.Need-score_of-requires
score_of_requires c κs =
    let s = c.before in
    let a = s.args in
    let p = s.requires.0 in
    rw (output_is c, to_z-of_z s.ranges.upper, to_z-of_z s.ranges.lower)
    (output_within a.power.0 a.transfer.0 a.capacity.0 p.0 p.1.0 p.1.1, s.requires.1.1)

returns : tie.Need-returns
returns c = let b = c.before in rw (output_is b, to_z-of_z b.ranges.upper, to_z-of_z b.ranges.lower) at c.score_of.ensures

pub by_bounds_spec : {M : Type 1} → statement M
by_bounds_spec = tie.close (tie.spec percent_output_requires score_of_requires returns)
