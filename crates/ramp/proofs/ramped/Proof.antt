-- `ramp::ramped` meets its contract: n times the distance is small. Assumes nothing.
use Prim.Native.Nat.{◌*◌}
use native.Mathlib.Omega.{arith}
use lib.IntN.{pos, ◌*ℤ◌}
use mir.Syntax.{w64}
use mir.Facts.{to_z-of_z}
use borrow.Author.Rules.{rules}
use Rattle.whole.specs.Whole.{Within}
use Rattle.whole.proofs.Signed.{back, product, within_fits}
use Rattle.units.specs.Limits.{most_transfer, seconds_of_ramp}
use Rattle.ramp.proofs.ramped.Statement.{statement}
use Rattle.ramp.proofs.ramped.Tie as tie

part_within : (s : tie.Start) → Within (2 * most_transfer * seconds_of_ramp) (s.args.apart *ℤ pos s.args.n)
part_within s = let n : Within seconds_of_ramp (pos s.args.n) = omega arith in product s.requires.0 n

cast_away : tie.Need-overflow_cast-n
cast_away c = search rules

mul_away : tie.Need-overflow_mul-apart
mul_away c = rw (to_z-of_z (cast_away c), to_z-of_z c.ranges.apart) (within_fits w64 tt (part_within c))

away_requires : tie.Need-away-requires
away_requires c κs = search rules

returns : tie.Need-returns
returns c =
    let s = c.before in
    back w64 c.away.type_inv (rw (to_z-of_z (mul_away s), to_z-of_z (cast_away s), to_z-of_z s.ranges.apart) at c.away.ensures)

pub ramped_spec : {M : Type 1} → statement M
ramped_spec = tie.close (tie.spec cast_away mul_away away_requires returns)
