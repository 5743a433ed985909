-- `whole::away` meets its contract: the rounded size is no larger, and so it fits with the sign of n. Assumes nothing.
use native.Mathlib.Omega.{arith}
use mir.Syntax.{w64}
use mir.Facts.{to_z-of_z}
use borrow.Author.Rules.{rules}
use Rattle.whole.specs.Whole.{away}
use Rattle.whole.proofs.Signed.{back}
use Rattle.whole.proofs.Rounding.{up_le, sign_fits}
use Rattle.whole.proofs.away.Statement.{statement}
use Rattle.whole.proofs.away.Tie as tie

size_requires : tie.Need-size-requires
size_requires c κs = search rules

size_requires_2 : tie.Need-size-requires-2
size_requires_2 c κs = search rules

round_up_requires : tie.Need-round_up-requires
round_up_requires c κs = search rules

with_sign_requires : tie.Need-with_sign-requires
with_sign_requires c κs =
    let k = c.before.before in
    let f = k.before.ranges.n in
    sign_fits _ _ (rw (to_z-of_z f) f) (omega (arith, up_le k.size.result c.before.size-2.result))

returns : tie.Need-returns
unfolding away
returns c =
    let k = c.before in
    let z = k.before.before in
    let f = z.before.ranges in
    back w64 c.with_sign.type_inv
    (rw (k.round_up.ensures, z.size.ensures, k.before.size-2.ensures, to_z-of_z f.n, to_z-of_z f.d) at c.with_sign.ensures)

pub away_spec : {M : Type 1} → statement M
away_spec = tie.close (tie.spec size_requires size_requires_2 round_up_requires with_sign_requires returns)
