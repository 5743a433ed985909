-- `whole::with_sign` meets its contract: by the sign. Assumes nothing.
use mathlib.Core.Path.{sym, ap, ◌∙◌}
use lib.IntN.{pos}
use mir.Syntax.{w64}
use mir.Val.{SFits}
use mir.Facts.{to_z-of_z}
use borrow.Author.Rules.{rules}
use Rattle.whole.specs.Whole.{minus}
use Rattle.whole.proofs.Signed.{signed, opposite, range, bits_pos}
use Rattle.whole.proofs.Rounding.{sign_up, sign_down}
use Rattle.whole.proofs.with_sign.Statement.{statement}
use Rattle.whole.proofs.with_sign.Tie as tie

-- below zero -m fits, and else m
down_fits : (c : tie.Then-x-lt0) → SFits w64 (minus c.before.args.m)
down_fits c = rw (sign_down c.before.args.x c.before.args.m (omega signed)) at c.before.requires

returns : tie.Need-returns-then-m-eq0
returns c =
    let t = c.before in
    let a = t.before.args in
    sym (sign_down a.x a.m (omega signed) ∙ ap minus c.if-m-eq0.true)

sub_v : tie.Need-overflow_sub-v
sub_v c = search rules

cast_v : tie.Need-overflow_cast-v
cast_v c = let t = c.before in omega (signed, range (down_fits t), opposite (pos t.before.args.m))

sub_result : tie.Need-overflow_sub-result
sub_result c =
    let t = c.before in
    omega (signed, bits_pos (cast_v c), range (down_fits t), opposite (pos t.before.args.m))

returns_2 : tie.Need-returns-then-x-lt0
returns_2 c =
    let a = c.before.before.args in
    let s = sub_result c in
    rw (sign_down a.x a.m (omega signed)) (omega (signed, bits_pos (cast_v c), opposite (pos a.m)))

cast_result : tie.Need-overflow_cast-result
cast_result c = rw (sign_up c.before.args.x c.before.args.m (omega signed)) at c.before.requires

returns_3 : tie.Need-returns
returns_3 c = rw (sign_up c.before.args.x c.before.args.m (omega signed)) (to_z-of_z (cast_result c))

pub with_sign_spec : {M : Type 1} → statement M
with_sign_spec = tie.close (tie.spec returns sub_v cast_v sub_result returns_2 cast_result returns_3)
