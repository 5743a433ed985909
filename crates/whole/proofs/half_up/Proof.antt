-- `whole::half_up` meets its contract: by quotient and remainder. Assumes nothing.
use mathlib.Core.Path.{sym}
use Prim.Native.Nat.{◌<◌}
use native.Mathlib.Nat.{mod-lt}
use native.Mathlib.Omega.{arith}
use borrow.Author.Rules.{rules}
use Rattle.whole.proofs.Rounding.{half_zero, half_more, half_less, quotient_less}
use Rattle.whole.proofs.half_up.Statement.{statement}
use Rattle.whole.proofs.half_up.Tie as tie

above : (c : tie.Else-d-eq0) → 0 < c.before.args.d
above c = omega arith

returns : tie.Need-returns-then-d-eq0
returns c = sym (rw c.if-d-eq0.true (half_zero c.before.args.m))

div_q : tie.Need-nonzero_div-q
div_q c = search rules

rem_r : tie.Need-nonzero_rem-r
rem_r c = search rules

sub_if2 : tie.Need-overflow_sub-d
sub_if2 c = omega (arith, mod-lt c.before.args.m (above c))

add_result : tie.Need-overflow_add-result
add_result c =
    let a = c.before.before.args in
    omega (arith, quotient_less a.m a.d (above c.before) (omega (arith, above c.before)))

returns_2 : tie.Need-returns-then-d-r
returns_2 c = let a = c.before.before.args in sym (half_more a.m a.d (above c.before) c.if-d-r.true)

returns_3 : tie.Need-returns
returns_3 c = let a = c.before.before.args in sym (half_less a.m a.d (above c.before) c.if-d-r.false)

pub half_up_spec : {M : Type 1} → statement M
half_up_spec = tie.close (tie.spec returns div_q rem_r sub_if2 add_result returns_2 returns_3)
