-- `pair::half_up` meets its contract: half of the divisor is added, and what is dropped is dropped. Assumes nothing.
use Prim.Native.Nat.{ℕ, ◌+◌, ◌-◌, ◌/◌, ◌^◌, ◌<◌}
use native.Mathlib.Omega.{arith}
use mathlib.Core.Path.{ap, ◌∙◌}
use lib.Pow.{pow-lt}
use borrow.Author.Rules.{rules}
use Rattle.pair.proofs.Singles.{shifted, half_places}
use Rattle.pair.proofs.half_up.Statement.{statement}
use Rattle.pair.proofs.half_up.Tie as tie

sub_result : tie.Need-overflow_sub-result
sub_result c = search rules

cast_result : tie.Need-overflow_cast-result
cast_result c = search rules

shl_result : tie.Need-overflow_shl-result
shl_result c = search rules

add_result : tie.Need-overflow_add-result
add_result c =
    let l : 2 ^ (c.args.places - 1) < 2 ^ 62 = pow-lt {i = c.args.places - 1} {j = 62} (omega arith) in
    omega (arith, shifted (c.args.places - 1) (omega arith))

shr_result : tie.Need-overflow_shr-result
shr_result c = search rules

returns : tie.Need-returns
returns c =
    let a = c.args in
    ap (λ (half : ℕ). (a.n + half) / 2 ^ a.places) (shifted (a.places - 1) (omega arith)) ∙ half_places a.n a.places c.requires.1.0

pub half_up_spec : {M : Type 1} → statement M
half_up_spec = tie.close (tie.spec sub_result cast_result shl_result add_result shr_result returns)
