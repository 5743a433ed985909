-- `score::percents` meets its contract, by the law of the inverse. Assumes nothing.
use Prim.Native.Nat.{ℕ, ◌+◌, ◌*◌, ◌/◌}
use mathlib.Core.Path.{◌≡◌, ap}
use native.Mathlib.Omega.{arith}
use borrow.Author.Rules.{rules}
use Rattle.whole.specs.Whole.{half_up}
use Rattle.score.proofs.ByInverse.{Product, inverse_product}
use Rattle.score.proofs.percents.Statement.{statement}
use Rattle.score.proofs.percents.Tie as tie

product : (c : tie.Start) → Product (c.args.reach * 200 + c.args.capacity) c.args.capacity
product c = inverse_product _ c.args.capacity (omega arith) c.requires.0.1.0 c.requires.0.1.1

mul_result : tie.Need-overflow_mul-result
mul_result c = search rules

add_result : tie.Need-overflow_add-result
add_result c = search rules

mul_result_2 : tie.Need-overflow_mul-result-2
mul_result_2 c = rw c.requires.1 (record { fits = (product c).fits })

returns : tie.Need-returns
unfolding half_up
returns c =
    let p = product c in
    let n : c.args.reach * 200 + c.args.capacity ≡ 2 * (c.args.reach * 100) + c.args.capacity = omega arith in
    rw (c.requires.1, p.by) (ap (λ (m : ℕ). m / (2 * c.args.capacity)) n, p.most)

pub percents_spec : {M : Type 1} → statement M
percents_spec = tie.close (tie.spec mul_result add_result mul_result_2 returns)
