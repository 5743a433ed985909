-- Each power added is small enough for the sum to fit.
use Rattle.std.proofs.Common.{◌≡◌, ℕ, ◌*◌, ◌<◌, length, get_or, pos, ◌+ℤ◌, sym, arith, rules}
use mir.Syntax.{w64}
use mir.Val.{SFits, to_z}
use mir.Facts.{to_z-of_z}
use Rattle.whole.specs.Folds.{sum_to}
use Rattle.whole.specs.Whole.{minus, Within}
use Rattle.whole.proofs.Folds.{fold_none, fold_step}
use Rattle.whole.proofs.Signed.{signed}
use Rattle.whole.proofs.Sums.{in_within, all_inside, sum_within}
use Rattle.units.specs.Limits.{most_power}
use Rattle.fees.proofs.power_sum.Goals as goal

pub loop-power-init : goal.loop-power-init
loop-power-init c = sym (fold_none (pos 0) ◌+ℤ◌ _)

pub overflow_add-sum : goal.overflow_add-sum
overflow_add-sum c =
    let powers = c.args.powers.now in
    let i = c.loop-power.power-index in
    let f : SFits w64 (get_or powers i (pos 0)) = search rules in
    let v : to_z w64 c.loop-power.sum-bits ≡ sum_to i (λ k. get_or powers k (pos 0)) = c.loop-power.invariant in
    let each : (k : ℕ) → k < length powers → Within most_power (get_or powers k (pos 0)) = λ k h. in_within (all_inside (minus most_power) (pos most_power) powers c.requires.0 k h) in
    let w : Within (most_power * i) (sum_to i (λ k. get_or powers k (pos 0))) = sum_within i (λ k. get_or powers k (pos 0)) (λ k h. each k (omega arith)) in
    let x : Within most_power (get_or powers i (pos 0)) = each i (omega arith) in
    rw (to_z-of_z f, v) (omega signed)

pub loop-power-preserved : goal.loop-power-preserved
loop-power-preserved c =
    let powers = c.args.powers.now in
    let i = c.loop-power.power-index in
    let f : SFits w64 (get_or powers i (pos 0)) = search rules in
    let v : to_z w64 c.loop-power.sum-bits ≡ sum_to i (λ k. get_or powers k (pos 0)) = c.loop-power.invariant in
    rw (to_z-of_z (overflow_add-sum c), to_z-of_z f, v) (sym (fold_step (pos 0) ◌+ℤ◌ _ _))

pub returns : goal.returns
returns c =
    let n : c.loop-power.power-index ≡ length c.args.powers.now = omega arith in
    rw n at c.loop-power.invariant
