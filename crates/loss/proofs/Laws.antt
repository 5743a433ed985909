-- The loss fee: how large each part is, that a granted answer is the paper's formula, and that the ledger takes each part. By the
-- ranges that a granted call has tested. Assumes nothing.
use Prim.Native.Nat.{ℕ, ◌+◌, ◌*◌, ◌/◌, ◌≤◌}
use mathlib.Core.Path.{◌≡◌, refl, sym, ap, ◌∙◌}
use mathlib.Core.Bool.{Bool, true, false, ◌&&◌}
use mathlib.Core.List.{[], ◌∷◌}
use native.Mathlib.Omega.{arith}
use lib.IntN.{ℤ, pos, ◌-ℤ◌, ◌*ℤ◌}
use lib.Signed.{lt_z}
use Rattle.whole.specs.Choice.{pick}
use Rattle.whole.specs.Whole.{up, down, Between}
use Rattle.whole.proofs.Choice.{and_both, all_passed}
use Rattle.units.proofs.Numbered.{let_through, answer_is, answered_ok}
use Rattle.whole.proofs.Signed.{inside, difference, times, lt_z_false}
use Rattle.units.specs.Refusals.{bad_money, bad_energy}
use Rattle.units.specs.Limits.{is_energy, is_voltage, is_cost, is_loss_fee, most_energy, most_cost, most_loss_fee}
use Rattle.loss.specs.Loss.{at_least_zero, net, above, percent, basic_fee, excess_fee, loss_refusal, added, loss_answer}
use Rattle.std.specs.Prelude.{Ok}
use Rattle.loss.specs.declared.LossFee.{LossFee}
use Rattle.loss.specs.Accepted.{LossFits}
use Rattle.whole.proofs.Bounds.{in_range_lem, product_between, nearest_between}

pub loss_fits : (charged discharged voltage cost : ℤ) → loss_refusal charged discharged voltage cost ≡ 0 → LossFits charged discharged voltage cost
unfolding loss_refusal
loss_fits charged discharged voltage cost e =
    let p = all_passed ((is_energy charged && is_energy discharged && is_voltage voltage, bad_energy) ∷ (is_cost cost, bad_money) ∷ []) refl e in
    let b = and_both (is_energy charged && is_energy discharged) (is_voltage voltage) p.0 in
    let c = and_both (is_energy charged) (is_energy discharged) b.0 in
    record { into = c.0; out = c.1; volts = b.1; money = p.1.0 }

pub loss_passes : {charged discharged voltage cost : ℤ} → LossFits charged discharged voltage cost → loss_refusal charged discharged voltage cost ≡ 0
unfolding loss_refusal
loss_passes f = rw (f.into, f.out, f.volts, f.money)

-- no part is larger: the most energy by the largest factor and the most cost; and for the excess four fifths of it, twice
abbrev pub most_basic : ℕ
most_basic = most_energy * (108 * most_cost) / (100 * 10000)

abbrev pub most_excess : ℕ
most_excess = 4 * most_energy * (108 * most_cost) * 2 / (5 * 100 * 10000)

-- no larger than what is not negative and not less
zero_between : (z w : ℤ) → up z + down w ≤ up w + down z → down w ≤ up w → Between (pos 0) w (at_least_zero z)
unfolding at_least_zero
zero_between z w h n = by (lt_z z (pos 0)) (lt_z_false z (pos 0))
  where
    by : (b : Bool) → (b ≡ false → up (pos 0) + down z ≤ up z + down (pos 0)) → Between (pos 0) w (pick b (pos 0) z)
    by true g = omega arith
    by false g = let k = g refl in omega arith

percent_between : (voltage : ℤ) → Between (pos 0) (pos 108) (percent voltage)
unfolding percent
percent_between voltage = by (lt_z voltage (pos 11400)) (lt_z voltage (pos 69000))
  where
    by : (a b : Bool) → Between (pos 0) (pos 108) (pick a (pos 108) (pick b (pos 105) (pos 104)))
    by true b = omega arith
    by false true = omega arith
    by false false = omega arith

module _ {charged discharged voltage cost : ℤ} (f : LossFits charged discharged voltage cost) where
  -- no more net than was charged
  net_charged : Between (pos 0) charged (net charged discharged)
  net_charged =
      let c = inside f.into in
      let d = inside f.out in
      zero_between (charged -ℤ discharged) charged (omega (arith, difference charged discharged)) (omega arith)

  -- 10^8 kWh, and 4 x 10^8 fifths
  pub net_between : Between (pos 0) (pos most_energy) (net charged discharged)
  net_between =
      let c = inside f.into in
      let n = net_charged in
      omega arith

  pub above_between : Between (pos 0) (pos (4 * most_energy)) (above charged discharged)
  above_between =
      let c = inside f.into in
      let n = net_charged in
      let five = net charged discharged *ℤ pos 5 in
      zero_between (five -ℤ charged) (pos (4 * most_energy)) (omega (arith, difference five charged, times 5 (net charged discharged))) (omega arith)

  -- the cost by the factor at most 1.08 x 10^8
  pub price_between : Between (pos 0) (pos (108 * most_cost)) (percent voltage *ℤ cost)
  price_between = product_between (percent voltage) cost (percent_between voltage) (inside f.money)

  -- 1.08 x 10^16, 4.32 x 10^16 and 8.64 x 10^16
  pub basic_product : Between (pos 0) (pos (most_energy * (108 * most_cost))) (net charged discharged *ℤ (percent voltage *ℤ cost))
  basic_product = product_between _ _ net_between price_between

  pub excess_half : Between (pos 0) (pos (4 * most_energy * (108 * most_cost))) (above charged discharged *ℤ (percent voltage *ℤ cost))
  excess_half = product_between _ _ above_between price_between

  pub excess_product : Between (pos 0) (pos (4 * most_energy * (108 * most_cost) * 2)) (above charged discharged *ℤ (percent voltage *ℤ cost) *ℤ pos 2)
  excess_product = product_between {b = 2} _ (pos 2) excess_half (omega arith)

  pub basic_between : Between (pos 0) (pos most_basic) (basic_fee charged discharged voltage cost)
  unfolding basic_fee
  basic_between = nearest_between _ (100 * 10000) most_basic (omega arith) basic_product

  pub excess_between : Between (pos 0) (pos most_excess) (excess_fee charged discharged voltage cost)
  unfolding excess_fee
  excess_between = nearest_between _ (5 * 100 * 10000) most_excess (omega arith) excess_product

  pub loss_granted : loss_answer charged discharged voltage cost ≡ Ok (added (basic_fee charged discharged voltage cost) (excess_fee charged discharged voltage cost))
  unfolding loss_answer
  loss_granted = answered_ok _ (loss_passes f)

-- the ledger's range of a loss fee holds each part of every answer (document 02, #101)
pub loss_posts : (charged discharged voltage cost : ℤ) (l : LossFee) → loss_answer charged discharged voltage cost ≡ Ok l →
    (is_loss_fee l.basic.0 ≡ true) × (is_loss_fee l.excess.0 ≡ true)
unfolding loss_answer added
loss_posts charged discharged voltage cost l e =
    let f = loss_fits charged discharged voltage cost (let_through _ _ e) in
    let a = answer_is (loss_refusal charged discharged voltage cost) _ e in (
      ap (λ (l : LossFee). is_loss_fee l.basic.0) (sym a) ∙ posts most_basic (basic_fee charged discharged voltage cost) (omega arith) (basic_between f),
      ap (λ (l : LossFee). is_loss_fee l.excess.0) (sym a) ∙ posts most_excess (excess_fee charged discharged voltage cost) (omega arith) (excess_between f),
    )
  where
    posts : (k : ℕ) (z : ℤ) → k ≤ most_loss_fee → Between (pos 0) (pos k) z → is_loss_fee z ≡ true
    posts k z l b = in_range_lem (record { least = b.least; most = omega (arith, b.most) })
