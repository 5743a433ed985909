-- Document 01, "Loss fee": energy is kWh, voltage volts, and the average cost ten-thousandths of a dollar.
use Rattle.std.specs.Prelude.{ℕ, ◌*◌, ◌&&◌, [], ◌∷◌, Result, ℤ, pos, ◌+ℤ◌, ◌-ℤ◌, ◌*ℤ◌}
use Rattle.std.specs.Int.Signed.{lt_z}
use Rattle.whole.specs.Choice.{pick, in_order}
use Rattle.whole.specs.Whole.{nearest}
use Rattle.units.specs.Refusals.{bad_money, bad_energy, result_by}
use Rattle.units.specs.declared.refusal.Refusal.{Refusal}
use Rattle.units.specs.Limits.{is_energy, is_voltage, is_cost}
use Rattle.units.specs.Units.{dollars}
use Rattle.loss.specs.declared.LossFee.{LossFee}

-- "at least 0"
unfoldable pub at_least_zero : ℤ → ℤ
at_least_zero z = pick (lt_z z (pos 0)) (pos 0) z

-- "net is charged less discharged kWh, at least 0"
abbrev pub net : ℤ → ℤ → ℤ
net charged discharged = at_least_zero (charged -ℤ discharged)

-- "the part of net above a fifth of the charge", in fifths of a kWh
abbrev pub above : ℤ → ℤ → ℤ
above charged discharged = at_least_zero (net charged discharged *ℤ pos 5 -ℤ charged)

-- the factor in percent: "below 11.4 kV 1.08; from 11.4 kV to below 69 kV 1.05; 69 kV and up 1.04"
unfoldable pub percent : ℤ → ℤ
percent voltage = pick (lt_z voltage (pos 11400)) (pos 108) (pick (lt_z voltage (pos 69000)) (pos 105) (pos 104))

-- "Basic is net x factor x average cost": over 100 percent and 10,000 ten-thousandths
unfoldable pub basic_fee : ℤ → ℤ → ℤ → ℤ → ℤ
basic_fee charged discharged voltage cost = nearest (net charged discharged *ℤ (percent voltage *ℤ cost)) (100 * 10000)

-- "excess is the part of net above a fifth of the charge, x factor x cost x 2": over 5 fifths besides
unfoldable pub excess_fee : ℤ → ℤ → ℤ → ℤ → ℤ
excess_fee charged discharged voltage cost =
    nearest (above charged discharged *ℤ (percent voltage *ℤ cost) *ℤ pos 2) (5 * 100 * 10000)

-- 15, 3
unfoldable pub loss_refusal : ℤ → ℤ → ℤ → ℤ → ℕ
loss_refusal charged discharged voltage cost =
    in_order ((is_energy charged && is_energy discharged && is_voltage voltage, bad_energy) ∷ (is_cost cost, bad_money) ∷ [])

-- "Each is rounded to the nearest dollar and they are added"
unfoldable pub added : ℤ → ℤ → LossFee
added basic excess = record { basic = dollars basic; excess = dollars excess; total = dollars (basic +ℤ excess) }

unfoldable pub loss_answer : ℤ → ℤ → ℤ → ℤ → Result LossFee Refusal
loss_answer charged discharged voltage cost =
    result_by (loss_refusal charged discharged voltage cost) (added (basic_fee charged discharged voltage cost) (excess_fee charged discharged voltage cost))
