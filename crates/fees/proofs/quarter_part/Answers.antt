-- `fees::quarter_part` meets its contract: the quarter's sum is taken, and with the price it is small enough.
use mathlib.Core.Path.{◌≡◌}
use Prim.Native.Nat.{◌+◌, ◌*◌, ◌-◌}
use native.Mathlib.Omega.{arith}
use lib.IntN.{pos}
use lib.ListN.{get_or}
use mir.Syntax.{w64}
use mir.Val.{SFits, to_z, of_z}
use mir.Facts.{to_z-of_z}
use borrow.Author.Rules.{rules}
use Rattle.whole.specs.Folds.{sum_of}
use Rattle.whole.proofs.Signed.{back, within_fits}
use Rattle.units.specs.Limits.{seconds_of_quarter}
use Rattle.fees.specs.Fees.{signed_price, quarter_powers, quarter_part}
use Rattle.fees.proofs.Laws.{energy_fits, quarter_length, quarter_powers_lem, part_within}
use Rattle.fees.specs.Accepted.{EnergyFits}
use Rattle.fees.proofs.quarter_part.Goals as goal

fits : (c : goal.Start) → EnergyFits c.args.powers.now c.args.targets.now c.args.discharge c.args.charge
fits c = energy_fits _ _ _ _ c.requires.0

pub bounds-targets-q : goal.bounds-targets-q
bounds-targets-q c = let n = (fits c).quarters in omega arith

pub signed_price-price-requires : goal.signed_price-price-requires
signed_price-price-requires c =
    let f = c.ranges in
    rw (to_z-of_z f.discharge, to_z-of_z f.charge) ((fits c.before).discharging, (fits c.before).charging)

pub slice_bounds-power_sum-end : goal.slice_bounds-power_sum-end
slice_bounds-power_sum-end c = let n = (fits c.before.before).seconds in search rules

pub power_sum-requires : goal.power_sum-requires
power_sum-requires c =
    let s = c.before.before.before in
    let q = s.args.q in
    let n : q * seconds_of_quarter + seconds_of_quarter - q * seconds_of_quarter ≡ seconds_of_quarter = omega arith in
    rw n (quarter_powers_lem (fits s) q s.requires.1, omega (arith, quarter_length (fits s) q s.requires.1))

sum_is : (c : goal.After-power_sum) →
    let a = c.args in
    to_z w64 (of_z w64 c.power_sum.result) ≡ sum_of (quarter_powers a.powers.now a.q)
sum_is c =
    let q = c.args.q in
    let n : q * seconds_of_quarter + seconds_of_quarter - q * seconds_of_quarter ≡ seconds_of_quarter = omega arith in
    back w64 c.power_sum.type_inv (rw n at c.power_sum.ensures)

price_is : (c : goal.After-signed_price-price) →
    let a = c.args in
    to_z w64 (of_z w64 c.signed_price-price.result) ≡ signed_price a.discharge a.charge (get_or a.targets.now a.q (pos 0))
price_is c =
    let f = c.ranges in
    let t : SFits w64 (get_or c.args.targets.now c.args.q (pos 0)) = search rules in
    back w64 c.signed_price-price.type_inv (rw (to_z-of_z f.discharge, to_z-of_z f.charge, to_z-of_z t) at c.signed_price-price.ensures)

pub overflow_mul-result : goal.overflow_mul-result
unfolding quarter_part
overflow_mul-result c =
    let s = c.before.before.before.before in
    rw (sum_is c, price_is c.before.before) (within_fits w64 tt (part_within (fits s) s.args.q s.requires.1))

pub returns : goal.returns
unfolding quarter_part
returns c = rw (to_z-of_z (overflow_mul-result c), sum_is c, price_is c.before.before)
