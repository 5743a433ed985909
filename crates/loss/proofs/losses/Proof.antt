-- `loss::losses` meets its contract: each product and the sum are within the laws' bounds, and so they fit. Assumes nothing.
use mathlib.Core.Path.{◌≡◌}
use lib.IntN.{◌*ℤ◌}
use mir.Syntax.{w64}
use mir.Val.{to_z, of_z}
use mir.Facts.{to_z-of_z}
use borrow.Author.Rules.{rules}
use Rattle.whole.proofs.Signed.{signed, inside, back, within_fits}
use Rattle.loss.specs.Loss.{net, above, percent, basic_fee, excess_fee, added}
use Rattle.loss.specs.Accepted.{LossFits}
use Rattle.whole.proofs.Bounds.{to_within}
use Rattle.loss.proofs.Laws.{loss_fits, net_between, price_between, basic_product, excess_half, excess_product, basic_between, excess_between}
use Rattle.loss.proofs.losses.Statement.{statement}
use Rattle.loss.proofs.losses.Tie as tie

fits : (c : tie.Start) → LossFits c.args.charged c.args.discharged c.args.voltage c.args.cost
fits c = loss_fits _ _ _ _ c.requires

sub_at_least_zero : tie.Need-overflow_sub-charged
sub_at_least_zero c =
    let a = inside (fits c).into in
    let b = inside (fits c).out in
    omega signed

at_least_zero_requires : tie.Need-at_least_zero-net-requires
at_least_zero_requires c κs = search rules

net_is : (c : tie.After-at_least_zero-net) → to_z w64 (of_z w64 c.at_least_zero-net.result) ≡ net c.args.charged c.args.discharged
net_is c =
    let f = c.ranges in
    back w64 c.at_least_zero-net.type_inv (rw (to_z-of_z (sub_at_least_zero c.before), to_z-of_z f.charged, to_z-of_z f.discharged) at c.at_least_zero-net.ensures)

mul_at_least_zero : tie.Need-overflow_mul-net
mul_at_least_zero c = let b = net_between (fits c.before) in rw (net_is c) (omega signed)

sub_at_least_zero_2 : tie.Need-overflow_sub-net
sub_at_least_zero_2 c =
    let s = c.before in
    let a = inside (fits s).into in
    let b = net_between (fits s) in
    let n = net_is c in
    let m = mul_at_least_zero c in
    omega signed

at_least_zero_requires_2 : tie.Need-at_least_zero-above-requires
at_least_zero_requires_2 c κs = search rules

percent_requires : tie.Need-percent-requires
percent_requires c κs = search rules

above_is : (c : tie.After-at_least_zero-above) → to_z w64 (of_z w64 c.at_least_zero-above.result) ≡ above c.args.charged c.args.discharged
above_is c =
    let n = c.before in
    back w64 c.at_least_zero-above.type_inv
    (rw (to_z-of_z (sub_at_least_zero_2 n), to_z-of_z (mul_at_least_zero n), net_is n, to_z-of_z n.ranges.charged) at c.at_least_zero-above.ensures)

percent_is : (c : tie.After-percent) → to_z w64 (of_z w64 c.percent.result) ≡ percent c.args.voltage
percent_is c = back w64 c.percent.type_inv (rw (to_z-of_z c.ranges.voltage) at c.percent.ensures)

mul_price : tie.Need-overflow_mul-price
mul_price c =
    let s = c.before.before.before in
    rw (percent_is c, to_z-of_z s.ranges.cost) (within_fits w64 tt (to_within (price_between (fits s))))

price_is : (c : tie.After-percent) →
    let s = c.before.before.before in
    to_z w64 (of_z w64 (to_z w64 (of_z w64 c.percent.result) *ℤ to_z w64 (of_z w64 s.args.cost))) ≡ percent s.args.voltage *ℤ s.args.cost
price_is c = rw (to_z-of_z (mul_price c), percent_is c, to_z-of_z c.ranges.cost)

mul_nearest : tie.Need-overflow_mul-net-2
mul_nearest c = rw (net_is c.before.before, price_is c) (within_fits w64 tt (to_within (basic_product (fits c.before.before.before))))

nearest_requires : tie.Need-nearest-basic-requires
nearest_requires c κs = search rules

mul_nearest_2 : tie.Need-overflow_mul-above
mul_nearest_2 c =
    let p = c.before in
    rw (above_is p.before, price_is p) (within_fits w64 tt (to_within (excess_half (fits p.before.before.before))))

mul_nearest_3 : tie.Need-overflow_mul-above-2
mul_nearest_3 c =
    let p = c.before in
    rw (to_z-of_z (mul_nearest_2 c), above_is p.before, price_is p) (within_fits w64 tt (to_within (excess_product (fits p.before.before.before))))

nearest_requires_2 : tie.Need-nearest-excess-requires
nearest_requires_2 c κs = search rules

basic_is : (c : tie.After-nearest-basic) →
    let a = c.args in
    to_z w64 (of_z w64 c.nearest-basic.result) ≡ basic_fee a.charged a.discharged a.voltage a.cost
unfolding basic_fee
basic_is c =
    let p = c.before in
    back w64 c.nearest-basic.type_inv (rw (to_z-of_z (mul_nearest p), net_is p.before.before, price_is p) at c.nearest-basic.ensures)

excess_is : (c : tie.After-nearest-excess) →
    let a = c.args in
    to_z w64 (of_z w64 c.nearest-excess.result) ≡ excess_fee a.charged a.discharged a.voltage a.cost
unfolding excess_fee
excess_is c =
    let n = c.before in
    let p = n.before in
    back w64 c.nearest-excess.type_inv (rw (to_z-of_z (mul_nearest_3 n), to_z-of_z (mul_nearest_2 n), above_is p.before, price_is p) at c.nearest-excess.ensures)

add_t10 : tie.Need-overflow_add-result
add_t10 c =
    let f = fits c.before.before.before.before.before in
    let b = basic_between f in
    let e = excess_between f in
    let x = basic_is c.before in
    let y = excess_is c in
    omega signed

returns : tie.Need-returns
unfolding added
returns c = rw (to_z-of_z (add_t10 c), basic_is c.before, excess_is c)

pub losses_spec : {M : Type 1} → statement M
losses_spec =
    tie.close
    (tie.spec
    sub_at_least_zero
    at_least_zero_requires
    mul_at_least_zero
    sub_at_least_zero_2
    at_least_zero_requires_2
    percent_requires
    mul_price
    mul_nearest
    nearest_requires
    mul_nearest_2
    mul_nearest_3
    nearest_requires_2
    add_t10
    returns)
