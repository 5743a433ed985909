-- `fees::fee` meets its contract: its tests are the definition's, and where they pass the product fits. Assumes nothing.
use mathlib.Core.Path.{◌≡◌, sym, ap, ◌∙◌}
use lib.IntN.{ℤ}
use mir.Syntax.{w64}
use mir.Val.{SFits}
use mir.Facts.{to_z-of_z}
use borrow.Author.Rules.{rules}
use Rattle.whole.proofs.Choice.{kept_old}
use Rattle.whole.proofs.Signed.{back, within_fits}
use Rattle.fees.specs.Fees.{charge_of, no_charge, charge_refusal, fee_answer}
use Rattle.fees.specs.Fees.{fee as feeFormula}
use Rattle.whole.proofs.Bounds.{to_within}
use Rattle.fees.proofs.Laws.{fee_fits, fee_product, fee_granted}
use Rattle.fees.specs.Accepted.{FeeFits}
use Rattle.fees.proofs.fee.Statement.{statement}
use Rattle.fees.proofs.fee.Tie as tie

is_price_requires : tie.Need-is_price-requires
is_price_requires c κs = search rules

unless_requires : tie.Need-unless-money-requires
unless_requires c κs = search rules

within_requires : tie.Need-within-requires
within_requires c κs = search rules

unless_requires_2 : tie.Need-unless-k-requires
unless_requires_2 c κs = search rules

size_fits : (c : tie.After-struct_told-1) → SFits w64 c.args.capacity.0
size_fits c = search rules

-- what the tests found
found : (c : tie.After-unless-k) →
    let s = c.before.before.before.before in
    c.unless-k.result ≡ charge_refusal s.args.price s.args.capacity
unfolding charge_refusal
found c =
    let s = c.before.before.before.before in
    let m = c.before.before in
    simp (c.within.ensures, m.unless-money.ensures, m.is_price.ensures, to_z-of_z s.ranges.price, to_z-of_z (size_fits s)) at c.unless-k.ensures

fits : (c : tie.Then-k-eq0) → let s = c.before.before.before.before.before.before in FeeFits s.args.price s.args.capacity
fits c = fee_fits _ _ (sym (found c.before) ∙ c.if-k-eq0.true)

mul_nearest : tie.Need-overflow_mul-price
mul_nearest c =
    let s = c.before.before.before.before.before in
    rw (to_z-of_z s.ranges.price, to_z-of_z (size_fits s)) (within_fits w64 tt (to_within (fee_product (fits c))))

nearest_requires : tie.Need-nearest-requires
nearest_requires c κs = search rules

returns : tie.Need-returns-then-k-eq0
unfolding charge_of feeFormula
returns c =
    let t = c.before in
    let s = t.before.before.before.before.before in
    let n = back w64 c.nearest.type_inv (rw (to_z-of_z (mul_nearest t), to_z-of_z s.ranges.price, to_z-of_z (size_fits s)) at c.nearest.ensures) in
    ap (λ (z : ℤ). charge_of z) n ∙ sym (fee_granted (fits t))

no_charge_requires : tie.Need-no_charge-requires
no_charge_requires c κs = search rules

returns_2 : tie.Need-returns
unfolding fee_answer
returns_2 c =
    let e = found c.before.before in
    c.no_charge.ensures ∙ ap no_charge e ∙ sym (kept_old _ (no_charge _) (λ z. c.if-k-eq0.false (e ∙ z)))

pub fee_spec : {M : Type 1} → statement M
fee_spec =
    tie.close
    (tie.spec
    is_price_requires
    unless_requires
    within_requires
    unless_requires_2
    mul_nearest
    nearest_requires
    returns
    no_charge_requires
    returns_2)
