-- `fees::energy_fee` meets its contract: that of `energy_exact`, rounded. Assumes nothing.
use mathlib.Core.Path.{◌≡◌, sym, ap, ◌∙◌}
use lib.IntN.{ℤ}
use mir.Syntax.{w64}
use mir.Val.{SFits}
use mir.Facts.{to_z-of_z}
use borrow.Author.Rules.{rules}
use Rattle.whole.proofs.Choice.{kept_old}
use Rattle.whole.proofs.Signed.{back}
use Rattle.fees.specs.Fees.{charge_of, no_charge, energy_fee, energy_refusal, energy_answer, energy_exact}
use Rattle.fees.specs.declared.Exact.{Exact}
use Rattle.fees.proofs.Laws.{energy_fits, energy_granted, exact_refusal, exact_granted}
use Rattle.fees.specs.Accepted.{EnergyFits}
use Rattle.fees.proofs.energy_fee.Statement.{statement}
use Rattle.fees.proofs.energy_fee.Tie as tie

energy_exact_requires : tie.Need-energy_exact-exact-requires
energy_exact_requires c κs = search rules

exact_is : (c : tie.After-energy_exact-exact) →
    let a = c.args in
    c.energy_exact-exact.result ≡ energy_exact a.powers.now a.targets.now a.discharge a.charge
exact_is c =
    let f = c.ranges in
    rw (to_z-of_z f.discharge, to_z-of_z f.charge) at c.energy_exact-exact.ensures

-- what the tests found
found : (c : tie.After-energy_exact-exact) →
    let a = c.args in
    c.energy_exact-exact.result.refusal ≡ energy_refusal a.powers.now a.targets.now a.discharge a.charge
found c = ap (λ (x : Exact). x.refusal) (exact_is c) ∙ exact_refusal _ _ _ _

fits : (c : tie.Then-k-eq0) → let a = c.args in EnergyFits a.powers.now a.targets.now a.discharge a.charge
fits c = energy_fits _ _ _ _ (sym (found c.before.before) ∙ c.if-k-eq0.true)

parts_fit : (c : tie.After-struct_told-1) → SFits w64 c.energy_exact-exact.result.parts
parts_fit c = search rules

nearest_requires : tie.Need-nearest-requires
nearest_requires c κs = search rules

returns : tie.Need-returns-then-k-eq0
unfolding charge_of energy_fee
returns c =
    let t = c.before in
    let e = t.before.before in
    let parts = ap (λ (x : Exact). x.parts) (exact_is e ∙ exact_granted (fits t)) in
    let n = back w64 c.nearest.type_inv (rw (to_z-of_z (parts_fit t.before), parts) at c.nearest.ensures) in
    ap (λ (z : ℤ). charge_of z) n ∙ sym (energy_granted (fits t))

no_charge_requires : tie.Need-no_charge-requires
no_charge_requires c κs = search rules

returns_2 : tie.Need-returns
unfolding energy_answer
returns_2 c =
    let e = found c.before.before.before in
    c.no_charge.ensures ∙ ap no_charge e ∙ sym (kept_old _ (no_charge _) (λ z. c.if-k-eq0.false (e ∙ z)))

pub energy_fee_spec : {M : Type 1} → statement M
energy_fee_spec =
    tie.close
    (tie.spec energy_exact_requires nearest_requires returns no_charge_requires returns_2)
