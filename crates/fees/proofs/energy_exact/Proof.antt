-- `fees::energy_exact` meets its contract, by that of `four_quarters` where nothing is refused. Assumes nothing.
use Prim.Native.Nat.{ℕ}
use mathlib.Core.Path.{◌≡◌, sym, ap, ◌∙◌}
use lib.IntN.{ℤ, pos}
use mir.Syntax.{w64}
use mir.Facts.{to_z-of_z}
use borrow.Author.Rules.{rules}
use Rattle.whole.proofs.Choice.{kept_old}
use Rattle.whole.proofs.Signed.{back}
use Rattle.fees.specs.Fees.{energy_refusal, energy_exact}
use Rattle.fees.specs.declared.Exact.{Exact}
use Rattle.fees.proofs.Laws.{energy_fits, exact_granted}
use Rattle.fees.proofs.energy_exact.Statement.{statement}
use Rattle.fees.proofs.energy_exact.Tie as tie

abbrev exact : ℕ → ℤ → Exact
exact k parts = record { refusal = k; parts = parts }

energy_refusal_requires : tie.Need-energy_refusal-k-requires
energy_refusal_requires c κs = search rules

-- what the tests found
found : (c : tie.After-energy_refusal-k) →
    let a = c.args in
    c.energy_refusal-k.result ≡ energy_refusal a.powers.now a.targets.now a.discharge a.charge
found c =
    let f = c.ranges in
    rw (to_z-of_z f.discharge, to_z-of_z f.charge) at c.energy_refusal-k.ensures

four_quarters_requires : tie.Need-four_quarters-requires
four_quarters_requires c κs =
    let f = c.ranges in
    rw (to_z-of_z f.discharge, to_z-of_z f.charge) (sym (found c.before) ∙ c.if-k-eq0.true)

returns : tie.Need-returns-then-k-eq0
returns c =
    let t = c.before in
    let f = t.ranges in
    let n = back w64 c.four_quarters.type_inv (rw (to_z-of_z f.discharge, to_z-of_z f.charge) at c.four_quarters.ensures) in
    ap (exact 0) n ∙ sym (exact_granted (energy_fits _ _ _ _ (sym (found t.before) ∙ t.if-k-eq0.true)))

returns_2 : tie.Need-returns
unfolding energy_exact
returns_2 c =
    let e = found c.before in
    ap (λ (k : ℕ). exact k (pos 0)) e ∙ sym (kept_old _ _ (λ z. c.if-k-eq0.false (e ∙ z)))

pub energy_exact_spec : {M : Type 1} → statement M
energy_exact_spec = tie.close (tie.spec energy_refusal_requires four_quarters_requires returns returns_2)
