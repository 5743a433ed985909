-- `hour::shifted` meets its contract: the plan of five targets in their range is not refused, and the core goes over it. Assumes nothing.
use mathlib.Core.Path.{◌≡◌, refl, ap, ◌∙◌}
use mathlib.Core.List.{List}
use lib.IntN.{ℤ, pos}
use lib.ListN.{length, replicate}
use mir.Syntax.{w64}
use mir.Val.{SFits}
use mir.Facts.{to_z-of_z}
use borrow.Author.Rules.{rules}
use Rattle.units.specs.Limits.{seconds_of_hour}
use Rattle.ramp.specs.Ramp.{plan_of}
use Rattle.ramp.proofs.Laws.{plan_granted}
use Rattle.fees.proofs.Laws.{energy_within}
use Rattle.hour.specs.Hour.{edreg, energy_of}
use Rattle.hour.specs.Inner.{worked_of, worked_left}
use Rattle.hour.proofs.shifted.Statement.{statement}
use Rattle.hour.proofs.shifted.Tie as tie

slice_aggregate_plan : tie.Need-slice_bounds-plan-end-2
slice_aggregate_plan c = search rules

plan_requires : tie.Need-plan-requires
plan_requires c κs = search rules

energy_of_requires : tie.Need-energy_of-energy-requires
energy_of_requires c κs = search rules

slice_aggregate_worked : tie.Need-slice_bounds-worked-end
slice_aggregate_worked c = search rules

worked_requires : tie.Need-worked-requires
worked_requires c κs = rw c.energy_of-energy.ensures (energy_within _ _ _ _)

same_length : tie.Need-shape_of-scores
same_length c = search rules

-- the plan, and the energy service fee
planned : (c : tie.After-plan) → c.plan.new.seconds ≡ plan_of c.args.shift.targets
planned c =
    let s = c in
    let t = s.args.shift.targets in
    let five : length t ≡ 5 = search rules in
    c.plan.ensures.1 ∙ plan_granted t (replicate seconds_of_hour (pos 0)) (record { five = five; long = refl; inside = s.requires })

discharge_fits : (c : tie.After-struct_told-2-1) → SFits w64 c.args.shift.discharge
discharge_fits c = search rules

charge_fits : (c : tie.After-struct_told-2-1) → SFits w64 c.args.shift.charge
charge_fits c = search rules

returns : tie.Need-returns
returns c =
    let w = c in
    let e = w in
    let t = e in
    let p = t in
    let a = p.args in
    let energy : e.energy_of-energy.result ≡ energy_of a.powers.now (edreg a.shift) = rw (to_z-of_z (discharge_fits t.before.before.before.before.before.before.before.before), to_z-of_z (charge_fits t.before.before.before.before.before.before.before.before)) at e.energy_of-energy.ensures in (
      w.worked.ensures.0 ∙ (λ i. worked_of a.powers.now a.frequencies.now (planned p.before.before.before.before.before.before.before.before.before.before.before i) a.terms a.reference a.thresholds.now a.factors.now a.earlier.now (energy i) (length a.scores.now)),
      w.worked.ensures.1 ∙ ap (λ (plan : List ℤ). worked_left a.powers.now a.frequencies.now plan a.terms.capacity a.reference a.earlier.now a.scores.now) (planned p.before.before.before.before.before.before.before.before.before.before.before),
    )

pub shifted_spec : {M : Type 1} → statement M
shifted_spec =
    tie.close
    (tie.spec
    slice_aggregate_plan
    plan_requires
    energy_of_requires
    slice_aggregate_worked
    worked_requires
    same_length
    returns)
