-- Demand 1: a refusal of a public function's contract gives its number only, and 0 in every other field; the runs are lent to be read. By what a
-- refusal keeps. Assumes nothing.
use Prim.Native.Nat.{ℕ}
use mathlib.Core.Path.{◌≡◌, refl}
use lib.IntN.{ℤ}
use Rattle.whole.specs.Refused.{RefusedBare}
use Rattle.whole.proofs.Refused.{refused_bare}
use Rattle.fees.specs.declared.Charged.{Charged}
use Rattle.fees.specs.declared.Exact.{Exact}
use Rattle.fees.specs.Fees.{charge_of, no_charge, charge_by, fee, charge_refusal, fee_answer, quality_part, quality_refusal, quality_answer, energy_fee, energy_refusal, energy_answer, no_parts, energy_exact}
use Rattle.fees.proofs.fee.Reads as fee_reads
use Rattle.fees.proofs.fee.Kinds as fee_kinds
use Rattle.fees.proofs.quality_part.Reads as quality_reads
use Rattle.fees.proofs.quality_part.Kinds as quality_kinds
use Rattle.fees.proofs.energy_fee.Reads as energy_reads
use Rattle.fees.proofs.energy_fee.Kinds as energy_kinds
use Rattle.fees.proofs.energy_exact.Reads as exact_reads
use Rattle.fees.proofs.energy_exact.Kinds as exact_kinds

charged_bare : (k : ℕ) (amount : ℤ) (x : Charged) → x ≡ charge_by k amount → (x.refusal ≡ 0 → ⊥) → x ≡ no_charge x.refusal
unfolding charge_of no_charge
charged_bare k amount x = refused_bare (λ (c : Charged). c.refusal) no_charge k (charge_of amount) refl refl

fee_refused_keeps : RefusedBare 0 fee_kinds.ps fee_kinds.r (λ κs x. x.refusal) (λ κs a. no_charge) fee_reads.Post
unfolding fee_answer
fee_refused_keeps κs (price, (capacity, end)) x s = charged_bare (charge_refusal price capacity) (fee price capacity.0) x

quality_part_refused_keeps : RefusedBare 0 quality_kinds.ps quality_kinds.r (λ κs x. x.refusal) (λ κs a. no_charge) quality_reads.Post
unfolding quality_answer
quality_part_refused_keeps κs (capacity, (performance, (factor, end))) x s =
    charged_bare (quality_refusal capacity performance factor) (quality_part capacity.0 performance.0 factor) x

energy_fee_refused_keeps : RefusedBare 2 energy_kinds.ps energy_kinds.r (λ κs x. x.refusal) (λ κs a. no_charge) energy_reads.Post
unfolding energy_answer
energy_fee_refused_keeps κs (powers, (targets, (discharge, (charge, end)))) x s =
    charged_bare (energy_refusal powers.now targets.now discharge charge) (energy_fee powers.now targets.now discharge charge) x

energy_exact_refused_keeps : RefusedBare 2 exact_kinds.ps exact_kinds.r (λ κs x. x.refusal) (λ κs a. no_parts) exact_reads.Post
unfolding energy_exact
energy_exact_refused_keeps κs (powers, (targets, (discharge, (charge, end)))) x s =
    refused_bare (λ (e : Exact). e.refusal) no_parts (energy_refusal powers.now targets.now discharge charge) _ refl refl
