-- Fit inputs are never turned away: an answer that meets a public function's contract has number 0 there, and is the paper's formula. Stated over the
-- contracts as the toolchain reads them; by each definition's own law. Assumes nothing.
use mathlib.Core.Path.{◌≡◌, ◌∙◌}
use mathlib.Core.List.{List}
use lib.IntN.{ℤ}
use contract.Lifetimes.{Lfts}
use borrow.Fn.Kinds.{ended_of}
use denote.Ref.{Bor}
use denote.Triple.Clauses.{AtExit}
use Rattle.units.specs.declared.Kilowatts.{Kilowatts}
use Rattle.units.specs.declared.Dollars.{Dollars}
use Rattle.fees.specs.declared.Charged.{Charged}
use Rattle.fees.specs.declared.Exact.{Exact}
use Rattle.fees.specs.Fees.{charge_of, fee, quality_part, energy_fee, energy_parts}
use Rattle.fees.proofs.Laws.{fee_granted, quality_granted, energy_granted, exact_granted}
use Rattle.fees.specs.Accepted.{FeeFits, QualityFits, EnergyFits}
use Rattle.fees.proofs.fee.Reads as fee_reads
use Rattle.fees.proofs.fee.Kinds as fee_kinds
use Rattle.fees.proofs.quality_part.Reads as quality_reads
use Rattle.fees.proofs.quality_part.Kinds as quality_kinds
use Rattle.fees.proofs.energy_fee.Reads as energy_reads
use Rattle.fees.proofs.energy_fee.Kinds as energy_kinds
use Rattle.fees.proofs.energy_exact.Reads as exact_reads
use Rattle.fees.proofs.energy_exact.Kinds as exact_kinds

pub fee_accepted : (κs : Lfts 0) (price : ℤ) (capacity : Kilowatts) (x : Charged) (s : AtExit (ended_of 0 fee_kinds.ps fee_kinds.r) κs)
    → fee_reads.Post κs (price, (capacity, tt)) x s → FeeFits price capacity → x ≡ charge_of (fee price capacity.0)
fee_accepted κs price capacity x s p f = p ∙ fee_granted f

pub quality_accepted : (κs : Lfts 0) (capacity performance : Dollars) (factor : ℤ) (x : Charged) (s : AtExit (ended_of 0 quality_kinds.ps quality_kinds.r) κs)
    → quality_reads.Post κs (capacity, (performance, (factor, tt))) x s → QualityFits capacity performance factor
    → x ≡ charge_of (quality_part capacity.0 performance.0 factor)
quality_accepted κs capacity performance factor x s p f = p ∙ quality_granted f

pub energy_accepted : (κs : Lfts 2) (powers targets : Bor (List ℤ)) (discharge charge : ℤ) (x : Charged) (s : AtExit (ended_of 2 energy_kinds.ps energy_kinds.r) κs)
    → energy_reads.Post κs (powers, (targets, (discharge, (charge, tt)))) x s → EnergyFits powers.now targets.now discharge charge
    → x ≡ charge_of (energy_fee powers.now targets.now discharge charge)
energy_accepted κs powers targets discharge charge x s p f = p ∙ energy_granted f

pub exact_accepted : (κs : Lfts 2) (powers targets : Bor (List ℤ)) (discharge charge : ℤ) (x : Exact) (s : AtExit (ended_of 2 exact_kinds.ps exact_kinds.r) κs)
    → exact_reads.Post κs (powers, (targets, (discharge, (charge, tt)))) x s → EnergyFits powers.now targets.now discharge charge
    → x ≡ record { refusal = 0; parts = energy_parts powers.now targets.now discharge charge }
exact_accepted κs powers targets discharge charge x s p f = p ∙ exact_granted f
