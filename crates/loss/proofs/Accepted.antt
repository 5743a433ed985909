-- A loss fee whose inputs fit is never turned away, and is the paper's formula. Stated over the contract as the toolchain reads it; by the definition's own
-- law. Assumes nothing.
use mathlib.Core.Path.{◌≡◌, ◌∙◌}
use contract.Lifetimes.{Lfts}
use borrow.Fn.Kinds.{ended_of}
use denote.Triple.Clauses.{AtExit}
use lib.IntN.{ℤ, ◌+ℤ◌}
use Rattle.std.specs.Prelude.{Result, Ok}
use Rattle.units.specs.declared.refusal.Refusal.{Refusal}
use Rattle.units.specs.Units.{dollars}
use Rattle.loss.specs.declared.LossFee.{LossFee}
use Rattle.loss.specs.Loss.{basic_fee, excess_fee, added}
use Rattle.loss.specs.Accepted.{LossFits}
use Rattle.loss.proofs.Laws.{loss_granted}
use Rattle.loss.proofs.loss_fee.Reads as loss_reads
use Rattle.loss.proofs.loss_fee.Kinds as loss_kinds

-- "Each is rounded to the nearest dollar and they are added"
pub loss_accepted : (κs : Lfts 0) (charged discharged voltage cost : ℤ) (x : Result LossFee Refusal) (s : AtExit (ended_of 0 loss_kinds.ps loss_kinds.r) κs)
    → loss_reads.Post κs (charged, (discharged, (voltage, (cost, tt)))) x s → LossFits charged discharged voltage cost →
    let basic = basic_fee charged discharged voltage cost in
    let excess = excess_fee charged discharged voltage cost in
    x ≡ Ok (record { basic = dollars basic; excess = dollars excess; total = dollars (basic +ℤ excess) })
unfolding added
loss_accepted κs charged discharged voltage cost x s p f = p ∙ loss_granted f
