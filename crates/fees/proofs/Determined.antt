-- Answers that meet a public function's contract are equal: each contract is one equation. Assumes nothing.
use mathlib.Core.Path.{sym, ◌∙◌}
use Rattle.whole.specs.Determined.{Determined}
use Rattle.fees.proofs.fee.Reads as fee
use Rattle.fees.proofs.fee.Kinds as fee_kinds
use Rattle.fees.proofs.quality_part.Reads as quality_part_lem
use Rattle.fees.proofs.quality_part.Kinds as quality_part_kinds
use Rattle.fees.proofs.energy_fee.Reads as energy_fee_lem
use Rattle.fees.proofs.energy_fee.Kinds as energy_fee_kinds
use Rattle.fees.proofs.energy_exact.Reads as energy_exact_lem
use Rattle.fees.proofs.energy_exact.Kinds as energy_exact_kinds

fee_determined : Determined 0 fee_kinds.ps fee_kinds.r fee.Post
fee_determined κs a x y s t p q = p ∙ sym q

quality_part_determined : Determined 0 quality_part_kinds.ps quality_part_kinds.r quality_part_lem.Post
quality_part_determined κs a x y s t p q = p ∙ sym q

energy_fee_determined : Determined 2 energy_fee_kinds.ps energy_fee_kinds.r energy_fee_lem.Post
energy_fee_determined κs a x y s t p q = p ∙ sym q

energy_exact_determined : Determined 2 energy_exact_kinds.ps energy_exact_kinds.r energy_exact_lem.Post
energy_exact_determined κs a x y s t p q = p ∙ sym q
