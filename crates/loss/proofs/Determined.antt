-- Answers that meet a public function's contract are equal: the contract is one equation. Assumes nothing.
use mathlib.Core.Path.{sym, ◌∙◌}
use Rattle.whole.specs.Determined.{Determined}
use Rattle.loss.proofs.loss_fee.Reads as loss_fee_lem
use Rattle.loss.proofs.loss_fee.Kinds as loss_fee_kinds

loss_fee_determined : Determined 0 loss_fee_kinds.ps loss_fee_kinds.r loss_fee_lem.Post
loss_fee_determined κs a x y s t p q = p ∙ sym q
