-- A refused loss fee has its number alone. By the type: a refusal has nothing beside it. Assumes nothing.
use Rattle.whole.specs.Refused.{RefusedBare}
use Rattle.units.specs.Refusals.{told_number, refused_as}
use Rattle.units.proofs.Numbered.{bare}
use Rattle.loss.proofs.loss_fee.Reads as loss_reads
use Rattle.loss.proofs.loss_fee.Kinds as loss_kinds

loss_fee_refused_keeps : RefusedBare 0 loss_kinds.ps loss_kinds.r (λ κs x. told_number x) (λ κs a k. refused_as k) loss_reads.Post
loss_fee_refused_keeps κs a x s p f = bare x f
