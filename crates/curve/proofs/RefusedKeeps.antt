-- A refused frequency or reference has its number alone. By the type: a refusal has nothing beside it. Assumes nothing.
use Rattle.whole.specs.Refused.{RefusedBare}
use Rattle.units.specs.Refusals.{told_number, refused_as}
use Rattle.units.proofs.Numbered.{bare}
use Rattle.curve.proofs.curve.Reads as curve
use Rattle.curve.proofs.curve.Kinds as curve_kinds

curve_refused_keeps : RefusedBare 0 curve_kinds.ps curve_kinds.r (λ κs x. told_number x) (λ κs a k. refused_as k) curve.Post
curve_refused_keeps κs a x s p f = bare x f
