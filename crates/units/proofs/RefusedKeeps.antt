-- Demand 1: a refusal of the conversion gives its number only. By the type: a refusal has nothing beside it. Assumes nothing.
use Rattle.whole.specs.Refused.{RefusedBare}
use Rattle.units.specs.Refusals.{told_number, refused_as}
use Rattle.units.proofs.Numbered.{bare}
use Rattle.units.proofs.to_kilowatts.Reads as to_kilowatts
use Rattle.units.proofs.to_kilowatts.Kinds as to_kilowatts_kinds

to_kilowatts_refused_keeps : RefusedBare 0 to_kilowatts_kinds.ps to_kilowatts_kinds.r (λ κs x. told_number x) (λ κs a k. refused_as k) to_kilowatts.Post
to_kilowatts_refused_keeps κs a x s p f = bare x f
