-- Demand 1: a refusal of a public function's contract gives its number only; the runs are lent to be read. By the type: a refusal has nothing beside it.
-- Assumes nothing.
use Rattle.whole.specs.Refused.{RefusedBare}
use Rattle.units.specs.Refusals.{told_number, refused_as}
use Rattle.units.proofs.Numbered.{bare}
use Rattle.bands.proofs.check.Reads as check
use Rattle.bands.proofs.check.Kinds as check_kinds
use Rattle.bands.proofs.factor.Reads as factor
use Rattle.bands.proofs.factor.Kinds as factor_kinds

check_refused_keeps : RefusedBare 2 check_kinds.ps check_kinds.r (λ κs x. told_number x) (λ κs a k. refused_as k) check.Post
check_refused_keeps κs a x s p f = bare x f

factor_refused_keeps : RefusedBare 2 factor_kinds.ps factor_kinds.r (λ κs x. told_number x) (λ κs a k. refused_as k) factor.Post
factor_refused_keeps κs a x s p f = bare x f
