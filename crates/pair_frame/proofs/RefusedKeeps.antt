-- Demand 1: a refusal of a public function's contract gives its number only, and the writer leaves the lent run as it was. By the type, a refusal has nothing beside it; and by what a refusal
-- keeps. Assumes nothing.
use mathlib.Core.Path.{ap, ◌∙◌}
use lib.ListN.{length, take}
use Rattle.whole.specs.Refused.{RefusedKeeps, RefusedBare}
use Rattle.whole.proofs.Choice.{kept_old}
use Rattle.units.specs.Refusals.{told_number, refused_as}
use Rattle.units.proofs.Numbered.{bare, number_some}
use Rattle.frame.specs.Digits.{digits_of}
use Rattle.frame.specs.Frame.{close_refusal, with_sum, closed}
use Rattle.pair_frame.specs.PairFrame.{pair_body}
use Rattle.pair_frame.proofs.read_pair.Reads as read_pair
use Rattle.pair_frame.proofs.read_pair.Kinds as read_pair_kinds
use Rattle.pair_frame.proofs.write_pair.Reads as write_pair
use Rattle.pair_frame.proofs.write_pair.Kinds as write_pair_kinds

read_pair_refused_keeps : RefusedBare 1 read_pair_kinds.ps read_pair_kinds.r (λ κs x. told_number x) (λ κs a k. refused_as k) read_pair.Post
read_pair_refused_keeps κs a x s p f = bare x f

write_pair_refused_keeps : RefusedKeeps 1 write_pair_kinds.ps write_pair_kinds.r (λ κs x. told_number x) (λ κs a k. refused_as k) (λ κs a. a.1.1.1.0.now) (λ κs s. s.1.1.1.0.now) write_pair.Post
unfolding closed
write_pair_refused_keeps κs a x s p f = (
  bare x f,
  p.1
      ∙ kept_old (digits_of (with_sum (take 11 (pair_body a.0 a.1.0 a.1.1.0)))) a.1.1.1.0.now
      (number_some (close_refusal (length a.1.1.1.0.now)) tt (λ z. f (ap told_number p.0 ∙ z))),
)
