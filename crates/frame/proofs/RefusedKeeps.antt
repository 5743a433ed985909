-- Demand 1: a refusal of a public function's contract gives its number only, and the writer leaves the lent run as it was. By the type, a refusal has nothing beside it; and by what a
-- refusal keeps. Assumes nothing.
use mathlib.Core.Path.{ap, ◌∙◌}
use lib.ListN.{length, take}
use Rattle.whole.specs.Refused.{RefusedKeeps, RefusedBare}
use Rattle.whole.proofs.Choice.{kept_old}
use Rattle.units.specs.Refusals.{told_number, refused_as}
use Rattle.units.proofs.Numbered.{bare, number_some}
use Rattle.frame.specs.Digits.{digits_of}
use Rattle.frame.specs.Frame.{close_refusal, with_sum, closed, line_of, write_refusal, written}
use Rattle.frame.proofs.open_line.Reads as open_line
use Rattle.frame.proofs.open_line.Kinds as open_line_kinds
use Rattle.frame.proofs.close_line.Reads as close_line
use Rattle.frame.proofs.close_line.Kinds as close_line_kinds
use Rattle.frame.proofs.read_frame.Reads as read_frame
use Rattle.frame.proofs.read_frame.Kinds as read_frame_kinds
use Rattle.frame.proofs.write_frame.Reads as write_frame
use Rattle.frame.proofs.write_frame.Kinds as write_frame_kinds

open_line_refused_keeps : RefusedBare 1 open_line_kinds.ps open_line_kinds.r (λ κs x. told_number x) (λ κs a k. refused_as k) open_line.Post
open_line_refused_keeps κs a x s p f = bare x f

close_line_refused_keeps : RefusedKeeps 1 close_line_kinds.ps close_line_kinds.r (λ κs x. told_number x) (λ κs a k. refused_as k) (λ κs a. a.1.0.now) (λ κs s. s.1.0.now) close_line.Post
unfolding closed
close_line_refused_keeps κs a x s p f =
    (bare x f, p.1 ∙ kept_old (digits_of (with_sum (take 11 a.0))) a.1.0.now (number_some (close_refusal (length a.1.0.now)) tt (λ z. f (ap told_number p.0 ∙ z))))

read_frame_refused_keeps : RefusedBare 1 read_frame_kinds.ps read_frame_kinds.r (λ κs x. told_number x) (λ κs a k. refused_as k) read_frame.Post
read_frame_refused_keeps κs a x s p f = bare x f

write_frame_refused_keeps : RefusedKeeps 1 write_frame_kinds.ps write_frame_kinds.r (λ κs x. told_number x) (λ κs a k. refused_as k) (λ κs a. a.1.0.now) (λ κs s. s.1.0.now) write_frame.Post
unfolding written
write_frame_refused_keeps κs a x s p f =
    (bare x f, p.1 ∙ kept_old (line_of a.0) a.1.0.now (number_some (write_refusal a.0 (length a.1.0.now)) tt (λ z. f (ap told_number p.0 ∙ z))))
