-- A MOVED REFERENCE (document 02, #107), of the joint call: at 60,000 it posts the old hour; of two calls, the second with its reference and every frequency moved together while they are in
-- their ranges, the answers are one. By the hour's theorems; over the contract as the source states it. Assumes nothing.
use mathlib.Core.Path.{◌≡◌, sym, ap, ◌∙◌}
use lib.IntN.{ℤ}
use contract.Lifetimes.{Lfts}
use denote.Triple.Clauses.{AtExit}
use borrow.Fn.Kinds.{Dens, ended_of}
use Rattle.units.specs.Limits.{seconds_of_hour}
use Rattle.curve.specs.Moved.{unmoved}
use Rattle.score.specs.Moved.{MoveFits}
use Rattle.hour.specs.Hour.{WholeHour, hour_answer}
use Rattle.hour.specs.Moved.{hour_unmoved, hour_moved_by}
use Rattle.hour.specs.declared.Settlement.{Settlement}
use Rattle.hour.proofs.Moved.{unmoved_hour, together_hour}
use Rattle.joint.specs.Joint.{posted_of, worked_by}
use Rattle.joint.specs.Calls.{joint_handed, month_given, day_given, hour_given}
use Rattle.joint.specs.declared.Joined.{Joined}
use Rattle.joint.proofs.SameNumbers.{joint_posts}
use Rattle.joint.proofs.joint.Reads as joint_reads
use Rattle.joint.proofs.joint.Kinds as joint_kinds

module _ (κs : Lfts 5) (b : Dens κs joint_kinds.ps) (j : Joined) (e : AtExit (ended_of 5 joint_kinds.ps joint_kinds.r) κs) (met : joint_reads.Post κs b j e) where
  pub joint_unmoved : (joint_handed b).reference ≡ unmoved → j ≡ posted_of (hour_unmoved (joint_handed b) seconds_of_hour) (month_given b) (day_given b) (hour_given b)
  joint_unmoved at =
      joint_posts κs b j e met ∙ ap (λ (worked : Settlement). posted_of worked (month_given b) (day_given b) (hour_given b)) (unmoved_hour (joint_handed b) at seconds_of_hour)

  -- a second call, of the hour moved by d, on the same month, day and hour
  pub joint_together : (d : ℤ) (ηs : Lfts 5) (c : Dens ηs joint_kinds.ps) (i : Joined) (f : AtExit (ended_of 5 joint_kinds.ps joint_kinds.r) ηs) → joint_reads.Post ηs c i f
      → joint_handed c ≡ hour_moved_by d (joint_handed b) → month_given c ≡ month_given b → day_given c ≡ day_given b → hour_given c ≡ hour_given b
      → MoveFits d (joint_handed b).frequencies (joint_handed b).reference → i ≡ j
  joint_together d ηs c i f also same month day hour m =
      let worked : worked_by (joint_handed c) ≡ worked_by (joint_handed b) = ap (λ (h : WholeHour). hour_answer h seconds_of_hour) same ∙ together_hour d (joint_handed b) m seconds_of_hour in
      joint_posts ηs c i f also ∙ (λ k. posted_of (worked k) (month k) (day k) (hour k)) ∙ sym (joint_posts κs b j e met)
