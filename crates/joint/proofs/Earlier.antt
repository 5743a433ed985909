-- THE THREE SECONDS BEFORE THE HOUR (document 02, #102), of the joint call: with no earlier score it posts the old hour; earlier scores raise its rate or leave it; and two of them, the
-- second handed the last three scores of the first, are rated as one run of seconds. By the hour's theorems; over the contract as the source states it. Assumes nothing.
use Prim.Native.Nat.{◌≤◌}
use mathlib.Core.Path.{◌≡◌, sym, ap, ◌∙◌}
use mathlib.Core.List.{[]}
use contract.Lifetimes.{Lfts}
use denote.Triple.Clauses.{AtExit}
use borrow.Fn.Kinds.{Dens, GoodsP, ended_of}
use Rattle.units.specs.Limits.{seconds_of_hour}
use Rattle.rate.specs.Earlier.{last_three}
use Rattle.hour.specs.Hour.{scores_of}
use Rattle.hour.specs.Earlier.{hour_alone, OneRun}
use Rattle.hour.specs.declared.Settlement.{Settlement}
use Rattle.hour.proofs.Accepted.{five_targets}
use Rattle.hour.proofs.Laws.{refusal_is}
use Rattle.hour.proofs.Earlier.{hour_alone_lem, hour_raised, one_run}
use Rattle.joint.specs.Joint.{posted_of}
use Rattle.joint.specs.Calls.{joint_handed, month_given, day_given, hour_given}
use Rattle.joint.specs.declared.Joined.{Joined}
use Rattle.joint.proofs.SameNumbers.{joint_posts, joint_granted, joint_accepted}
use Rattle.joint.proofs.joint.Reads as joint_reads
use Rattle.joint.proofs.joint.Kinds as joint_kinds

module _ (κs : Lfts 5) (b : Dens κs joint_kinds.ps) (j : Joined) (e : AtExit (ended_of 5 joint_kinds.ps joint_kinds.r) κs) (met : joint_reads.Post κs b j e) where
  pub joint_as_before : (joint_handed b).earlier ≡ [] → j ≡ posted_of (hour_alone (joint_handed b) seconds_of_hour) (month_given b) (day_given b) (hour_given b)
  joint_as_before none =
      joint_posts κs b j e met ∙ ap (λ (worked : Settlement). posted_of worked (month_given b) (day_given b) (hour_given b)) (hour_alone_lem (joint_handed b) none seconds_of_hour)

  module _ (good : GoodsP κs joint_kinds.ps b) (accepted : j.hour.refusal ≡ 0) where
    pub joint_rate_raised : let alone = hour_alone (joint_handed b) seconds_of_hour in (alone.refusal ≡ 0) × (alone.rate ≤ j.hour.rate)
    joint_rate_raised =
        let g = joint_granted κs b j e met accepted in
        rw g.1 (hour_raised (joint_handed b) seconds_of_hour (five_targets b.1.1.1.1.0 _ good.1.1.1.1.0) (sym (refusal_is (joint_handed b) seconds_of_hour) ∙ g.0))

    -- and the one after it, handed the last three scores of the hour that the first worked out
    module _ (ηs : Lfts 5) (c : Dens ηs joint_kinds.ps) (also : GoodsP ηs joint_kinds.ps c) (i : Joined) (f : AtExit (ended_of 5 joint_kinds.ps joint_kinds.r) ηs) (next : joint_reads.Post ηs c i f) where
      pub joint_one_run : i.hour.refusal ≡ 0 → (joint_handed c).earlier ≡ last_three (scores_of (joint_handed b))
          → OneRun (joint_handed b).earlier (scores_of (joint_handed b)) (scores_of (joint_handed c)) j.hour i.hour
      joint_one_run second handed = one_run (joint_accepted κs b j e met good accepted) (joint_accepted ηs c i f next also second) handed
