-- A refused joint call is its number alone beside the ledger that was handed in, and of an sReg hour beside `Outside`: the answer goes by one number. Assumes nothing.
use mathlib.Core.Path.{sym, ap, ◌∙◌}
use Rattle.whole.specs.Refused.{RefusedBare}
use Rattle.sreg.specs.declared.EventState.TheVariants.{Outside}
use Rattle.joint.specs.Joint.{refused_beside, worked_by}
use Rattle.joint.specs.declared.Joined.{Joined}
use Rattle.joint.specs.Calls.{joint_handed, month_given, sreg_month_given}
use Rattle.joint.proofs.SameNumbers.{joint_posts, posted_bare}
use Rattle.joint.proofs.SReg.{sreg_joint_refused}
use Rattle.joint.proofs.joint.Reads as joint_reads
use Rattle.joint.proofs.joint.Kinds as joint_kinds
use Rattle.joint.proofs.sreg_joint.Reads as sreg_joint_reads
use Rattle.joint.proofs.sreg_joint.Kinds as sreg_joint_kinds

joint_refused_keeps : RefusedBare 5 joint_kinds.ps joint_kinds.r (λ κs j. j.hour.refusal) (λ κs b k. refused_beside (month_given b) k) joint_reads.Post
joint_refused_keeps κs b j e p f =
    let posts = joint_posts κs b j e p in
    let told = ap (λ (x : Joined). x.hour.refusal) posts in
    posts ∙ posted_bare (worked_by (joint_handed b)) (month_given b) _ _ (λ z. f (told ∙ z)) ∙ ap (refused_beside (month_given b)) (sym told)

sreg_joint_refused_keeps :
    RefusedBare 5 sreg_joint_kinds.ps sreg_joint_kinds.r (λ κs j. j.joined.hour.refusal) (λ κs b k. record { joined = refused_beside (sreg_month_given b) k; state = Outside }) sreg_joint_reads.Post
sreg_joint_refused_keeps κs b j e p f = sreg_joint_refused κs b j e p f
