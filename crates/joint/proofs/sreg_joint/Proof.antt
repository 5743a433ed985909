-- `joint::sreg_joint` meets its contract: the hour by its contract over a run of its own, the post, and the state beside it. Assumes nothing.
use mathlib.Core.Path.{◌≡◌, ap, ◌∙◌}
use borrow.Author.Rules.{rules}
use Rattle.sreg_hour.specs.declared.Settled.{Settled}
use Rattle.joint.specs.Joint.{posted_of, beside_state, sreg_joint_of}
use Rattle.joint.specs.declared.Joined.{Joined}
use Rattle.joint.proofs.sreg_joint.Statement.{statement}
use Rattle.joint.proofs.sreg_joint.Tie as tie

slice_aggregate_sreg_hour : tie.Need-slice_bounds-sreg_hour-end
slice_aggregate_sreg_hour c = search rules

sreg_hour_requires : tie.Need-sreg_hour-settled-requires
sreg_hour_requires c κs = search rules

posted_requires : tie.Need-posted-joined-requires
posted_requires c κs = search rules

beside_requires : tie.Need-beside-requires
beside_requires c κs = search rules

returns : tie.Need-returns
unfolding sreg_joint_of
returns c =
    let w = c in
    let a = w.args in
    let hour = w.sreg_hour-settled.ensures.0 in
    let joined = c.posted-joined.ensures ∙ ap (λ (s : Settled). posted_of s.hour a.month a.day a.hour) hour in
    c.beside.ensures ∙ (λ i. beside_state (joined i) (hour i).state)

pub sreg_joint_spec : {M : Type 1} → statement M
sreg_joint_spec =
    tie.close
    (tie.spec slice_aggregate_sreg_hour sreg_hour_requires posted_requires beside_requires returns)
