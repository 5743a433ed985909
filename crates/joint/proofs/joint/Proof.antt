-- `joint::joint` meets its contract: the hour by its contract over a run of its own, and the post. Assumes nothing.
use mathlib.Core.Path.{ap, ◌∙◌}
use Rattle.joint.specs.Joint.{posted_of, joint_of}
use Rattle.hour.specs.declared.Settlement.{Settlement}
use borrow.Author.Rules.{rules}
use Rattle.joint.proofs.joint.Statement.{statement}
use Rattle.joint.proofs.joint.Tie as tie

slice_aggregate_hour : tie.Need-slice_bounds-hour-end
slice_aggregate_hour c = search rules

hour_requires : tie.Need-hour-worked-requires
hour_requires c κs = search rules

posted_requires : tie.Need-posted-requires
posted_requires c κs = search rules

returns : tie.Need-returns
unfolding joint_of
returns c =
    let a = c.args in
    c.posted.ensures ∙ ap (λ (h : Settlement). posted_of h a.month a.day a.hour) c.hour-worked.ensures.0

pub joint_spec : {M : Type 1} → statement M
joint_spec = tie.close (tie.spec slice_aggregate_hour hour_requires posted_requires returns)
