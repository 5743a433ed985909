-- `joint::posted` meets its contract: straight-line code that mirrors the definition. Assumes nothing.
use mir.Syntax.{w64}
use mir.Val.{SFits}
use mir.Facts.{to_z-of_z}
use borrow.Author.Rules.{rules}
use Rattle.history.proofs.Orders.{own_last}
use Rattle.joint.specs.Joint.{posted_of}
use Rattle.joint.proofs.posted.Goals as goal

pub returns : goal.returns
unfolding posted_of
returns c =
    let fits : SFits w64 c.args.worked.amount.0 = search rules in
    simp own_last
    (simp (
      c.or_else-k.ensures,
      c.unless-ledger.ensures,
      c.within-range.ensures,
      c.told-number.ensures,
      c.post-booked.ensures,
      to_z-of_z fits,
    ) at c.join.ensures)
