-- `rules::charge` meets its contract: the fee's answer, field by field. Assumes nothing.
use mir.Syntax.{w64}
use mir.Val.{SFits}
use mir.Facts.{to_z-of_z}
use borrow.Author.Rules.{rules}
use Rattle.rules.proofs.charge.Statement.{statement}
use Rattle.rules.proofs.charge.Tie as tie

few_requires : tie.Need-few-requires
few_requires c κs = search rules

returns : tie.Need-returns
returns c =
    let dollars : SFits w64 c.args.charged.dollars.0 = search rules in
    rw (c.few.ensures, to_z-of_z dollars)

pub charge_spec : {M : Type 1} → statement M
charge_spec = tie.close (tie.spec few_requires returns)
