-- `rules::fee` meets its contract: the library's answer, as any fee's is printed. Assumes nothing.
use lib.IntN.{pos}
use lib.ListN.{get_or}
use mir.Syntax.{w64}
use mir.Val.{SFits}
use mir.Facts.{to_z-of_z}
use Rattle.rules.specs.Rules.{fee_reply}
use borrow.Author.Rules.{rules}
use Rattle.rules.proofs.fee.Statement.{statement}
use Rattle.rules.proofs.fee.Tie as tie

array_copy_out_fee : tie.Need-bounds-head-0
array_copy_out_fee c = search rules

array_copy_out_t9 : tie.Need-bounds-head-1
array_copy_out_t9 c = search rules

fee_requires : tie.Need-fee-requires
fee_requires c κs = search rules

charge_requires : tie.Need-charge-requires
charge_requires c κs = search rules

returns : tie.Need-returns
unfolding fee_reply
returns c =
    let r = c.fee in
    let head = c.args.head in
    let n0 : SFits w64 (get_or head 0 (pos 0)) = search rules in
    let n1 : SFits w64 (get_or head 1 (pos 0)) = search rules in
    rw (c.charge.ensures, r.ensures, to_z-of_z n0, to_z-of_z n1)

pub fee_spec : {M : Type 1} → statement M
fee_spec =
    tie.close (tie.spec array_copy_out_fee array_copy_out_t9 fee_requires charge_requires returns)
