-- `rules::energy` meets its contract: the library's answer, as any fee's is printed. Assumes nothing.
use lib.IntN.{pos}
use lib.ListN.{get_or}
use mir.Syntax.{w64}
use mir.Val.{SFits}
use mir.Facts.{to_z-of_z}
use Rattle.rules.specs.Rules.{energy_reply}
use borrow.Author.Rules.{rules}
use Rattle.rules.proofs.energy.Statement.{statement}
use Rattle.rules.proofs.energy.Tie as tie

array_copy_out_discharge : tie.Need-bounds-head-0
array_copy_out_discharge c = search rules

array_copy_out_charging : tie.Need-bounds-head-1
array_copy_out_charging c = search rules

sub_energy_fee : tie.Need-slice_bounds-energy_fee-count
sub_energy_fee c = search rules

part_energy_fee_start : tie.Need-slice_bounds-energy_fee-start
part_energy_fee_start c = search rules

part_energy_fee_end : tie.Need-slice_bounds-energy_fee-end
part_energy_fee_end c = search rules

energy_fee_requires : tie.Need-energy_fee-requires
energy_fee_requires c κs = search rules

charge_requires : tie.Need-charge-requires
charge_requires c κs = search rules

returns : tie.Need-returns
unfolding energy_reply
returns c =
    let r = c.energy_fee in
    let head = c.args.head in
    let n0 : SFits w64 (get_or head 0 (pos 0)) = search rules in
    let n1 : SFits w64 (get_or head 1 (pos 0)) = search rules in
    rw (c.charge.ensures, r.ensures, to_z-of_z n0, to_z-of_z n1)

pub energy_spec : {M : Type 1} → statement M
energy_spec =
    tie.close
    (tie.spec
    array_copy_out_discharge
    array_copy_out_charging
    sub_energy_fee
    part_energy_fee_start
    part_energy_fee_end
    energy_fee_requires
    charge_requires
    returns)
