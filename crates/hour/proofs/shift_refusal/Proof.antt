-- `hour::shift_refusal` meets its contract: that of `terms_refusal`, with the tests of the reference and of what is shifted. Assumes nothing.
use mir.Syntax.{w64}
use mir.Val.{SFits}
use mir.Facts.{to_z-of_z}
use borrow.Author.Rules.{rules}
use Rattle.hour.proofs.shift_refusal.Statement.{statement}
use Rattle.hour.proofs.shift_refusal.Tie as tie

prices_fit_requires : tie.Need-prices_fit-priced-requires
prices_fit_requires c κs = search rules

all_within_requires : tie.Need-all_within-planned-requires
all_within_requires c κs = search rules

reference_fits_requires : tie.Need-reference_fits-requires
reference_fits_requires c κs = search rules

terms_refusal_requires : tie.Need-terms_refusal-requires
terms_refusal_requires c κs = search rules

discharge_fits : (c : tie.After-struct_told-2-1) → SFits w64 c.args.shift.discharge
discharge_fits c = search rules

charge_fits : (c : tie.After-struct_told-2-1) → SFits w64 c.args.shift.charge
charge_fits c = search rules

returns : tie.Need-returns
returns c =
    let moved = c in
    let planned = moved in
    let priced = planned in
    let s = priced in
    rw (rw (to_z-of_z (discharge_fits s.before.before.before.before.before.before), to_z-of_z (charge_fits s.before.before.before.before.before.before)) at priced.prices_fit-priced.ensures, planned.all_within-planned.ensures, moved.reference_fits.ensures) at c.terms_refusal.ensures

pub shift_refusal_spec : {M : Type 1} → statement M
shift_refusal_spec =
    tie.close
    (tie.spec prices_fit_requires all_within_requires reference_fits_requires terms_refusal_requires returns)
