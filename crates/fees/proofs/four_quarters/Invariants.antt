-- `fees::four_quarters` meets its contract. The loop's invariant: the sum is that of the quarters passed, so that it fits.
use Rattle.std.proofs.Common.{◌≡◌}
use Rattle.whole.specs.Folds.{sum_to}
use Rattle.fees.specs.Fees.{quarter_part}
use Rattle.fees.proofs.four_quarters.Given as goal

abbrev pub invariant-loop-q : goal.invariant-loop-q
invariant-loop-q l = l.sum ≡ sum_to l.q (quarter_part l.powers l.targets l.discharge l.charge)
