-- `fees::power_sum` meets its contract. The loop's invariant: the sum is that of the powers passed, so that it fits.
use Rattle.std.proofs.Common.{◌≡◌, get_or, pos}
use Rattle.whole.specs.Folds.{sum_to}
use Rattle.fees.proofs.power_sum.Given as goal

abbrev pub invariant-loop-power : goal.invariant-loop-power
invariant-loop-power l = l.sum ≡ sum_to l.power-index (λ i. get_or l.powers i (pos 0))
