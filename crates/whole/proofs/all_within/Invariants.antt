-- `whole::all_within` meets its contract. The loop's invariant: what is kept is whether every number passed lies in the range.
use Rattle.std.proofs.Common.{◌≡◌, pos, get_or}
use Rattle.whole.specs.Folds.{all_to}
use Rattle.whole.specs.Whole.{in_range}
use Rattle.whole.proofs.all_within.Given as goal

abbrev pub invariant-loop-x : goal.invariant-loop-x
invariant-loop-x l = all_to l.x-index (λ i. in_range l.low l.high (get_or l.run i (pos 0))) ≡ l.all
