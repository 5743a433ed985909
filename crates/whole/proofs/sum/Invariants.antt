-- `whole::sum` meets its contract. The loop's invariant: every number passed lies in the range, and the sum is that of the numbers passed.
use Rattle.std.proofs.Common.{◌≡◌, true, pos, get_or}
use Rattle.whole.specs.Folds.{all_to, sum_to}
use Rattle.whole.specs.Whole.{minus, in_range}
use Rattle.whole.specs.Inner.{most_term}
use Rattle.whole.proofs.sum.Given as goal

abbrev pub invariant-loop-x : goal.invariant-loop-x
invariant-loop-x l =
    (all_to l.x-index (λ i. in_range (minus most_term) (pos most_term) (get_or l.run i (pos 0))) ≡ true) × (l.sum ≡ sum_to l.x-index (λ i. get_or l.run i (pos 0)))
