-- `numbers::column` meets its contract. The loop's invariant: the run is filled up to i.
use Rattle.std.proofs.Common.{◌≡◌, ℕ, ◌+◌, ◌*◌}
use Rattle.whole.specs.Choice.{pick}
use Rattle.whole.specs.Runs.{filled}
use Rattle.numbers.specs.Numbers.{number}
use Rattle.numbers.proofs.column.Given as goal

abbrev pub invariant-loop-i : goal.invariant-loop-i
invariant-loop-i l = l.run ≡ filled (λ (k : ℕ). number l.pairs (pick l.second 1 0 + 2 * k)) 0 l.fn.run l.i
