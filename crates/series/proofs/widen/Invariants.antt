-- `series::widen` meets its contract. The loop's invariant: the run is filled up to i. Assumes nothing.
use Rattle.std.proofs.Common.{◌≡◌, ℕ, List, ℤ, pos, get_or}
use Rattle.whole.specs.Runs.{filled}
use Rattle.series.proofs.widen.Given as goal

-- a byte as a number
abbrev pub numbers : List ℕ → ℕ → ℤ
numbers bytes k = pos (get_or bytes k 0)

abbrev pub invariant-loop-i : goal.invariant-loop-i
invariant-loop-i l = l.run ≡ filled (numbers l.bytes) 0 l.initial.run l.i
