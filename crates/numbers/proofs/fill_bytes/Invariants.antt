-- `numbers::fill_bytes` meets its contract. The loop's invariant: the run is filled up to i.
use Rattle.std.proofs.Common.{◌≡◌, ℕ}
use Rattle.whole.specs.Runs.{filled}
use Rattle.numbers.specs.Numbers.{number, byte_of}
use Rattle.numbers.proofs.fill_bytes.Given as goal

abbrev pub invariant-loop-i : goal.invariant-loop-i
invariant-loop-i l = l.run ≡ filled (λ (k : ℕ). byte_of (number l.numbers k)) 0 l.fn.run l.i
