-- `frame::number::sum` meets its contract. The loop's invariant: the sum so far and that of the bytes left add up, modulo 256.
use Rattle.std.proofs.Common.{◌≡◌, ◌+◌, ◌%◌, drop}
use Rattle.frame.specs.Numbers.{byte_sum}
use Rattle.frame.proofs.number.sum.Given as goal

abbrev pub invariant-loop-b : goal.invariant-loop-b
invariant-loop-b l = byte_sum l.bytes % 256 ≡ (l.sum + byte_sum (drop l.b-index l.bytes)) % 256
