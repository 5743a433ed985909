-- `lines::count` meets its contract. The loop's invariant: the line ends so far and those of what is left are all.
use Rattle.std.proofs.Common.{◌≡◌, ◌+◌, ◌≤◌, length}
use Rattle.lines.specs.Inner.{ends_of}
use Rattle.lines.proofs.count.Given as goal

abbrev pub invariant-loop-run : goal.invariant-loop-run
invariant-loop-run l =
    (ends_of l.bytes ≡ l.lines + ends_of l.run-iterator.rest.now)
    × (l.lines + length l.run-iterator.rest.now ≤ length l.bytes)
    × (l.run-iterator.size ≡ 255)
