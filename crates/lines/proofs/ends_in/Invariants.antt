-- `lines::ends_in` meets its contract. The loop's invariant: the ends so far and those of the bytes left are all.
use Rattle.std.proofs.Common.{◌≡◌, ◌+◌, ◌≤◌, drop}
use Rattle.lines.specs.Inner.{ends_of}
use Rattle.lines.proofs.ends_in.Given as goal

abbrev pub invariant-loop-b : goal.invariant-loop-b
invariant-loop-b l = (ends_of l.bytes ≡ l.ends + ends_of (drop l.b-index l.bytes)) × (l.ends ≤ l.b-index)
