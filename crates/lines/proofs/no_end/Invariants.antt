-- `lines::no_end` meets its contract. The loop's invariant: what was found, and then the bytes left, decide.
use Rattle.std.proofs.Common.{◌≡◌, ◌&&◌, drop}
use Rattle.lines.specs.Inner.{no_end}
use Rattle.lines.proofs.no_end.Given as goal

abbrev pub invariant-loop-b : goal.invariant-loop-b
invariant-loop-b l = no_end l.bytes ≡ l.none && no_end (drop l.b-index l.bytes)
