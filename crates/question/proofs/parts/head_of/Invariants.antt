-- `question::parts::head_of` meets its contract. The loop's invariant: the head is filled up to i. Assumes nothing.
use Rattle.std.proofs.Common.{◌≡◌}
use Rattle.whole.specs.Runs.{filled}
use Rattle.numbers.specs.Numbers.{number}
use Rattle.question.proofs.parts.head_of.Given as goal

abbrev pub invariant-loop-i : goal.invariant-loop-i
invariant-loop-i l = l.place-items ≡ filled (number l.numbers) 0 l.initial.place-items l.i
