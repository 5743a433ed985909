-- `asked::read_all`: from here on the chunk comes to what it came to from the start. Assumes nothing.
use mathlib.Core.Path.{◌≡◌}
use lib.ListN.{length}
use Rattle.asked.proofs.Reading.{Still}
use Rattle.asked.proofs.read_all.Given as goal

abbrev pub invariant-loop-i : goal.invariant-loop-i
invariant-loop-i l = (length l.numbers ≡ length l.fn.numbers) × (Still l.fn.state l.chunk l.fn.numbers l.state l.i l.numbers)
