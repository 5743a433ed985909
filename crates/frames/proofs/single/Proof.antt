-- `frames::single` meets its contract: no second entry. Assumes nothing.
use borrow.Author.Rules.{rules}
use Rattle.frames.proofs.single.Statement.{statement}
use Rattle.frames.proofs.single.Tie as tie

no_entry_requires : tie.Need-no_entry-requires
no_entry_requires c κs = search rules

returns : tie.Need-returns
returns c = rw c.no_entry.ensures

pub single_spec : {M : Type 1} → statement M
single_spec = tie.close (tie.spec no_entry_requires returns)
