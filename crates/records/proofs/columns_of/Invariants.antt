-- `records::columns_of` meets its contract. The loop's invariant: from here on the rest of the records comes to what all come to.
use Rattle.std.proofs.Common.{◌≡◌, drop}
use Rattle.records.specs.Inner.{none, gathered}
use Rattle.records.proofs.columns_of.Given as goal

abbrev pub invariant-loop-band : goal.invariant-loop-band
invariant-loop-band l = gathered l.columns (drop l.band-index l.bands) ≡ gathered none l.bands
