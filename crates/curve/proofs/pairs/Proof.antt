-- `curve::pairs` meets its contract: its 1,002 entries agree with the lines' pairs, which is found by computing them. Assumes nothing.
use mathlib.Core.Path.{refl}
use Rattle.whole.specs.Whole.{in_range, nearest, with_sign, half_up}
use Rattle.curve.specs.Curve.{upper_at, lower_at, pairs_of}
use Rattle.curve.proofs.Entries.{agrees}
use Rattle.curve.proofs.pairs.Statement.{statement}
use Rattle.curve.proofs.pairs.Tie as tie

returns : tie.Need-returns
unfolding pairs_of upper_at lower_at nearest with_sign half_up in_range
returns c = agrees _ refl refl

pub pairs_spec : {M : Type 1} → statement M
pairs_spec = tie.close (tie.spec returns)
