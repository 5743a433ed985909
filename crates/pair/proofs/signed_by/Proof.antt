-- `pair::signed_by` meets its contract. Assumes nothing.
use mathlib.Core.Path.{◌≡◌}
use lib.IntN.{pos}
use mir.Val.{to_z}
use mir.Facts.{to_z-of_z}
use mir.Syntax.{w64}
use borrow.Author.Tests.{le-leb, lt-leb}
use borrow.Author.Rules.{rules}
use Rattle.whole.proofs.Signed.{signed}
use Rattle.pair.proofs.Singles.{small_read, zero_less}
use Rattle.pair.proofs.signed_by.Statement.{statement}
use Rattle.pair.proofs.signed_by.Tie as tie

read : (c : tie.Then-bits-ge2147483648) → to_z w64 c.args.n ≡ pos c.args.n
read c = small_read c.requires

cast_size : tie.Need-overflow_cast-size
cast_size c = search rules

sub_result : tie.Need-overflow_sub-result
sub_result c = let n = read c in omega (signed, n)

returns : tie.Need-returns-then-bits-ge2147483648
returns c = let n = read c in rw (to_z-of_z (sub_result c), le-leb 2147483648 c.args.bits c.if-bits-ge2147483648.true, n) (zero_less c.args.n)

returns_2 : tie.Need-returns
returns_2 c = rw (lt-leb 2147483648 c.args.bits c.if-bits-ge2147483648.false) (small_read c.requires)

pub signed_by_spec : {M : Type 1} → statement M
signed_by_spec = tie.close (tie.spec cast_size sub_result returns returns_2)
