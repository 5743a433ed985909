-- `rules::looked_up` meets its contract: a number without its other, and more than 100 pairs, are refused. Assumes nothing.
use Prim.Native.Nat.{◌/◌}
use native.Mathlib.Omega.{arith}
use mathlib.Core.Path.{sym}
use lib.ListN.{length}
use Rattle.numbers.specs.Numbers.{column}
use Rattle.numbers.proofs.Columns.{length_column}
use Rattle.rules.specs.Rules.{factor_in}
use Rattle.rules.proofs.Laws.{too_many_lem, pairs_by, no_pairs}
use borrow.Author.Rules.{rules}
use Rattle.rules.proofs.looked_up.Statement.{statement}
use Rattle.rules.proofs.looked_up.Tie as tie

returns : tie.Need-returns-then-numbers-ne0
unfolding factor_in
returns c = rw (no_pairs c.args.numbers.now c.if-numbers-ne0.true)

returns_2 : tie.Need-returns-then-n-gt100
unfolding factor_in
returns_2 c =
    let a = c.args in
    let n = a.numbers.now in
    let m = length n / 2 in
    rw (pairs_by n c.if-numbers-ne0.false) (sym (too_many_lem (column n 0 m) (column n 1 m) a.rate (omega (arith, length_column n 0 m))))

found_requires : tie.Need-found-requires
found_requires c κs = search rules

returns_3 : tie.Need-returns
unfolding factor_in
returns_3 c = rw (pairs_by c.args.numbers.now c.if-numbers-ne0.false) c.found.ensures

pub looked_up_spec : {M : Type 1} → statement M
looked_up_spec = tie.close (tie.spec returns returns_2 found_requires returns_3)
