-- `rules::pair` meets its contract: two numbers that are patterns of 32 bits are converted, and else the answer is 17. Assumes nothing.
use native.Mathlib.Omega.{arith}
use mathlib.Core.Path.{◌≡◌, sym, ap₂, ◌∙◌}
use mathlib.Core.Bool.{true, ◌&&◌}
use lib.IntN.{pos}
use lib.ListN.{get_or}
use mir.Syntax.{w64}
use mir.Val.{SFits}
use mir.Facts.{to_z-of_z}
use borrow.Author.Tests.{not-true, not-false}
use Rattle.whole.proofs.Choice.{and_both}
use Rattle.whole.proofs.Signed.{natural}
use Rattle.units.specs.Limits.{most_pattern, is_pattern}
use Rattle.numbers.specs.Numbers.{number}
use Rattle.rules.specs.Rules.{pair_reply}
use borrow.Author.Rules.{rules}
use Rattle.rules.proofs.pair.Statement.{statement}
use Rattle.rules.proofs.pair.Tie as tie

array_copy_out_frequency : tie.Need-bounds-head-0
array_copy_out_frequency c = search rules

array_copy_out_power : tie.Need-bounds-head-1
array_copy_out_power c = search rules

within_requires : tie.Need-within-known-requires
within_requires c κs = search rules

within_requires_2 : tie.Need-within-requires
within_requires_2 c κs = search rules

few_requires : tie.Need-few-requires
few_requires c κs = search rules

-- what the tests found
found : (c : tie.After-within) →
    let head = c.args.head in (c.within-known.result && c.within.result) ≡ (is_pattern (number head 0) && is_pattern (number head 1))
found c =
    let head = c.args.head in
    let n0 : SFits w64 (get_or head 0 (pos 0)) = search rules in
    let n1 : SFits w64 (get_or head 1 (pos 0)) = search rules in
    ap₂ ◌&&◌ (rw (to_z-of_z n0) at c.within-known.ensures) (rw (to_z-of_z n1) at c.within.ensures)

returns : tie.Need-returns-then-not-known-within
unfolding pair_reply
returns c =
    let t = c.before in
    rw (sym (found t.before) ∙ not-true (t.within-known.result && t.within.result) t.if-not-known-within.true-raw) c.few.ensures

-- both are patterns
both : (c : tie.Else-not-known-within) →
    let head = c.args.head in (is_pattern (number head 0) ≡ true) × (is_pattern (number head 1) ≡ true)
both c = and_both _ _ (sym (found c.before) ∙ not-false (c.within-known.result && c.within.result) c.if-not-known-within.false-raw)

cast_converted : tie.Need-overflow_cast-frequency
cast_converted c =
    let head = c.args.head in
    let n0 : SFits w64 (get_or head 0 (pos 0)) = search rules in
    let n = natural most_pattern _ (both c).0 in
    rw (to_z-of_z n0) (n.sign, record { fits = omega arith })

cast_converted_2 : tie.Need-overflow_cast-power
cast_converted_2 c =
    let head = c.args.head in
    let n1 : SFits w64 (get_or head 1 (pos 0)) = search rules in
    let n = natural most_pattern _ (both c).1 in
    rw (to_z-of_z n1) (n.sign, record { fits = omega arith })

converted_requires : tie.Need-converted-requires
converted_requires c κs = search rules

returns_2 : tie.Need-returns
unfolding pair_reply
returns_2 c =
    let t = c.before in
    let head = t.args.head in
    let n0 : SFits w64 (get_or head 0 (pos 0)) = search rules in
    let n1 : SFits w64 (get_or head 1 (pos 0)) = search rules in
    let b = both t in
    rw (c.converted.ensures, to_z-of_z n0, to_z-of_z n1, (natural most_pattern _ b.0).size, (natural most_pattern _ b.1).size, b.0, b.1)

pub pair_spec : {M : Type 1} → statement M
pair_spec =
    tie.close
    (tie.spec
    array_copy_out_frequency
    array_copy_out_power
    within_requires
    within_requires_2
    few_requires
    returns
    cast_converted
    cast_converted_2
    converted_requires
    returns_2)
