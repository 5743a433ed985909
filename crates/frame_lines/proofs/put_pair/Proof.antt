-- `frame_lines::put_pair` meets its contract: numbers that fit their bytes are written, and else the number is put alone. Assumes nothing.
use native.Mathlib.Omega.{arith}
use mathlib.Core.Path.{◌≡◌, sym, ap₂, ◌∙◌}
use mathlib.Core.Bool.{◌&&◌}
use mir.Facts.{to_z-of_z}
use borrow.Author.Tests.{not-true, not-false}
use Rattle.units.specs.Limits.{is_second, is_pattern}
use Rattle.frame_lines.specs.Text.{pair_text}
use Rattle.frame_lines.proofs.Laws.{Sized, sized}
use borrow.Author.Rules.{rules}
use Rattle.frame_lines.proofs.put_pair.Statement.{statement}
use Rattle.frame_lines.proofs.put_pair.Tie as tie

within_requires : tie.Need-within-requires
within_requires c κs = search rules

within_requires_2 : tie.Need-within-requires-2
within_requires_2 c κs = search rules

within_requires_3 : tie.Need-within-requires-3
within_requires_3 c κs = search rules

-- what the tests found
found : (c : tie.After-within-3) →
    let w = c in
    let a = w.args in
    (c.within-3.result && (w.within.result && w.within-2.result)) ≡ (is_second a.second && (is_pattern a.frequency && is_pattern a.power))
found c =
    let w = c in
    let f = w.ranges in
    let second = rw (to_z-of_z f.second) at c.within-3.ensures in
    let frequency = rw (to_z-of_z f.frequency) at w.within.ensures in
    let power = rw (to_z-of_z f.power) at w.within-2.ensures in
    ap₂ ◌&&◌ second (ap₂ ◌&&◌ frequency power)

put_alone_requires : tie.Need-put_alone-requires
put_alone_requires c κs = search rules

same_length : tie.Need-shape_of-out-then-not-within-patterns
same_length c = search rules

returns : tie.Need-returns-then-not-within-patterns
unfolding pair_text
returns c =
    let y = c in
    let t = y in
    rw (sym (found t.before.before.before.before.before) ∙ not-true _ t.if-not-within-patterns.true-raw) y.put_alone.ensures

-- each is its own size
numbers : (c : tie.Else-not-within-patterns) → let a = c.args in Sized a.second a.frequency a.power
numbers c = sized _ _ _ (sym (found c.before) ∙ not-false _ c.if-not-within-patterns.false-raw)

cast_put_bits : tie.Need-overflow_cast-second
cast_put_bits c = let n = (numbers c).second in rw (to_z-of_z c.ranges.second) (n.sign, record { fits = omega arith })

cast_put_bits_2 : tie.Need-overflow_cast-frequency
cast_put_bits_2 c = let n = (numbers c).frequency in rw (to_z-of_z c.ranges.frequency) (n.sign, record { fits = omega arith })

cast_put_bits_3 : tie.Need-overflow_cast-power
cast_put_bits_3 c = let n = (numbers c).power in rw (to_z-of_z c.ranges.power) (n.sign, record { fits = omega arith })

put_bits_requires : tie.Need-put_bits-requires
put_bits_requires c κs = search rules

same_length_2 : tie.Need-shape_of-out
same_length_2 c = search rules

returns_2 : tie.Need-returns
unfolding pair_text
returns_2 c =
    let y = c in
    let t = y in
    let f = t.ranges in
    let n = numbers t.before.before.before.before in
    let e = rw (to_z-of_z f.second, to_z-of_z f.frequency, to_z-of_z f.power, n.second.size, n.frequency.size, n.power.size) at y.put_bits.ensures in
    rw (sym (found t.before.before.before.before.before) ∙ not-false _ t.if-not-within-patterns.false-raw) e

pub put_pair_spec : {M : Type 1} → statement M
put_pair_spec =
    tie.close
    (tie.spec
    within_requires
    within_requires_2
    within_requires_3
    put_alone_requires
    same_length
    returns
    cast_put_bits
    cast_put_bits_2
    cast_put_bits_3
    put_bits_requires
    same_length_2
    returns_2)
