-- `pair::whole_of` meets its contract: below an exponent of 88 the number is 0, and from there on it is the significand over a power of two. Assumes nothing.
use Prim.Native.Nat.{ℕ, ◌*◌, ◌-◌, ◌≤◌, ◌^◌}
use native.Mathlib.Omega.{arith}
use native.Mathlib.Nat.{le_trans}
use mathlib.Core.Path.{◌≡◌, sym, ap, ◌∙◌}
use mir.Syntax.{w64}
use borrow.Author.Rules.{rules}
use Rattle.whole.proofs.Signed.{back}
use Rattle.whole.specs.Whole.{half_up}
use Rattle.whole.proofs.Rounding.{half_le}
use Rattle.pair.specs.Single.{exponent_of, significand, signed_by}
use Rattle.pair.proofs.Singles.{scaled_below, whole_near, whole_none}
use Rattle.pair.proofs.whole_of.Statement.{statement}
use Rattle.pair.proofs.whole_of.Tie as tie

scaled : (c : tie.After-significand) → c.significand.result * c.args.k ≤ 2 ^ 34
scaled c = let s = c.before.before.before in rw c.significand.ensures (scaled_below s.args.k s.args.bits s.requires.1)

exponent_requires : tie.Need-exponent-e-requires
exponent_requires c κs = search rules

returns : tie.Need-returns-then-e-lt88
returns c = let s = c.before.before in sym (whole_none s.args.k s.args.bits s.requires.1 (omega (arith, c.exponent-e.ensures, c.if-e-lt88.true)))

significand_requires : tie.Need-significand-requires
significand_requires c κs = omega (arith, c.exponent-e.ensures)

mul_half_up : tie.Need-overflow_mul-significand
mul_half_up c = let l = scaled c in omega arith

sub_half_up : tie.Need-overflow_sub-e
sub_half_up c = omega (arith, c.exponent-e.ensures)

half_up_requires : tie.Need-half_up-requires
half_up_requires c κs = (scaled c, (omega (arith, c.exponent-e.ensures), omega (arith, c.exponent-e.ensures)))

signed_by_requires : tie.Need-signed_by-requires
signed_by_requires c κs = le_trans (omega (arith, c.half_up.ensures, half_le (c.significand.result * c.args.k) (2 ^ (150 - c.exponent-e.result)))) (scaled c.before)

returns_2 : tie.Need-returns
returns_2 c =
    let h = c.before in
    let g = h.before in
    let p = g.before.before in
    let s = p.before in
    let k = s.args.k in
    let b = s.args.bits in
    let n : 150 - exponent_of b ≡ 149 - (exponent_of b - 1) = omega (arith, p.exponent-e.ensures) in
    back w64 c.signed_by.type_inv
    (c.signed_by.ensures
    ∙ ap (signed_by b) ((rw (g.significand.ensures, p.exponent-e.ensures) at h.half_up.ensures) ∙ ap (λ (i : ℕ). half_up (significand b * k) (2 ^ i)) n)
    ∙ sym (whole_near k b s.requires.0))

pub whole_of_spec : {M : Type 1} → statement M
whole_of_spec =
    tie.close
    (tie.spec
    exponent_requires
    returns
    significand_requires
    mul_half_up
    sub_half_up
    half_up_requires
    signed_by_requires
    returns_2)
