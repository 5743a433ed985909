-- `fees::quality_part` meets its contract: its tests are the definition's, and where they pass sum and product fit. Assumes nothing.
use mathlib.Core.Path.{◌≡◌, sym, ap, ◌∙◌}
use lib.IntN.{ℤ}
use mir.Syntax.{w64}
use mir.Val.{SFits}
use mir.Facts.{to_z-of_z}
use borrow.Author.Rules.{rules}
use Rattle.whole.proofs.Choice.{kept_old}
use Rattle.whole.proofs.Signed.{back, within_fits}
use Rattle.fees.specs.Fees.{charge_of, no_charge, quality_part, quality_refusal, quality_answer}
use Rattle.fees.proofs.Laws.{quality_fits, fees_within, quality_product, quality_granted}
use Rattle.fees.specs.Accepted.{QualityFits}
use Rattle.fees.proofs.quality_part.Statement.{statement}
use Rattle.fees.proofs.quality_part.Tie as tie

within_requires : tie.Need-within-requires
within_requires c κs = search rules

unless_requires : tie.Need-unless-bands-requires
unless_requires c κs = search rules

within_requires_2 : tie.Need-within-requires-2
within_requires_2 c κs = search rules

within_requires_3 : tie.Need-within-requires-3
within_requires_3 c κs = search rules

unless_requires_2 : tie.Need-unless-k-requires
unless_requires_2 c κs = search rules

first_fits : (c : tie.After-struct_told-2-1) → SFits w64 c.args.capacity.0
first_fits c = search rules

second_fits_lem : (c : tie.After-struct_told-2-1) → SFits w64 c.args.performance.0
second_fits_lem c = record { sfits = c.struct_told-2-1.given.0.1 }

-- what the tests found
found : (c : tie.After-unless-k) →
    let a = c.args in
    c.unless-k.result ≡ quality_refusal a.capacity a.performance a.factor
unfolding quality_refusal
found c =
    let s = c.before.before.before.before.before in
    let b = c.before.before.before in
    simp (
      c.within-2.ensures,
      c.within-3.ensures,
      b.unless-bands.ensures,
      b.within.ensures,
      to_z-of_z (first_fits s),
      to_z-of_z (second_fits_lem s),
      to_z-of_z s.ranges.factor,
    ) at c.unless-k.ensures

fits : (c : tie.Then-k-eq0) → let a = c.args in QualityFits a.capacity a.performance a.factor
fits c = quality_fits _ _ _ (sym (found c.before) ∙ c.if-k-eq0.true)

add_nearest : tie.Need-overflow_add-first
add_nearest c =
    let s = c.before.before.before.before.before.before in
    rw (to_z-of_z (first_fits s), to_z-of_z (second_fits_lem s)) (within_fits w64 tt (fees_within (fits c)))

mul_nearest : tie.Need-overflow_mul-first
mul_nearest c =
    let s = c.before.before.before.before.before.before in
    rw (to_z-of_z (add_nearest c), to_z-of_z (first_fits s), to_z-of_z (second_fits_lem s), to_z-of_z s.ranges.factor) (within_fits w64 tt (quality_product (fits c)))

nearest_requires : tie.Need-nearest-requires
nearest_requires c κs = search rules

returns : tie.Need-returns-then-k-eq0
unfolding charge_of quality_part
returns c =
    let t = c.before in
    let s = t.before.before.before.before.before.before in
    let n = back w64 c.nearest.type_inv (rw (to_z-of_z (mul_nearest t), to_z-of_z (add_nearest t), to_z-of_z (first_fits s), to_z-of_z (second_fits_lem s), to_z-of_z s.ranges.factor) at c.nearest.ensures) in
    ap (λ (z : ℤ). charge_of z) n ∙ sym (quality_granted (fits t))

no_charge_requires : tie.Need-no_charge-requires
no_charge_requires c κs = search rules

returns_2 : tie.Need-returns
unfolding quality_answer
returns_2 c =
    let e = found c.before.before in
    c.no_charge.ensures ∙ ap no_charge e ∙ sym (kept_old _ (no_charge _) (λ z. c.if-k-eq0.false (e ∙ z)))

pub quality_part_spec : {M : Type 1} → statement M
quality_part_spec =
    tie.close
    (tie.spec
    within_requires
    unless_requires
    within_requires_2
    within_requires_3
    unless_requires_2
    add_nearest
    mul_nearest
    nearest_requires
    returns
    no_charge_requires
    returns_2)
