-- `curve::bounds_at` meets its contract: so far past the moved first corner the table has the pair of the frequency moved back, also before its first place and after its last. Assumes nothing.
use Prim.Native.Nat.{◌+◌, ◌*◌, ◌<◌}
use mathlib.Core.Path.{◌≡◌, ◌∙◌}
use native.Mathlib.Omega.{arith}
use lib.IntN.{ℤ, pos}
use lib.ListN.{get_or}
use mir.Syntax.{w8, w64}
use mir.Val.{SFits, to_z, of_z}
use mir.Facts.{to_z-of_z}
use borrow.Author.Rules.{rules}
use Rattle.whole.proofs.Signed.{within_fits}
use Rattle.curve.specs.Curve.{moved_back, upper_at, lower_at, last_place}
use Rattle.curve.specs.Inner.{place_at}
use Rattle.curve.proofs.Limits.{place_within, placed_by, upper_in, lower_in, upper_within, lower_within, PastFits, past_fits}
use Rattle.curve.proofs.bounds_at.Statement.{statement}
use Rattle.curve.proofs.bounds_at.Tie as tie

pairs_requires : tie.Need-pairs-pairs-requires
pairs_requires c κs = search rules

frequency_fits : (c : tie.After-struct_told-2-1) → SFits w64 c.args.frequency.0
frequency_fits c = search rules

reference_fits : (c : tie.After-struct_told-2-1) → SFits w64 c.args.reference.0
reference_fits c = search rules

fit : (c : tie.After-struct_told-2-1) → let a = c.args in PastFits a.reference.0 a.frequency.0
fit c = let s = c.before.before.before in past_fits s.args.reference.0 s.args.frequency.0 s.requires.reference s.requires.frequency

sub_first : tie.Need-overflow_sub-first
sub_first c = rw (to_z-of_z (reference_fits c)) (fit c).first

sub_past : tie.Need-overflow_sub-past
sub_past c = rw (to_z-of_z (sub_first c), to_z-of_z (reference_fits c), to_z-of_z (frequency_fits c)) (fit c).past

place_requires : tie.Need-place-k-requires
place_requires c κs = search rules

-- the frequency that the table is read at, and its place
abbrev read : tie.Start → ℤ
read s = moved_back s.args.reference.0 s.args.frequency.0

is_placed : (c : tie.After-place-k) → c.place-k.result ≡ place_at (read c.before.before.before.before)
is_placed c =
    let t = c.before in
    let a = t.args in
    placed_by a.reference.0 a.frequency.0 (to_z-of_z (sub_past t) ∙ rw (to_z-of_z (sub_first t), to_z-of_z (reference_fits t), to_z-of_z (frequency_fits t))) c.place-k.ensures

place_small : (c : tie.After-place-k) → c.place-k.result < last_place + 1
place_small c = let p = is_placed c in omega (arith, place_within (read c.before.before.before.before))

mul_k : tie.Need-overflow_mul-k
mul_k c = let p = place_small c in record { fits = omega arith }

array_copy_out_upper : tie.Need-bounds-pairs-k
array_copy_out_upper c = let p = place_small c in omega arith

add_lower : tie.Need-overflow_add-lower
add_lower c = let p = place_small c.before in record { fits = omega arith }

array_copy_out_lower : tie.Need-bounds-pairs-k-2
array_copy_out_lower c = let p = place_small c.before in omega arith

upper_fits : (c : tie.After-upper-1) → SFits w8 (get_or c.pairs-pairs.result (2 * c.place-k.result) (pos 0))
upper_fits c = search rules

lower_fits : (c : tie.After-lower-1) → SFits w8 (get_or c.pairs-pairs.result (2 * c.place-k.result + 1) (pos 0))
lower_fits c = search rules

-- the two bounds, as they are read
upper_is : (c : tie.After-upper-1) → to_z w8 (of_z w8 (get_or c.pairs-pairs.result (2 * c.place-k.result) (pos 0))) ≡ upper_at (read c.before.before.before.before.before)
upper_is c = to_z-of_z (upper_fits c) ∙ upper_in _ c.pairs-pairs.ensures (is_placed c.before)

lower_is : (c : tie.After-lower-1) → to_z w8 (of_z w8 (get_or c.pairs-pairs.result (2 * c.place-k.result + 1) (pos 0))) ≡ lower_at (read c.before.before.before.before.before.before)
lower_is c = to_z-of_z (lower_fits c) ∙ lower_in _ c.pairs-pairs.ensures (is_placed c.before.before)

cast_upper : tie.Need-overflow_cast-upper
cast_upper c = rw (upper_is c) (within_fits w64 tt (upper_within _))

cast_lower : tie.Need-overflow_cast-lower
cast_lower c = rw (lower_is c) (within_fits w64 tt (lower_within _))

returns : tie.Need-returns
returns c =
    let u = to_z-of_z (cast_upper c.before) ∙ upper_is c.before in
    let l = to_z-of_z (cast_lower c) ∙ lower_is c in
    λ i. record { upper = u i; lower = l i }

pub bounds_at_spec : {M : Type 1} → statement M
bounds_at_spec =
    tie.close
    (tie.spec
    pairs_requires
    sub_first
    sub_past
    place_requires
    mul_k
    array_copy_out_upper
    cast_upper
    add_lower
    array_copy_out_lower
    cast_lower
    returns)
