-- `score::judged_in` meets its contract: so far past the moved first corner the table has the pair of the frequency moved back. Assumes nothing.
use Prim.Native.Nat.{◌+◌, ◌*◌, ◌<◌}
use mathlib.Core.Path.{◌≡◌, ◌∙◌}
use native.Mathlib.Omega.{arith}
use lib.IntN.{ℤ, pos}
use lib.ListN.{get_or}
use mir.Syntax.{w8, w64}
use mir.Val.{SFits, to_z, of_z}
use mir.Facts.{to_z-of_z}
use borrow.Author.Rules.{rules}
use Rattle.whole.proofs.Signed.{back, inside, within_fits}
use Rattle.whole.proofs.Sums.{in_within}
use Rattle.curve.specs.Curve.{moved_back, upper_at, lower_at}
use Rattle.curve.specs.Inner.{place_at}
use Rattle.curve.proofs.Limits.{place_within, placed_by, pair_inside, upper_in, lower_in, upper_within, lower_within, bounds_ordered}
use Rattle.score.specs.Score.{judged_by}
use Rattle.score.proofs.Laws.{second_fit}
use Rattle.score.specs.Accepted.{SecondFits}
use Rattle.score.proofs.judged_in.Statement.{statement}
use Rattle.score.proofs.judged_in.Tie as tie

fit : (s : tie.Start) → let a = s.args in SecondFits a.power a.transfer a.capacity a.frequency a.reference
fit s = let a = s.args in second_fit a.power a.transfer a.capacity a.frequency a.reference s.requires.1.1

past_first_requires : tie.Need-past_first-requires
past_first_requires c κs = let f = fit c in record { reference = f.reference; frequency = f.frequency }

place_requires : tie.Need-place-k-requires
place_requires c κs = search rules

-- the frequency that the table is read at, and its place
abbrev read : tie.Start → ℤ
read s = moved_back s.args.reference.0 s.args.frequency.0

placed : (c : tie.After-place-k) → c.place-k.result ≡ place_at (read c.before.before)
placed c =
    let f = c.before in
    let a = f.args in
    placed_by a.reference.0 a.frequency.0 (back w64 f.past_first.type_inv f.past_first.ensures) c.place-k.ensures

place_small : (c : tie.After-place-k) → c.place-k.result < 501
place_small c = let p = placed c in omega (arith, place_within (read c.before.before))

mul_k : tie.Need-overflow_mul-k
mul_k c = let p = place_small c in record { fits = omega arith }

shared_slice_copy_out_upper : tie.Need-bounds-pairs-k
shared_slice_copy_out_upper c = omega (arith, pair_inside _ c.requires.1.0 (placed c))

add_lower : tie.Need-overflow_add-lower
add_lower c = let p = place_small c.before in record { fits = omega arith }

shared_slice_copy_out_lower : tie.Need-bounds-pairs-k-2
shared_slice_copy_out_lower c = pair_inside _ c.requires.1.0 (placed c.before)

upper_fits : (c : tie.After-upper-1) → SFits w8 (get_or c.args.pairs.now (2 * c.place-k.result) (pos 0))
upper_fits c = search rules

lower_fits : (c : tie.After-lower-1) → SFits w8 (get_or c.args.pairs.now (2 * c.place-k.result + 1) (pos 0))
lower_fits c = search rules

-- the two bounds, as they are read
upper_read : (c : tie.After-upper-1) → to_z w8 (of_z w8 (get_or c.args.pairs.now (2 * c.place-k.result) (pos 0))) ≡ upper_at (read c.before.before.before)
upper_read c = to_z-of_z (upper_fits c) ∙ upper_in _ c.requires.1.0 (placed c.before)

lower_read : (c : tie.After-lower-1) → to_z w8 (of_z w8 (get_or c.args.pairs.now (2 * c.place-k.result + 1) (pos 0))) ≡ lower_at (read c.before.before.before.before)
lower_read c = to_z-of_z (lower_fits c) ∙ lower_in _ c.requires.1.0 (placed c.before.before)

cast_upper : tie.Need-overflow_cast-upper
cast_upper c = rw (upper_read c) (within_fits w64 tt (upper_within _))

cast_lower : tie.Need-overflow_cast-lower
cast_lower c = rw (lower_read c) (within_fits w64 tt (lower_within _))

-- as they are handed on
upper_is : (c : tie.After-upper-1) → to_z w64 (of_z w64 (to_z w8 (of_z w8 (get_or c.args.pairs.now (2 * c.place-k.result) (pos 0))))) ≡ upper_at (read c.before.before.before)
upper_is c = to_z-of_z (cast_upper c) ∙ upper_read c

lower_is : (c : tie.After-lower-1) → to_z w64 (of_z w64 (to_z w8 (of_z w8 (get_or c.args.pairs.now (2 * c.place-k.result + 1) (pos 0))))) ≡ lower_at (read c.before.before.before.before)
lower_is c = to_z-of_z (cast_lower c) ∙ lower_read c

by_bounds_requires : tie.Need-by_bounds-requires
by_bounds_requires c κs =
    let s = c.before.before.before.before in
    let f = fit s in
    let z = read s in
    rw (upper_is c.before, lower_is c) ((in_within f.power, (in_within f.transfer, inside f.capacity)), (s.requires.0, (upper_within z, (lower_within z, bounds_ordered z))))

returns : tie.Need-returns
unfolding judged_by
returns c = let b = c.before in rw (upper_is b.before, lower_is b) at c.by_bounds.ensures

pub judged_in_spec : {M : Type 1} → statement M
judged_in_spec =
    tie.close
    (tie.spec
    past_first_requires
    place_requires
    mul_k
    shared_slice_copy_out_upper
    cast_upper
    add_lower
    shared_slice_copy_out_lower
    cast_lower
    by_bounds_requires
    returns)
