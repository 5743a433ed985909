-- `rules::verdict` meets its contract: the library's answer, field by field, whose numbers are small; the first four of the earlier scores stand for all. Assumes nothing.
use Prim.Native.Nat.{ℕ, ◌*◌, ◌≤◌}
use native.Mathlib.Omega.{arith}
use mathlib.Core.Path.{◌≡◌, refl, ◌∙◌}
use mathlib.Core.Bool.{Bool, true, false}
use lib.IntN.{pos}
use mir.Syntax.{w64}
use mir.Val.{SFits, to_z, bool_byte}
use mir.Facts.{to_z-of_z}
use Rattle.whole.specs.Choice.{pick}
use Rattle.units.specs.Refusals.{wrong_length}
use Rattle.units.specs.Limits.{seconds_of_hour}
use Rattle.reached.specs.Reached.{no_verdict, hour_reached}
use Rattle.reached.proofs.Seconds.{answer_within}
use Rattle.numbers.specs.Numbers.{scores_in}
use Rattle.numbers.specs.Inner.{taken}
use Rattle.numbers.proofs.Bytes.{Lent, lent}
use Rattle.rules.proofs.Laws.{scores_filled, four_stand, reached_unfit}
use borrow.Author.Rules.{rules}
use Rattle.rules.proofs.verdict.Statement.{statement}
use Rattle.rules.proofs.verdict.Tie as tie

slice_aggregate_fill_bytes : tie.Need-slice_bounds-fill_bytes-end
slice_aggregate_fill_bytes c = search rules

fill_bytes_requires : tie.Need-fill_bytes-requires
fill_bytes_requires c κs = search rules

first_four_requires : tie.Need-first_four-before-requires
first_four_requires c κs = search rules

-- the first four, as they are lent
four : (c : tie.After-first_four-before) → Lent c.first_four-before.result
four c = lent _ c.first_four-before.ensures

array_share_prefix_first : tie.Need-slice_bounds-first-end
array_share_prefix_first c = omega (arith, four c.before)

slice_aggregate_reached : tie.Need-slice_bounds-reached-end
slice_aggregate_reached c = omega (arith, four c.before.before)

slice_aggregate_reached_2 : tie.Need-slice_bounds-reached-end-2
slice_aggregate_reached_2 c = search rules

reached_requires : tie.Need-reached-verdict-requires
reached_requires c κs = search rules

cast_reached : tie.Need-overflow_cast-reached
cast_reached c = search rules

-- its numbers are small
small : (c : tie.After-reached-verdict) → (c.reached-verdict.result.second ≤ seconds_of_hour) × (c.reached-verdict.result.judged ≤ seconds_of_hour) × (c.reached-verdict.result.read ≤ 4 * seconds_of_hour)
small c = rw c.reached-verdict.ensures (answer_within _ _ _)

fits : {n : ℕ} → n ≤ 4 * seconds_of_hour → SFits w64 (pos n)
fits h = record { sfits = omega arith }

cast_second : tie.Need-overflow_cast-second
cast_second c = fits (omega (arith, small c.before.before))

cast_judged : tie.Need-overflow_cast-judged
cast_judged c = fits (omega (arith, small c.before.before.before))

cast_read : tie.Need-overflow_cast-read
cast_read c = fits (small c.before.before.before.before).2

few_requires : tie.Need-few-requires
few_requires c κs = search rules

-- yes is 1, no is 0
said : (b : Bool) → to_z w64 (bool_byte b) ≡ pos (pick b 1 0)
said true = refl
said false = refl

returns : tie.Need-returns
returns c =
    let d = c.before in
    let b = d.before.before.before.before in
    let e = b.before.before.before.before in
    let f = e.before.before in
    let a = f.args in
    let scores = scores_filled a.tail.now seconds_of_hour _ f.requires f.fill_bytes.ensures in
    let judged =
    b.reached-verdict.ensures
    ∙ (λ i. hour_reached (taken (e.first_four-before.ensures i)) (scores i) a.threshold)
    ∙ four_stand (λ l k. hour_reached l k a.threshold) (no_verdict wrong_length) (reached_unfit a.threshold) (scores_in a.tail.now) a.earlier.now in
    rw (c.few.ensures, said _, to_z-of_z (cast_second d.before.before), to_z-of_z (cast_judged d.before), to_z-of_z (cast_read d), judged)

pub verdict_spec : {M : Type 1} → statement M
verdict_spec =
    tie.close
    (tie.spec
    slice_aggregate_fill_bytes
    fill_bytes_requires
    first_four_requires
    array_share_prefix_first
    slice_aggregate_reached
    slice_aggregate_reached_2
    reached_requires
    cast_reached
    cast_second
    cast_judged
    cast_read
    few_requires
    returns)
