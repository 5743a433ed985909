-- `rules::rated` meets its contract: the library's answer, field by field; the first four of the earlier scores stand for all. Assumes nothing.
use native.Mathlib.Omega.{arith}
use mathlib.Core.Path.{ap, ap₂, ◌∙◌}
use mir.Facts.{to_z-of_z}
use Rattle.units.specs.Refusals.{wrong_length}
use Rattle.units.specs.Limits.{seconds_of_hour}
use Rattle.rate.specs.Rolling.{no_rate, hourly_rate}
use Rattle.numbers.specs.Numbers.{scores_in}
use Rattle.numbers.specs.Inner.{taken}
use Rattle.numbers.proofs.Bytes.{Lent, lent}
use Rattle.rules.specs.Rules.{rate_reply}
use Rattle.rules.proofs.Laws.{scores_filled, four_stand, rate_unfit}
use borrow.Author.Rules.{rules}
use Rattle.rules.proofs.rated.Statement.{statement}
use Rattle.rules.proofs.rated.Tie as tie

slice_aggregate_fill_bytes : tie.Need-slice_bounds-fill_bytes-end
slice_aggregate_fill_bytes c = search rules

fill_bytes_requires : tie.Need-fill_bytes-requires
fill_bytes_requires c κs = search rules

first_four_requires : tie.Need-first_four-before-requires
first_four_requires c κs = search rules

-- the first four, as they are lent
four : (c : tie.After-first_four-before) → Lent c.first_four-before.result
four c = lent _ c.first_four-before.ensures

array_share_prefix_first : tie.Need-slice_bounds-first-end
array_share_prefix_first c = omega (arith, four c.before)

slice_aggregate_hourly_rate : tie.Need-slice_bounds-hourly_rate-end
slice_aggregate_hourly_rate c = omega (arith, four c.before.before)

slice_aggregate_hourly_rate_2 : tie.Need-slice_bounds-hourly_rate-end-2
slice_aggregate_hourly_rate_2 c = search rules

hourly_rate_requires : tie.Need-hourly_rate-rated-requires
hourly_rate_requires c κs = search rules

cast_few : tie.Need-overflow_cast-rated
cast_few c = search rules

few_requires : tie.Need-few-requires
few_requires c κs = search rules

returns : tie.Need-returns
unfolding rate_reply
returns c =
    let r = c.before.before in
    let e = r.before.before.before.before in
    let f = e.before.before in
    let a = f.args in
    let scores = scores_filled a.tail.now seconds_of_hour _ f.requires f.fill_bytes.ensures in
    let rated = r.hourly_rate-rated.ensures ∙ ap₂ hourly_rate (ap taken e.first_four-before.ensures) scores ∙ four_stand hourly_rate (no_rate wrong_length) rate_unfit (scores_in a.tail.now) a.earlier.now in
    rw (c.few.ensures, to_z-of_z (cast_few c.before), rated)

pub rated_spec : {M : Type 1} → statement M
rated_spec =
    tie.close
    (tie.spec
    slice_aggregate_fill_bytes
    fill_bytes_requires
    first_four_requires
    array_share_prefix_first
    slice_aggregate_hourly_rate
    slice_aggregate_hourly_rate_2
    hourly_rate_requires
    cast_few
    few_requires
    returns)
