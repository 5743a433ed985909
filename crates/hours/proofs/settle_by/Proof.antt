-- `hours::settle_by` meets its contract: the two columns of the readings are lent on, and the earlier scores as bytes. Assumes nothing.
use borrow.Author.Rules.{rules}
use mathlib.Core.Path.{◌≡◌, ◌∙◌}
use lib.ListN.{length}
use Rattle.units.specs.Limits.{seconds_of_hour}
use Rattle.numbers.proofs.Bytes.{lent}
use Rattle.hours.proofs.HourLaws.{ended_is, left_is}
use Rattle.hours.proofs.settle_by.Statement.{statement}
use Rattle.hours.proofs.settle_by.Tie as tie

slice_aggregate_column : tie.Need-slice_bounds-column-end
slice_aggregate_column c = search rules

column_requires : tie.Need-column-requires
column_requires c κs = search rules

slice_aggregate_column_2 : tie.Need-slice_bounds-column-end-2
slice_aggregate_column_2 c = search rules

column_requires_2 : tie.Need-column-requires-2
column_requires_2 c κs = search rules

first_four_requires : tie.Need-first_four-before-requires
first_four_requires c κs = search rules

slice_aggregate_settle_bands : tie.Need-slice_bounds-settle_bands-end
slice_aggregate_settle_bands c = search rules

slice_aggregate_settle_bands_2 : tie.Need-slice_bounds-settle_bands-end-2
slice_aggregate_settle_bands_2 c = search rules

settle_bands_requires : tie.Need-settle_bands-requires
settle_bands_requires c κs = (lent _ c.first_four-before.ensures).fits

long : (c : tie.After-settle_bands-arg-1) → length c.args.scores.now ≡ seconds_of_hour
long c = search (rules, c.settle_bands-arg-1)

returns : tie.Need-returns
returns c =
    let b = c in
    let y = b in
    let x = y in
    let s = x in
    let a = s.args in (
      c.settle_bands.ensures.0
          ∙ ended_is a.hour a.terms a.reference a.shift a.state a.bands.now a.earlier.now a.readings.now _ _ _ a.scores.now x.column.ensures y.column-2.ensures b.first_four-before.ensures (long c.before) s.requires,
      c.settle_bands.ensures.1
          ∙ left_is a.hour a.terms a.reference a.shift a.state a.bands.now a.earlier.now a.readings.now _ _ _ a.scores.now x.column.ensures y.column-2.ensures b.first_four-before.ensures (long c.before) s.requires,
    )

pub settle_by_spec : {M : Type 1} → statement M
settle_by_spec =
    tie.close
    (tie.spec
    slice_aggregate_column
    column_requires
    slice_aggregate_column_2
    column_requires_2
    first_four_requires
    slice_aggregate_settle_bands
    slice_aggregate_settle_bands_2
    settle_bands_requires
    returns)
