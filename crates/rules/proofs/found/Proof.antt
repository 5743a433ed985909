-- `rules::found` meets its contract: the front of each column is lent to the lookup. Assumes nothing.
use borrow.Author.Rules.{rules}
use mathlib.Core.Path.{sym, ap₂, ◌∙◌}
use mathlib.Core.List.{List}
use lib.IntN.{ℤ}
use Rattle.bands.specs.Bands.{factor_answer}
use Rattle.numbers.proofs.Columns.{front}
use Rattle.rules.proofs.found.Statement.{statement}
use Rattle.rules.proofs.found.Tie as tie

slice_aggregate_column : tie.Need-slice_bounds-column-end
slice_aggregate_column c = search rules

column_requires : tie.Need-column-requires
column_requires c κs = search rules

slice_aggregate_column_2 : tie.Need-slice_bounds-column-end-2
slice_aggregate_column_2 c = search rules

column_requires_2 : tie.Need-column-requires-2
column_requires_2 c κs = search rules

array_share_prefix_thresholds : tie.Need-slice_bounds-thresholds-end
array_share_prefix_thresholds c = search rules

slice_aggregate_factor : tie.Need-slice_bounds-factor-end
slice_aggregate_factor c = let s = c.before.before.before.before.before.before.before in sym (front s.args.numbers.now 0 _ _ 100 s.requires c.column.ensures).long

array_share_prefix_factors : tie.Need-slice_bounds-factors-end
array_share_prefix_factors c = search rules

slice_aggregate_factor_2 : tie.Need-slice_bounds-factor-end-2
slice_aggregate_factor_2 c = let s = c.before.before.before.before.before.before.before.before in sym (front s.args.numbers.now 1 _ _ 100 s.requires c.column-2.ensures).long

factor_requires : tie.Need-factor-requires
factor_requires c κs = search rules

returns : tie.Need-returns
returns c =
    let s = c.before.before.before.before.before.before.before.before.before in
    let a = s.args in
    let n = a.numbers.now in
    let thresholds = (front n 0 _ a.n 100 s.requires c.column.ensures).is in
    let factors = (front n 1 _ a.n 100 s.requires c.column-2.ensures).is in
    c.factor.ensures ∙ ap₂ (λ (t f : List ℤ). factor_answer t f a.rate) thresholds factors

pub found_spec : {M : Type 1} → statement M
found_spec =
    tie.close
    (tie.spec
    slice_aggregate_column
    column_requires
    slice_aggregate_column_2
    column_requires_2
    array_share_prefix_thresholds
    slice_aggregate_factor
    array_share_prefix_factors
    slice_aggregate_factor_2
    factor_requires
    returns)
