-- A turn gathers the record at i: what was left is that record and what is left now.
use Rattle.std.proofs.Common.{◌≡◌, ◌+◌, ◌<◌, ℕ, List, length, pos, drop, get_or, sym, ap, ◌∙◌}
use Rattle.std.proofs.Common.{arith}
use Rattle.std.proofs.lemmas.List.{drop_more, at_drop_all}
use Rattle.records.specs.declared.Band.{Band}
use Rattle.records.specs.declared.Columns.{Columns}
use Rattle.records.specs.Inner.{next, gathered}
use Rattle.records.proofs.columns_of.Goals as goal

turned : (c n : Columns) (bands : List Band) (i : ℕ) (d : Band) → i < length bands → n ≡ next c (get_or bands i d) → gathered c (drop i bands) ≡ gathered n (drop (i + 1) bands)
unfolding gathered
turned c n bands i d h e = ap (gathered c) (drop_more bands i d h) ∙ ap (λ (m : Columns). gathered m (drop (i + 1) bands)) (sym e)

pub loop-band-preserved : goal.loop-band-preserved
loop-band-preserved c =
    let l = c.loop-band in
    sym (turned l.columns c.next-columns.result c.args.bands.now l.band-index (record { threshold = pos 0; factor = pos 0 }) c.loop-band-test.true c.next-columns.ensures) ∙ l.invariant

pub returns : goal.returns
unfolding gathered
returns c = sym (at_drop_all (gathered c.loop-band.columns) c.args.bands.now c.loop-band.band-index (omega arith)) ∙ c.loop-band.invariant
