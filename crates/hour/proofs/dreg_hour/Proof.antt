-- `hour::dreg_hour` meets its contract: the terms' refusal decides; else the core, over no transfers. Assumes nothing.
use mathlib.Core.Path.{◌≡◌, sym, ◌∙◌}
use lib.ListN.{length}
use borrow.Author.Rules.{rules}
use Rattle.hour.specs.Hour.{WholeHour, dreg_hour, transfers_of}
use Rattle.hour.proofs.Laws.{of_terms, terms_refused, worked_is, left_is}
use Rattle.hour.proofs.dreg_hour.Statement.{statement}
use Rattle.hour.proofs.dreg_hour.Tie as tie

abbrev hour : tie.Start → WholeHour
hour s = let a = s.args in dreg_hour a.powers.now a.frequencies.now a.terms a.reference a.thresholds.now a.factors.now a.earlier.now

reference_fits_requires : tie.Need-reference_fits-referred-requires
reference_fits_requires c κs = search rules

terms_refusal_requires : tie.Need-terms_refusal-k-requires
terms_refusal_requires c κs = search rules

-- the number that the terms are refused with
terms_are : (c : tie.After-terms_refusal-k) → let s = c in c.terms_refusal-k.result ≡ of_terms (hour s.before.before.before.before) (length s.args.scores.now)
terms_are c = rw c.reference_fits-referred.ensures at c.terms_refusal-k.ensures

refused_hour_requires : tie.Need-refused_hour-requires
refused_hour_requires c κs = search rules

returns : tie.Need-returns-then-k-ne0
returns c =
    let t = c in
    let s = t in
    terms_refused (hour s.before.before.before.before.before.before) s.args.scores.now (terms_are t.before.before) t.if-k-ne0.true c.refused_hour.ensures

slice_aggregate_worked : tie.Need-slice_bounds-worked-end
slice_aggregate_worked c = search rules

worked_requires : tie.Need-worked-requires
worked_requires c κs = search rules

same_length : tie.Need-shape_of-scores
same_length c = search rules

returns_2 : tie.Need-returns
unfolding transfers_of
returns_2 c =
    let w = c in
    let e = w in
    let s = e in
    let run = s.args.scores.now in
    let none : of_terms (hour s.before.before.before.before.before.before.before.before.before.before) (length run) ≡ 0 = sym (terms_are e.before.before.before.before.before.before) ∙ e.if-k-ne0.false in
    (w.worked.ensures.0 ∙ worked_is (hour s.before.before.before.before.before.before.before.before.before.before) (length run) none, w.worked.ensures.1 ∙ left_is (hour s.before.before.before.before.before.before.before.before.before.before) run none)

pub dreg_hour_spec : {M : Type 1} → statement M
dreg_hour_spec =
    tie.close
    (tie.spec
    reference_fits_requires
    terms_refusal_requires
    refused_hour_requires
    returns
    slice_aggregate_worked
    worked_requires
    same_length
    returns_2)
