-- `hours::settle_asked` meets its contract: the counts are tested, and the rest is settled by the terms and the state. Assumes nothing.
use mathlib.Core.Path.{◌≡◌, sym, ap, ◌∙◌}
use mathlib.Core.Bool.{true, false}
use lib.ListN.{length, drop}
use borrow.Author.Tests.{not-true, not-false}
use borrow.Author.Rules.{rules}
use Rattle.hours.specs.Hours.{terms_of, reference_of, shift_of, counts_fit, state_numbers, state_handed, stateless}
use Rattle.hours.proofs.HourLaws.{is_counted, ended_none, left_none}
use Rattle.hours.proofs.settle_asked.Statement.{statement}
use Rattle.hours.proofs.settle_asked.Tie as tie

seconds_in_requires : tie.Need-seconds_in-seconds-requires
seconds_in_requires c κs = search rules

counts_fit_requires : tie.Need-counts_fit-requires
counts_fit_requires c κs = search rules

refused_hour_requires : tie.Need-refused_hour-requires
refused_hour_requires c κs = search rules

stateless_requires : tie.Need-stateless-requires
stateless_requires c κs = search rules

returns : tie.Need-returns-then-not-counts_fit
returns c =
    let t = c in
    let n = t in
    let a = n.args in
    let seconds = drop (state_numbers a.hour) a.readings.now in
    let e : counts_fit (length a.bands.now) a.counted (length seconds) ≡ false = rw n.seconds_in-seconds.ensures at (sym n.counts_fit.ensures ∙ not-true _ t.if-not-counts_fit.true-raw) in
    let terms = terms_of a.hour a.terms in
    let reference = reference_of a.hour a.terms in
    let shift = shift_of a.terms in
    let state = state_handed a.hour a.readings.now in (
      c.stateless.ensures ∙ ap stateless c.refused_hour.ensures ∙ ended_none a.hour terms reference shift state a.bands.now a.counted a.earlier.now seconds e,
      left_none a.hour terms reference shift state a.bands.now a.counted a.earlier.now seconds e a.scores.now,
    )

terms_of_requires : tie.Need-terms_of-requires
terms_of_requires c κs = search rules

reference_of_requires : tie.Need-reference_of-requires
reference_of_requires c κs = search rules

shift_of_requires : tie.Need-shift_of-requires
shift_of_requires c κs = search rules

state_in_requires : tie.Need-state_in-requires
state_in_requires c κs = search rules

-- the numbers are as many as there are to be, and so the earlier scores are counted
counts : (c : tie.Else-not-counts_fit) → let n = c in let a = n.args in counts_fit (length a.bands.now) a.counted (length n.seconds_in-seconds.result.now) ≡ true
counts c = sym c.counts_fit.ensures ∙ not-false _ c.if-not-counts_fit.false-raw

counted : (c : tie.Else-not-counts_fit) → c.args.counted ≡ true
counted c = let n = c in let a = n.args in is_counted (length a.bands.now) (length n.seconds_in-seconds.result.now) a.counted (counts c)

settle_by_requires : tie.Need-settle_by-requires
settle_by_requires c κs = let e = c in rw (counted e.before.before.before.before.before) at (counts e.before.before.before.before.before)

returns_2 : tie.Need-returns
returns_2 c =
    let i = c in
    let e = i in
    rw (counted e.before.before.before.before.before.before)
    (rw (i.state_in.ensures, i.shift_of.ensures, i.reference_of.ensures, i.terms_of.ensures, e.seconds_in-seconds.ensures) at c.settle_by.ensures)

pub settle_asked_spec : {M : Type 1} → statement M
settle_asked_spec =
    tie.close
    (tie.spec
    seconds_in_requires
    counts_fit_requires
    refused_hour_requires
    stateless_requires
    returns
    terms_of_requires
    reference_of_requires
    shift_of_requires
    state_in_requires
    settle_by_requires
    returns_2)
