-- `hour::hour` meets its contract: the terms' refusal decides; else the core, over the plan of its targets. Assumes nothing.
use mathlib.Core.Path.{◌≡◌, sym, ◌∙◌}
use lib.ListN.{length}
use borrow.Author.Rules.{rules}
use Rattle.hour.specs.Hour.{WholeHour, edreg_hour, transfers_of}
use Rattle.hour.proofs.Laws.{of_terms, terms_fit, terms_refused, worked_is, left_is}
use Rattle.hour.proofs.hour.Statement.{statement}
use Rattle.hour.proofs.hour.Tie as tie

abbrev hour : tie.Start → WholeHour
hour s = let a = s.args in edreg_hour a.powers.now a.frequencies.now a.terms a.reference a.shift a.thresholds.now a.factors.now a.earlier.now

shift_refusal_requires : tie.Need-shift_refusal-k-requires
shift_refusal_requires c κs = search rules

refused_hour_requires : tie.Need-refused_hour-requires
refused_hour_requires c κs = search rules

returns : tie.Need-returns-then-k-ne0
returns c =
    let t = c in
    let s = t in
    terms_refused (hour s.before.before.before.before.before) s.args.scores.now t.shift_refusal-k.ensures t.if-k-ne0.true c.refused_hour.ensures

-- terms that are let through
through : (c : tie.Else-k-ne0) → let s = c in of_terms (hour s.before.before.before.before) (length s.args.scores.now) ≡ 0
through c = sym c.shift_refusal-k.ensures ∙ c.if-k-ne0.false

shifted_requires : tie.Need-shifted-requires
shifted_requires c κs = let e = c in let s = e in (terms_fit (hour s.before.before.before.before.before) (length s.args.scores.now) (through e.before)).targets

same_length : tie.Need-shape_of-scores
same_length c = search rules

returns_2 : tie.Need-returns
unfolding transfers_of
returns_2 c =
    let w = c in
    let e = w in
    let s = e in
    let run = s.args.scores.now in
    (w.shifted.ensures.0 ∙ worked_is (hour s.before.before.before.before.before.before.before.before) (length run) (through e.before.before.before.before), w.shifted.ensures.1 ∙ left_is (hour s.before.before.before.before.before.before.before.before) run (through e.before.before.before.before))

pub hour_spec : {M : Type 1} → statement M
hour_spec =
    tie.close
    (tie.spec shift_refusal_requires refused_hour_requires returns shifted_requires same_length returns_2)
