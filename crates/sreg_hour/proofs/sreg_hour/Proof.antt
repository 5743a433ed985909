-- `sreg_hour::sreg_hour` meets its contract: the terms' refusal decides; else the core. Assumes nothing.
use mathlib.Core.Path.{◌≡◌, sym, ◌∙◌}
use lib.ListN.{length}
use borrow.Author.Rules.{rules}
use Rattle.sreg_hour.specs.Hour.{SRegHour, sreg_hour}
use Rattle.sreg_hour.proofs.Laws.{terms, terms_refused, worked_is, worked_left_lem}
use Rattle.sreg_hour.proofs.sreg_hour.Statement.{statement}
use Rattle.sreg_hour.proofs.sreg_hour.Tie as tie

abbrev hour : tie.Start → SRegHour
hour s = let a = s.args in sreg_hour a.powers.now a.frequencies.now a.terms a.thresholds.now a.factors.now a.earlier.now a.state

terms_refusal_requires : tie.Need-terms_refusal-k-requires
terms_refusal_requires c κs = search rules

refused_requires : tie.Need-refused-requires
refused_requires c κs = search rules

returns : tie.Need-returns-then-k-ne0
returns c =
    let t = c in
    let s = t in
    terms_refused (hour s.before.before.before.before.before) s.args.scores.now t.terms_refusal-k.ensures t.if-k-ne0.true c.refused.ensures

worked_requires : tie.Need-worked-requires
worked_requires c κs = search rules

same_length : tie.Need-shape_of-scores
same_length c = search rules

returns_2 : tie.Need-returns
returns_2 c =
    let w = c in
    let e = w in
    let s = e in
    let run = s.args.scores.now in
    let none : terms (hour s.before.before.before.before.before.before.before.before) (length run) ≡ 0 = sym e.terms_refusal-k.ensures ∙ e.if-k-ne0.false in
    (w.worked.ensures.0 ∙ worked_is (hour s.before.before.before.before.before.before.before.before) (length run) none, w.worked.ensures.1 ∙ worked_left_lem (hour s.before.before.before.before.before.before.before.before) run none)

pub sreg_hour_spec : {M : Type 1} → statement M
sreg_hour_spec =
    tie.close
    (tie.spec
    terms_refusal_requires
    refused_requires
    returns
    worked_requires
    same_length
    returns_2)
