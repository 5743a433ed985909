-- `sreg_hour::worked` meets its contract: the earlier scores are tested, then the scores' call decides by its number; else the settlement is that of the scores which it left. Assumes nothing.
use mathlib.Core.Path.{◌≡◌, refl, sym, ap, ◌∙◌}
use mathlib.Core.Bool.{true}
use lib.ListN.{length}
use borrow.Author.Rules.{rules}
use borrow.Author.Tests.{not-true, not-false}
use Rattle.whole.proofs.Choice.{kept_new, kept_old}
use Rattle.rate.specs.Rolling.{are_scores, hourly_rate}
use Rattle.rate.specs.declared.Rated.{Rated}
use Rattle.rate.proofs.Rates.{rate_within}
use Rattle.hour.specs.Hour.{settled_at}
use Rattle.sreg.specs.Run.{sreg_ended, sreg_scores_left}
use Rattle.sreg.specs.declared.Ended.{Ended}
use Rattle.sreg_hour.specs.Hour.{sreg_hour, sreg_scores, sreg_state, refused_sreg}
use Rattle.sreg_hour.specs.Inner.{sreg_worked_refusal, sreg_worked, sreg_worked_left}
use Rattle.sreg_hour.proofs.Laws.{rate_settles}
use Rattle.sreg_hour.proofs.worked.Statement.{statement}
use Rattle.sreg_hour.proofs.worked.Tie as tie

are_scores_requires : tie.Need-are_scores-requires
are_scores_requires c κs = search rules

refused_requires : tie.Need-refused-requires
refused_requires c κs = search rules

returns : tie.Need-returns-then-not-are_scores
unfolding sreg_worked sreg_worked_left sreg_worked_refusal
returns c =
    let t = c in
    rw (c.refused.ensures, sym t.are_scores.ensures ∙ not-true _ t.if-not-are_scores.true-raw) (refl, refl)

-- the earlier scores are let through
through : (c : tie.Else-not-are_scores) → are_scores c.args.earlier.now ≡ true
through c = sym c.are_scores.ensures ∙ not-false _ c.if-not-are_scores.false-raw

hour_scores_requires : tie.Need-hour_scores-ended-requires
hour_scores_requires c κs = search rules

refused_requires_2 : tie.Need-refused-requires-then-ended-ne0
refused_requires_2 c κs = search rules

same_length : tie.Need-shape_of-scores-then-ended-ne0
same_length c = search rules

returns_2 : tie.Need-returns-then-ended-ne0
unfolding sreg_worked sreg_worked_left sreg_worked_refusal sreg_ended sreg_scores_left sreg_scores
returns_2 c =
    let t = c in
    let r = t in
    let n = ap (λ (x : Ended). x.refusal) r.hour_scores-ended.ensures.0 in
    rw (through r.before.before.before.before.before.before.before.before) (c.refused-then-ended-ne0.ensures ∙ ap refused_sreg n ∙ sym (kept_old _ _ (λ z. t.if-ended-ne0.true (n ∙ z))), r.hour_scores-ended.ensures.1)

hourly_rate_requires : tie.Need-hourly_rate-rated-requires
hourly_rate_requires c κs = search rules

settled_at_requires : tie.Need-settled_at-requires
settled_at_requires c κs = search rules

same_length_2 : tie.Need-shape_of-scores
same_length_2 c = search rules

returns_3 : tie.Need-returns
unfolding sreg_worked sreg_worked_left sreg_worked_refusal sreg_ended sreg_scores_left sreg_scores sreg_state
returns_3 c =
    let q = c in
    let e = q in
    let r = e in
    let s = r in
    let a = s.args in
    let h = sreg_hour a.powers.now a.frequencies.now a.terms a.thresholds.now a.factors.now a.earlier.now a.state in
    let earlier = through r.before.before.before.before.before.before.before.before.before in
    let none = sym (ap (λ (x : Ended). x.refusal) r.hour_scores-ended.ensures.0) ∙ e.if-ended-ne0.false in
    let zero : sreg_worked_refusal h (length a.scores.now) ≡ 0 = rw earlier none in
    let scores = r.hour_scores-ended.ensures.1 ∙ kept_new _ _ none in
    let after = ap (λ (x : Ended). x.state) r.hour_scores-ended.ensures.0 ∙ kept_new _ _ none in
    let rate = ap (λ (x : Rated). x.rate) (q.hourly_rate-rated.ensures ∙ ap (hourly_rate a.earlier.now) scores) in
    let settled = ap (settled_at a.terms a.thresholds.now a.factors.now) rate ∙ rate_settles h (length a.scores.now) s.requires zero _ (rate_within a.earlier.now (sreg_scores h)) in
    rw earlier ((λ i. record { hour = (c.settled_at.ensures ∙ settled) i; state = after i }) ∙ sym (kept_new _ _ none), r.hour_scores-ended.ensures.1)

pub worked_spec : {M : Type 1} → statement M
worked_spec =
    tie.close
    (tie.spec
    are_scores_requires
    refused_requires
    returns
    hour_scores_requires
    refused_requires_2
    same_length
    returns_2
    hourly_rate_requires
    settled_at_requires
    same_length_2
    returns_3)
