-- `hour::worked` meets its contract: the earlier scores are tested, then the run call's number decides; else the settlement is that of the scores which it left. Assumes nothing.
use Prim.Native.Nat.{ℕ}
use mathlib.Core.Path.{◌≡◌, refl, sym, ap, ◌∙◌}
use mathlib.Core.Bool.{true}
use mathlib.Core.List.{List}
use borrow.Author.Rules.{rules}
use borrow.Author.Tests.{not-true, not-false}
use Rattle.whole.proofs.Choice.{kept_new, kept_old}
use Rattle.rate.specs.Rolling.{are_scores, hourly_rate}
use Rattle.score.specs.Run.{run_left}
use Rattle.hour.specs.Hour.{settled_of, refused_hour}
use Rattle.hour.specs.Inner.{worked_refusal, worked_of, worked_left}
use Rattle.rate.specs.declared.Rated.{Rated}
use Rattle.hour.proofs.worked.Statement.{statement}
use Rattle.hour.proofs.worked.Tie as tie

are_scores_requires : tie.Need-are_scores-requires
are_scores_requires c κs = search rules

refused_hour_requires : tie.Need-refused_hour-requires
refused_hour_requires c κs = search rules

returns : tie.Need-returns-then-not-are_scores
unfolding worked_of worked_left worked_refusal
returns c =
    let t = c in
    rw (c.refused_hour.ensures, sym t.are_scores.ensures ∙ not-true _ t.if-not-are_scores.true-raw) (refl, refl)

-- the earlier scores are let through
through : (c : tie.Else-not-are_scores) → are_scores c.args.earlier.now ≡ true
through c = sym c.are_scores.ensures ∙ not-false _ c.if-not-are_scores.false-raw

run_scores_requires : tie.Need-run_scores-number-requires
run_scores_requires c κs = search rules

refused_hour_requires_2 : tie.Need-refused_hour-requires-then-number-ne0
refused_hour_requires_2 c κs = search rules

same_length : tie.Need-shape_of-scores-then-number-ne0
same_length c = search rules

returns_2 : tie.Need-returns-then-number-ne0
unfolding worked_of worked_left worked_refusal run_left
returns_2 c =
    let t = c in
    let r = t in
    let n = r.run_scores-number.ensures.0 in
    rw (through r.before.before.before.before.before.before.before) (c.refused_hour-then-number-ne0.ensures ∙ ap refused_hour n ∙ sym (kept_old _ _ (λ z. t.if-number-ne0.true (n ∙ z))), r.run_scores-number.ensures.1)

hourly_rate_requires : tie.Need-hourly_rate-rate-requires
hourly_rate_requires c κs = search rules

settled_requires : tie.Need-settled-requires
settled_requires c κs = search rules

same_length_2 : tie.Need-shape_of-scores
same_length_2 c = search rules

returns_3 : tie.Need-returns
unfolding worked_of worked_left worked_refusal run_left
returns_3 c =
    let e = c in
    let r = e in
    let a = r.args in
    let none = sym r.run_scores-number.ensures.0 ∙ e.if-number-ne0.false in
    let scores = r.run_scores-number.ensures.1 ∙ kept_new _ _ none in
    let rate = ap (λ (x : Rated). settled_of a.terms a.thresholds.now a.factors.now a.energy x.rate) c.hourly_rate-rate.ensures in
    let settled = ap (λ (l : List ℕ). settled_of a.terms a.thresholds.now a.factors.now a.energy (hourly_rate a.earlier.now l).rate) scores in
    rw (through r.before.before.before.before.before.before.before.before) (c.settled.ensures ∙ rate ∙ settled ∙ sym (kept_new _ _ none), r.run_scores-number.ensures.1)

pub worked_spec : {M : Type 1} → statement M
worked_spec =
    tie.close
    (tie.spec
    are_scores_requires
    refused_hour_requires
    returns
    run_scores_requires
    refused_hour_requires_2
    same_length
    returns_2
    hourly_rate_requires
    settled_requires
    same_length_2
    returns_3)
