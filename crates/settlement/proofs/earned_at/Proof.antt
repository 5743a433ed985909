-- `settlement::earned_at` meets its contract: the refusal decides; else the fees by the factor. Assumes nothing.
use mathlib.Core.Path.{◌≡◌, sym, ap, ◌∙◌}
use mir.Facts.{to_z-of_z}
use borrow.Author.Rules.{rules}
use Rattle.whole.proofs.Choice.{kept_new, kept_old}
use Rattle.units.specs.Limits.{is_factor}
use Rattle.settlement.specs.Settlement.{refused_hour, at_refusal, earned_at}
use Rattle.settlement.proofs.Laws.{at_fit, paid_within}
use Rattle.settlement.proofs.earned_at.Statement.{statement}
use Rattle.settlement.proofs.earned_at.Tie as tie

within_requires : tie.Need-within-known-requires
within_requires c κs = search rules

at_refusal_requires : tie.Need-at_refusal-k-requires
at_refusal_requires c κs = search rules

refused_hour_requires : tie.Need-refused_hour-requires
refused_hour_requires c κs = search rules

-- the number, by the test of the factor
number_is : (c : tie.After-at_refusal-k) → let a = c.args in c.at_refusal-k.result ≡ at_refusal a.terms (is_factor a.factor) a.energy a.rate
number_is c = let w = c in simp (w.within-known.ensures, to_z-of_z w.ranges.factor) at c.at_refusal-k.ensures

returns : tie.Need-returns-then-k-ne0
unfolding earned_at
returns c =
    let t = c in
    let n = number_is t.before.before in
    c.refused_hour.ensures ∙ ap refused_hour n ∙ sym (kept_old _ _ (λ z. t.if-k-ne0.true (n ∙ z)))

-- nothing is refused
none : (c : tie.Else-k-ne0) → let a = c.args in at_refusal a.terms (is_factor a.factor) a.energy a.rate ≡ 0
none c = sym (number_is c.before) ∙ c.if-k-ne0.false

earned_requires : tie.Need-earned-requires
earned_requires c κs = paid_within (at_fit _ _ _ _ (none c)).paid

returns_2 : tie.Need-returns
unfolding earned_at
returns_2 c =
    let e = c in
    rw (to_z-of_z e.ranges.factor) at c.earned.ensures ∙ sym (kept_new _ _ (none e.before))

pub earned_at_spec : {M : Type 1} → statement M
earned_at_spec =
    tie.close
    (tie.spec
    within_requires
    at_refusal_requires
    refused_hour_requires
    returns
    earned_requires
    returns_2)
