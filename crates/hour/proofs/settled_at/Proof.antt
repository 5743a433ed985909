-- `hour::settled_at` meets its contract: its refusal decides; else that of `settled`, with nothing for energy. Assumes nothing.
use mathlib.Core.Path.{sym, ap, ◌∙◌}
use borrow.Author.Rules.{rules}
use Rattle.whole.proofs.Choice.{kept_new, kept_old}
use Rattle.hour.specs.Hour.{refused_hour, settled_at}
use Rattle.hour.proofs.settled_at.Statement.{statement}
use Rattle.hour.proofs.settled_at.Tie as tie

at_refusal_requires : tie.Need-at_refusal-k-requires
at_refusal_requires c κs = search rules

refused_hour_requires : tie.Need-refused_hour-requires
refused_hour_requires c κs = search rules

returns : tie.Need-returns-then-k-ne0
unfolding settled_at
returns c =
    let t = c in
    let n = t.at_refusal-k.ensures in
    c.refused_hour.ensures ∙ ap refused_hour n ∙ sym (kept_old _ _ (λ z. t.if-k-ne0.true (n ∙ z)))

settled_requires : tie.Need-settled-requires
settled_requires c κs = search rules

returns_2 : tie.Need-returns
unfolding settled_at
returns_2 c =
    let e = c in
    c.settled.ensures ∙ sym (kept_new _ _ (sym e.at_refusal-k.ensures ∙ e.if-k-ne0.false))

pub settled_at_spec : {M : Type 1} → statement M
settled_at_spec =
    tie.close
    (tie.spec at_refusal_requires refused_hour_requires returns settled_requires returns_2)
