-- `rules::rate` meets its contract: earlier scores that are not counted, and scores of another number, are refused. Assumes nothing.
use mathlib.Core.Path.{◌≡◌, sym, ap, ◌∙◌}
use mathlib.Core.Bool.{true, ◌&&◌}
use mathlib.Core.List.{[], ◌∷◌}
use lib.Dec.{eqb}
use lib.IntN.{pos}
use lib.ListN.{length}
use borrow.Author.Tests.{not-true, not-false}
use Rattle.units.specs.Refusals.{wrong_length}
use Rattle.units.specs.Limits.{seconds_of_hour}
use Rattle.rate.specs.Rolling.{no_rate, hourly_rate}
use Rattle.rate.specs.declared.Rated.{Rated}
use Rattle.words.specs.Replies.{reply}
use Rattle.words.specs.Inner.{boxed}
use Rattle.rules.specs.Rules.{rate_reply}
use Rattle.rules.proofs.Laws.{not_asked, asked_whole, rate_unfit}
use borrow.Author.Rules.{rules}
use Rattle.rules.proofs.rate.Statement.{statement}
use Rattle.rules.proofs.rate.Tie as tie

few_requires : tie.Need-few-requires
few_requires c κs = search rules

returns : tie.Need-returns-then-not-counted-tail
unfolding rate_reply
returns c =
    let a = c.args in
    let t = a.tail.now in
    let n = not-true (a.counted && eqb (length t) seconds_of_hour) c.if-not-counted-tail.true-raw in
    c.few.ensures ∙ sym (ap (λ (r : Rated). boxed (reply r.refusal (pos r.rate ∷ []))) (not_asked hourly_rate (no_rate wrong_length) rate_unfit a.counted a.earlier.now t n))

-- they are counted, and as many as the hour's seconds
whole : (c : tie.Else-not-counted-tail) →
    let a = c.args in
    (a.counted ≡ true) × (length a.tail.now ≡ seconds_of_hour)
whole c = asked_whole _ _ (not-false _ c.if-not-counted-tail.false-raw)

rated_requires : tie.Need-rated-requires
rated_requires c κs = (whole c).1

returns_2 : tie.Need-returns
returns_2 c = rw (whole c.before).0 c.rated.ensures

pub rate_spec : {M : Type 1} → statement M
rate_spec = tie.close (tie.spec few_requires returns rated_requires returns_2)
