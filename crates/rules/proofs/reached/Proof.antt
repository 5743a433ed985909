-- `rules::reached` meets its contract: earlier scores that are not counted, and scores of another number, are refused. Assumes nothing.
use mathlib.Core.Path.{◌≡◌, sym, ap, ◌∙◌}
use mathlib.Core.Bool.{true, ◌&&◌}
use lib.Dec.{eqb}
use lib.IntN.{pos}
use lib.ListN.{length, get_or}
use mir.Syntax.{w64}
use mir.Val.{SFits}
use mir.Facts.{to_z-of_z}
use borrow.Author.Tests.{not-true, not-false}
use Rattle.units.specs.Refusals.{wrong_length}
use Rattle.units.specs.Limits.{seconds_of_hour}
use Rattle.reached.specs.Reached.{no_verdict, hour_reached}
use Rattle.numbers.specs.Numbers.{number, byte_of}
use Rattle.words.specs.Inner.{boxed}
use Rattle.rules.specs.Rules.{verdict_reply, reached_reply}
use Rattle.rules.proofs.Laws.{not_asked, asked_whole, reached_unfit}
use borrow.Author.Rules.{rules}
use Rattle.rules.proofs.reached.Statement.{statement}
use Rattle.rules.proofs.reached.Tie as tie

few_requires : tie.Need-few-requires
few_requires c κs = search rules

returns : tie.Need-returns-then-not-counted-tail
unfolding reached_reply
returns c =
    let a = c.args in
    let t = a.tail.now in
    let threshold = byte_of (number a.head 0) in
    let n = not-true (a.counted && eqb (length t) seconds_of_hour) c.if-not-counted-tail.true-raw in
    c.few.ensures
    ∙ sym (ap (λ v. boxed (verdict_reply v)) (not_asked (λ l k. hour_reached l k threshold) (no_verdict wrong_length) (reached_unfit threshold) a.counted a.earlier.now t n))

array_copy_out_byte_of : tie.Need-bounds-head-0
array_copy_out_byte_of c = search rules

byte_of_requires : tie.Need-byte_of-requires
byte_of_requires c κs = search rules

-- they are counted, and as many as the hour's seconds
whole : (c : tie.Else-not-counted-tail) →
    let a = c.args in
    (a.counted ≡ true) × (length a.tail.now ≡ seconds_of_hour)
whole c = asked_whole _ _ (not-false _ c.if-not-counted-tail.false-raw)

verdict_requires : tie.Need-verdict-requires
verdict_requires c κs = (whole c.before.before).1

returns_2 : tie.Need-returns
unfolding reached_reply
returns_2 c =
    let a = c.args in
    let n0 : SFits w64 (get_or a.head 0 (pos 0)) = search rules in
    let byte = rw (to_z-of_z n0) at c.byte_of.ensures in
    rw ((whole c.before.before.before).0, sym byte) c.verdict.ensures

pub reached_spec : {M : Type 1} → statement M
reached_spec =
    tie.close
    (tie.spec
    few_requires
    returns
    array_copy_out_byte_of
    byte_of_requires
    verdict_requires
    returns_2)
