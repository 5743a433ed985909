-- A refused hour has its number and zeros, and leaves the lent run of scores as it was. Assumes nothing.
use Prim.Native.Nat.{ℕ}
use mathlib.Core.Path.{◌≡◌, refl, sym, ap, ◌∙◌}
use mathlib.Core.List.{List}
use lib.IntN.{ℤ, pos}
use lib.ListN.{replicate}
use contract.Lifetimes.{Lfts}
use denote.Triple.Clauses.{AtExit}
use borrow.Fn.Kinds.{Dens, ended_of}
use Rattle.whole.specs.Refused.{RefusedKeeps, RefusedBare}
use Rattle.whole.proofs.Choice.{kept_old}
use Rattle.hour.specs.Hour.{refused_hour}
use Rattle.hour.specs.declared.Settlement.{Settlement}
use Rattle.words.specs.Replies.{reply}
use Rattle.words.specs.Inner.{boxed}
use Rattle.words.specs.declared.Few.{Few}
use Rattle.words.specs.declared.Hour as words
use Rattle.words.specs.declared.Hour.TheVariants.{Dreg, Edreg, Sreg}
use Rattle.sreg_hour.specs.Hour.{refused_sreg}
use Rattle.sreg_hour.specs.declared.Settled.{Settled}
use Rattle.hours.specs.Hours.{scores_after, hour_shown, hour_reply}
use Rattle.hours.specs.Inner.{fields_shown}
use Rattle.hours.proofs.HourLaws.{refused_is}
use Rattle.hours.proofs.settle.Reads as settle
use Rattle.hours.proofs.settle.Kinds as settle_kinds
use Rattle.hours.proofs.answer.Reads as answer
use Rattle.hours.proofs.answer.Kinds as answer_kinds

-- `settle`'s run of scores, as it was lent and as it is left
abbrev lent : (κs : Lfts 4) → Dens κs settle_kinds.ps → List ℕ
lent κs a = a.1.1.1.1.1.1.0.now

abbrev left : (κs : Lfts 4) → AtExit (ended_of 4 settle_kinds.ps settle_kinds.r) κs → List ℕ
left κs s = s.1.1.1.1.1.1.0.now

settle_refused_keeps : RefusedKeeps 4 settle_kinds.ps settle_kinds.r (λ κs x. x.refusal) (λ κs a k. refused_hour k) lent left settle.Post
unfolding scores_after
settle_refused_keeps κs a x s p f =
    let k = ap (λ (y : Settlement). y.refusal) p.0 in
    (p.0 ∙ ap (λ (y : Settled). y.hour) (refused_is _ (λ z. f (k ∙ z))) ∙ sym (ap refused_hour k), p.1 ∙ kept_old _ _ (λ z. f (k ∙ z)))

-- zeros beside the number: seven, and for sReg a state's three
abbrev zeros : words.Hour → List ℤ
zeros hour = replicate (fields_shown hour) (pos 0)

refused_zeros : (hour : words.Hour) (k : ℕ) → hour_shown hour (refused_sreg k) ≡ reply k (zeros hour)
unfolding refused_hour
refused_zeros Dreg k = refl
refused_zeros Edreg k = refl
refused_zeros Sreg k = refl

answer_refused_keeps : RefusedBare 3 answer_kinds.ps answer_kinds.r (λ κs x. x.refusal) (λ κs a k. boxed (reply k (zeros a.0))) answer.Post
unfolding hour_reply
answer_refused_keeps κs a x s p f =
    let k = ap (λ (y : Few). y.refusal) p in
    p ∙ ap (λ (y : Settled). boxed (hour_shown a.0 y)) (refused_is _ (λ z. f (k ∙ z))) ∙ ap boxed (refused_zeros a.0 _) ∙ sym (ap (λ n. boxed (reply n (zeros a.0))) k)
