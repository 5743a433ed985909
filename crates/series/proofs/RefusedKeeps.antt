-- Demand 1: a refused answer has its number and no fields, and leaves the lent run as it was. By the number. Assumes nothing.
use Prim.Native.Nat.{ℕ}
use mathlib.Core.Path.{◌≡◌, refl, sym, ap, ◌∙◌}
use mathlib.Core.List.{List, []}
use lib.IntN.{ℤ}
use contract.Lifetimes.{Lfts}
use denote.Triple.Clauses.{AtExit}
use borrow.Fn.Kinds.{Dens, ended_of}
use Rattle.whole.specs.Refused.{RefusedKeeps}
use Rattle.whole.specs.Choice.{kept}
use Rattle.words.specs.Replies.{Reply, reply}
use Rattle.words.specs.declared.Series.{Series}
use Rattle.words.specs.declared.Series.TheVariants.{Ramp, DregScores, EdregScores, SregScores}
use Rattle.hours.specs.Hours.{HourNumbers, scores_reply}
use Rattle.series.specs.Series.{ramp_reply, series_reply}
use Rattle.series.specs.Inner.{ran_of, ran_left}
use Rattle.series.specs.declared.Ran.{Ran}
use Rattle.series.proofs.Laws.{none_ran}
use Rattle.series.proofs.answer.Reads as answer
use Rattle.series.proofs.answer.Kinds as answer_kinds

abbrev bare : ℕ → Ran
bare k = record { refusal = k; count = 0 }

-- beside a refusal
abbrev Keeps : Reply → Type 0
Keeps r = (run : List ℤ) → (r.refusal ≡ 0 → ⊥) → (ran_of r ≡ bare r.refusal) × (ran_left r run ≡ run)

by_number : (k : ℕ) (fields : List ℤ) → Keeps (reply k (kept k fields []))
by_number k fields run f = let d = none_ran k k fields refl run f in (sym d.0, sym d.1)

keeps : (asks : Series) (n : List ℤ) (given : HourNumbers) → Keeps (series_reply asks n given)
unfolding ramp_reply scores_reply
keeps Ramp n given = by_number _ _
keeps DregScores n given = by_number _ _
keeps EdregScores n given = by_number _ _
keeps SregScores n given = by_number _ _

-- the run, as it was lent and as it is left
abbrev lent : (κs : Lfts 4) → Dens κs answer_kinds.ps → List ℤ
lent κs a = a.1.1.1.1.1.1.0.now

abbrev left : (κs : Lfts 4) → AtExit (ended_of 4 answer_kinds.ps answer_kinds.r) κs → List ℤ
left κs s = s.1.1.1.1.1.1.0.now

answer_refused_keeps : RefusedKeeps 4 answer_kinds.ps answer_kinds.r (λ κs x. x.refusal) (λ κs a k. bare k) lent left answer.Post
unfolding ran_of
answer_refused_keeps κs a x s p f =
    let k = ap (λ (y : Ran). y.refusal) p.0 in
    let d = keeps a.0 a.1.0 _ (lent κs a) (λ z. f (k ∙ z)) in
    (p.0 ∙ d.0 ∙ sym (ap bare k), p.1 ∙ d.1)
