-- A refused run of seconds is its number alone beside `Outside`, and leaves the lent run as it was: answer and run go by one number. Assumes nothing.
use Prim.Native.Nat.{ℕ}
use mathlib.Core.Path.{sym, ap, ◌∙◌}
use mathlib.Core.List.{List}
use contract.Lifetimes.{Lfts}
use denote.Triple.Clauses.{AtExit}
use borrow.Fn.Kinds.{Dens, ended_of}
use Rattle.whole.specs.Refused.{RefusedKeeps}
use Rattle.sreg.specs.declared.EventState.TheVariants.{Outside}
use Rattle.sreg.specs.declared.Ended.{Ended}
use Rattle.sreg.specs.Run.{sreg_ended}
use Rattle.sreg.proofs.Laws.{hour_refused}
use Rattle.sreg.proofs.hour_scores.Reads as hour_scores
use Rattle.sreg.proofs.hour_scores.Kinds as hour_scores_kinds

abbrev lent : (κs : Lfts 3) → Dens κs hour_scores_kinds.ps → List ℕ
lent κs a = a.1.1.1.1.0.now

abbrev left : (κs : Lfts 3) → AtExit (ended_of 3 hour_scores_kinds.ps hour_scores_kinds.r) κs → List ℕ
left κs s = s.1.1.1.1.0.now

hour_scores_refused_keeps : RefusedKeeps 3 hour_scores_kinds.ps hour_scores_kinds.r (λ κs r. r.refusal) (λ κs a k. record { refusal = k; state = Outside }) lent left hour_scores.Post
unfolding sreg_ended
hour_scores_refused_keeps κs a r s p f =
    let k = ap (λ (x : Ended). x.refusal) p.0 in
    let e = hour_refused a.0.now a.1.0.now a.1.1.0 a.1.1.1.0 (lent κs a) (λ z. f (k ∙ z)) in
    (p.0 ∙ e.0 ∙ ap (λ (n : ℕ). record { refusal = n; state = Outside }) (sym k), p.1 ∙ e.1)
