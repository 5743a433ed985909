-- A refused hour is its number alone and leaves the lent run as it was: answer and run go by one number. Assumes nothing.
use Prim.Native.Nat.{ℕ}
use mathlib.Core.Path.{◌≡◌, refl}
use mathlib.Core.List.{List}
use lib.ListN.{length}
use Rattle.whole.specs.Refused.{RefusedKeeps, RefusedBare}
use Rattle.whole.proofs.Refused.{refused_bare, refused_left}
use Rattle.hour.specs.Hour.{WholeHour, energy_of, hour_refusal, scores_of, granted_hour, settled_of, refused_hour, rate_of, hour_answer, scores_left, at_refusal, settled_at}
use Rattle.hour.specs.declared.Settlement.{Settlement}
use Rattle.hour.specs.Calls.{hour_run, dreg_run}
use Rattle.hour.proofs.hour.Reads as hour_reads
use Rattle.hour.proofs.hour.Kinds as hour_kinds
use Rattle.hour.proofs.dreg_hour.Reads as dreg_hour_reads
use Rattle.hour.proofs.dreg_hour.Kinds as dreg_hour_kinds
use Rattle.hour.proofs.settled_at.Reads as settled_at_reads
use Rattle.hour.proofs.settled_at.Kinds as settled_at_kinds

abbrev number : Settlement → ℕ
number r = r.refusal

keeps : (h : WholeHour) (run scores : List ℕ) (r : Settlement) → r ≡ hour_answer h (length run) → scores ≡ scores_left h run
    → (number r ≡ 0 → ⊥) → (r ≡ refused_hour (number r)) × (scores ≡ run)
unfolding hour_answer settled_of granted_hour refused_hour scores_left
keeps h run scores r answer left f =
    let k = hour_refusal h (length run) in
    let new = scores_of h in
    let settled = settled_of h.terms h.thresholds h.factors (energy_of h.powers h.service) (rate_of h) in
    (refused_bare number refused_hour k settled refl refl answer f, refused_left number refused_hour k settled refl refl answer new run left f)

hour_refused_keeps : RefusedKeeps 6 hour_kinds.ps hour_kinds.r (λ κs r. number r) (λ κs a k. refused_hour k) hour_run hour_run hour_reads.Post
hour_refused_keeps κs a r s p f = keeps _ _ _ r p.0 p.1 f

dreg_hour_refused_keeps : RefusedKeeps 6 dreg_hour_kinds.ps dreg_hour_kinds.r (λ κs r. number r) (λ κs a k. refused_hour k) dreg_run dreg_run dreg_hour_reads.Post
dreg_hour_refused_keeps κs a r s p f = keeps _ _ _ r p.0 p.1 f

settled_at_refused_keeps : RefusedBare 2 settled_at_kinds.ps settled_at_kinds.r (λ κs r. number r) (λ κs a k. refused_hour k) settled_at_reads.Post
unfolding settled_at settled_of granted_hour refused_hour
settled_at_refused_keeps κs a r s p f =
    refused_bare number refused_hour (at_refusal a.0 a.1.0.now a.1.1.0.now a.1.1.1.0) _ refl refl p f
