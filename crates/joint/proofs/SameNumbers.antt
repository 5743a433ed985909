-- The joint call and the hour call have the same numbers: what a joint call answers that refuses nothing is an accepted hour and what any answer of `hour` on the
-- same readings is, and an hour that is refused is refused by it with the same number, beside the ledger that was handed in. By the joint call's one number; over
-- the contracts as the source states them. Assumes nothing.
use Prim.Native.Nat.{ℕ}
use mathlib.Core.Path.{◌≡◌, sym, ap, ◌∙◌, subst}
use mathlib.Core.Bool.{true, false}
use lib.Dec.{eqb}
use contract.Lifetimes.{Lfts}
use denote.Triple.Clauses.{AtExit}
use borrow.Fn.Kinds.{Dens, GoodsP, ended_of}
use borrow.Author.Tests.{eq-eqb, ne_eqb, eqb-true}
use Rattle.whole.proofs.Choice.{by_test, both_passed}
use Rattle.units.specs.Limits.{is_amount, seconds_of_hour}
use Rattle.units.specs.Refusals.{told_number}
use Rattle.history.specs.Rules.{Call}
use Rattle.head.specs.Rules.{amount_item}
use Rattle.month.specs.Month.{month_answer}
use Rattle.month.specs.declared.Month.{Month}
use Rattle.hour.specs.Hour.{hour_refusal, scores_of, refused_hour, hour_answer}
use Rattle.hour.specs.Accepted.{Accepted}
use Rattle.joint.specs.Joint.{refused_beside, joined, joint_refusal, posted_of, worked_by, joint_of, SameHour}
use Rattle.joint.specs.Runs.{kept_from}
use Rattle.hour.specs.declared.Settlement.{Settlement}
use Rattle.joint.specs.declared.Joined.{Joined}
use Rattle.hour.proofs.hour.Reads as hour_reads
use Rattle.hour.proofs.hour.Kinds as hour_kinds
use Rattle.joint.proofs.joint.Reads as joint_reads
use Rattle.joint.proofs.joint.Kinds as joint_kinds
use Rattle.joint.specs.Calls.{joint_handed, month_given, day_given, hour_given}
use Rattle.hour.proofs.Laws.{fit, refusal_is, hour_granted}
use Rattle.hour.specs.Calls.{hour_handed, hour_run}
use Rattle.hour.proofs.Accepted.{settled_accepted, five_targets}

-- ---- a worked hour, posted

module _ (worked : Settlement) (m : Month) (d x : ℕ) where
  abbrev number : ℕ
  number = joint_refusal worked (told_number (month_answer m (Call.post d x (amount_item worked.amount.0))))

  number_zero : (posted_of worked m d x).hour.refusal ≡ 0 → number ≡ 0
  unfolding posted_of joined refused_hour
  number_zero z = by_test (eqb number 0) (λ (t : eqb number 0 ≡ true). eqb-true number 0 t) (λ (t : eqb number 0 ≡ false). rw t at z)

  pub posted_granted : (posted_of worked m d x).hour.refusal ≡ 0 → (worked.refusal ≡ 0) × ((posted_of worked m d x).hour ≡ worked)
  unfolding posted_of joined
  posted_granted z = let n = number_zero z in ((both_passed worked.refusal _ n).0, rw (eq-eqb number 0 n))

  pub posted_bare : ((posted_of worked m d x).hour.refusal ≡ 0 → ⊥) → posted_of worked m d x ≡ refused_beside m (posted_of worked m d x).hour.refusal
  unfolding posted_of joined refused_hour
  posted_bare f =
      by_test (eqb number 0)
      (λ (t : eqb number 0 ≡ true). absurd (f (rw t (both_passed worked.refusal _ (eqb-true number 0 t)).0)))
      (λ (t : eqb number 0 ≡ false). rw t)

  -- an hour that is kept from the ledger posts nothing
  pub kept_is : (kept_from worked ≡ 0 → ⊥) → posted_of worked m d x ≡ refused_beside m (kept_from worked)
  unfolding posted_of joined
  kept_is f =
      by_test (eqb worked.refusal 0)
      (λ (z : eqb worked.refusal 0 ≡ true).
      by_test (is_amount worked.amount.0)
      (λ (r : is_amount worked.amount.0 ≡ true). absurd (f (rw (z, r))))
      (λ (r : is_amount worked.amount.0 ≡ false). rw (z, r)))
      (λ (z : eqb worked.refusal 0 ≡ false). rw (z, z))

  -- a refused hour is
  pub turned_is : (worked.refusal ≡ 0 → ⊥) → posted_of worked m d x ≡ refused_beside m worked.refusal
  turned_is f =
      let own : kept_from worked ≡ worked.refusal = rw (ne_eqb worked.refusal 0 f) in
      kept_is (λ z. f (sym own ∙ z)) ∙ ap (refused_beside m) own

-- ---- over the contracts

module _ (κs : Lfts 5) (b : Dens κs joint_kinds.ps) (j : Joined) (e : AtExit (ended_of 5 joint_kinds.ps joint_kinds.r) κs) (met : joint_reads.Post κs b j e) where
  -- the answer is what it works out, posted
  pub joint_posts : j ≡ posted_of (worked_by (joint_handed b)) (month_given b) (day_given b) (hour_given b)
  unfolding joint_of
  joint_posts = met

  pub joint_granted : j.hour.refusal ≡ 0 → ((worked_by (joint_handed b)).refusal ≡ 0) × (j.hour ≡ worked_by (joint_handed b))
  joint_granted z =
      let posts = ap (λ (x : Joined). x.hour) joint_posts in
      let g = posted_granted (worked_by (joint_handed b)) (month_given b) _ _ (sym (ap (λ (x : Settlement). x.refusal) posts) ∙ z) in
      (g.0, posts ∙ g.1)

  -- the hour's numbers are those of an accepted hour
  pub joint_accepted : GoodsP κs joint_kinds.ps b → j.hour.refusal ≡ 0 → Accepted (joint_handed b) (scores_of (joint_handed b)) j.hour
  joint_accepted good z =
      let h = joint_handed b in
      let g = joint_granted z in
      let none : hour_refusal h seconds_of_hour ≡ 0 = sym (refusal_is h seconds_of_hour) ∙ g.0 in
      subst (Accepted h (scores_of h)) (sym (g.1 ∙ hour_granted h seconds_of_hour none))
      (settled_accepted h seconds_of_hour (fit h seconds_of_hour none) (five_targets b.1.1.1.1.0 _ good.1.1.1.1.0))

module _ (κs : Lfts 6) (a : Dens κs hour_kinds.ps) (r : Settlement) (s : AtExit (ended_of 6 hour_kinds.ps hour_kinds.r) κs) (p : hour_reads.Post κs a r s)
    (ηs : Lfts 5) (b : Dens ηs joint_kinds.ps) (j : Joined) (e : AtExit (ended_of 5 joint_kinds.ps joint_kinds.r) ηs) (q : joint_reads.Post ηs b j e) (same : SameHour (hour_handed κs a) (hour_run κs a) (joint_handed b)) where
  worked_is : r ≡ worked_by (joint_handed b)
  worked_is = p.0 ∙ (λ i. hour_answer (same.hour i) (same.run i))

  -- "the joint call gives the same numbers"
  pub joint_same_numbers : (j.hour.refusal ≡ 0 → j.hour ≡ r) × ((r.refusal ≡ 0 → ⊥) → j ≡ refused_beside (month_given b) r.refusal)
  joint_same_numbers = (
    (λ z. (joint_granted ηs b j e q z).1 ∙ sym worked_is),
    λ f.
        let number = ap (λ (x : Settlement). x.refusal) worked_is in
        joint_posts ηs b j e q ∙ turned_is (worked_by (joint_handed b)) (month_given b) _ _ (λ z. f (number ∙ z)) ∙ ap (refused_beside (month_given b)) (sym number),
  )
