-- THE JOINT CALL OF AN sReg HOUR (document 02, #103): its ledger's part is a joint call like the others, so demand 3 runs through it; what it answers that refuses nothing is an accepted hour with
-- its end state, and what any answer of `sreg_hour` on the same hour is; a refusal, the ledger's included, is its number alone beside `Outside` and the ledger that was handed in. By the laws of
-- a worked hour that is posted; over the contracts as the source states them. Assumes nothing.
use Prim.Native.Nat.{ℕ}
use mathlib.Core.Path.{◌≡◌, refl, sym, ap, ◌∙◌, subst}
use mathlib.Core.List.{List, []}
use lib.IntN.{ℤ}
use contract.Lifetimes.{Lfts}
use denote.Triple.Clauses.{AtExit}
use borrow.Fn.Kinds.{Dens, ended_of}
use Rattle.whole.proofs.Choice.{kept_new, kept_old}
use Rattle.units.specs.Limits.{seconds_of_hour}
use Rattle.month.specs.declared.Month.{Month}
use Rattle.hour.specs.declared.Terms.{Terms}
use Rattle.hour.specs.declared.Settlement.{Settlement}
use Rattle.sreg.specs.declared.EventState.{EventState}
use Rattle.sreg.specs.declared.EventState.TheVariants.{Outside}
use Rattle.sreg_hour.specs.Hour.{sreg_hour, sreg_refusal, sreg_scores, sreg_answer}
use Rattle.sreg_hour.specs.Accepted.{SRegAccepted}
use Rattle.sreg_hour.specs.Calls.{sreg_handed, sreg_run}
use Rattle.sreg_hour.specs.Hours.{HandedOn, OneRunOfEvents}
use Rattle.sreg_hour.specs.declared.Settled.{Settled}
use Rattle.sreg_hour.proofs.Laws.{fit, refusal_is, granted}
use Rattle.sreg_hour.proofs.Accepted.{granted_accepted}
use Rattle.sreg_hour.proofs.Hours.{one_run_of_events}
use Rattle.sreg_hour.proofs.sreg_hour.Reads as hour_reads
use Rattle.sreg_hour.proofs.sreg_hour.Kinds as hour_kinds
use Rattle.joint.specs.Joint.{refused_beside, beside_state, sreg_worked_by, sreg_joint_of, SameHour}
use Rattle.joint.specs.SReg.{settled_in}
use Rattle.joint.specs.Runs.{JointCalled}
use Rattle.joint.specs.Calls.{sreg_given, sreg_month_given, sreg_day_given, sreg_hour_given}
use Rattle.joint.specs.declared.Joined.{Joined}
use Rattle.joint.specs.declared.StateJoined.{StateJoined}
use Rattle.joint.proofs.Demand.{lend}
use Rattle.joint.proofs.SameNumbers.{posted_granted, posted_bare, turned_is}
use Rattle.joint.proofs.sreg_joint.Reads as sreg_joint_reads
use Rattle.joint.proofs.sreg_joint.Kinds as sreg_joint_kinds

module _ (κs : Lfts 5) (b : Dens κs sreg_joint_kinds.ps) (j : StateJoined) (e : AtExit (ended_of 5 sreg_joint_kinds.ps sreg_joint_kinds.r) κs) (met : sreg_joint_reads.Post κs b j e) where
  abbrev worked : Settled
  worked = sreg_worked_by (sreg_given b)

  -- "demand 3 runs through it": its ledger's part is a joint call, as the runs of Demand have it
  pub sreg_joint_called : JointCalled worked.hour (sreg_month_given b) (sreg_day_given b) (sreg_hour_given b) j.joined
  unfolding sreg_joint_of beside_state
  sreg_joint_called = ap (λ (x : StateJoined). x.joined) met

  -- the state that the hour ends in, where nothing is refused
  granted_state : j.joined.hour.refusal ≡ 0 → j.state ≡ worked.state
  unfolding sreg_joint_of beside_state
  granted_state z = ap (λ (x : StateJoined). x.state) met ∙ kept_new _ _ (sym (ap (λ (x : Joined). x.hour.refusal) sreg_joint_called) ∙ z)

  refused_state : (j.joined.hour.refusal ≡ 0 → ⊥) → j.state ≡ Outside
  unfolding sreg_joint_of beside_state
  refused_state f = ap (λ (x : StateJoined). x.state) met ∙ kept_old _ _ (λ z. f (ap (λ (x : Joined). x.hour.refusal) sreg_joint_called ∙ z))

  -- the hour's numbers and its state are those that it worked out
  pub sreg_joint_granted : j.joined.hour.refusal ≡ 0 → (worked.hour.refusal ≡ 0) × (settled_in j ≡ worked)
  sreg_joint_granted z =
      let posts = ap (λ (x : Joined). x.hour) sreg_joint_called in
      let g = posted_granted worked.hour (sreg_month_given b) _ _ (sym (ap (λ (x : Settlement). x.refusal) posts) ∙ z) in
      (g.0, (λ i. record { hour = (posts ∙ g.1) i; state = granted_state z i }))

  pub sreg_joint_accepted : j.joined.hour.refusal ≡ 0 → SRegAccepted (sreg_given b) (sreg_scores (sreg_given b)) (settled_in j)
  sreg_joint_accepted z =
      let h = sreg_given b in
      let g = sreg_joint_granted z in
      let none : sreg_refusal h seconds_of_hour ≡ 0 = sym (refusal_is h seconds_of_hour) ∙ g.0 in
      subst (SRegAccepted h (sreg_scores h)) (sym (g.1 ∙ granted h seconds_of_hour none)) (granted_accepted h seconds_of_hour (fit h seconds_of_hour none))

  -- any refusal is its number alone, beside `Outside` and the ledger that was handed in
  pub sreg_joint_refused : (j.joined.hour.refusal ≡ 0 → ⊥) → j ≡ record { joined = refused_beside (sreg_month_given b) j.joined.hour.refusal; state = Outside }
  sreg_joint_refused f =
      let told = ap (λ (x : Joined). x.hour.refusal) sreg_joint_called in
      let bare = sreg_joint_called ∙ posted_bare worked.hour (sreg_month_given b) _ _ (λ z. f (told ∙ z)) ∙ ap (refused_beside (sreg_month_given b)) (sym told) in
      λ i. record { joined = bare i; state = refused_state f i }

module _ (κs : Lfts 5) (b : Dens κs sreg_joint_kinds.ps) (j : StateJoined) (e : AtExit (ended_of 5 sreg_joint_kinds.ps sreg_joint_kinds.r) κs) (met : sreg_joint_reads.Post κs b j e)
    (ηs : Lfts 5) (c : Dens ηs sreg_joint_kinds.ps) (k : StateJoined) (f : AtExit (ended_of 5 sreg_joint_kinds.ps sreg_joint_kinds.r) ηs) (next : sreg_joint_reads.Post ηs c k f) where
  -- two joint calls, the second handed the state that the first answered and the last three scores of its hour
  pub sreg_joint_one_run : j.joined.hour.refusal ≡ 0 → k.joined.hour.refusal ≡ 0 → HandedOn (sreg_given b) (sreg_given c) (sreg_scores (sreg_given b)) (settled_in j)
      → OneRunOfEvents (sreg_given b) (sreg_given c) (sreg_scores (sreg_given b)) (sreg_scores (sreg_given c)) (settled_in j) (settled_in k)
  sreg_joint_one_run first second on = one_run_of_events (sreg_joint_accepted κs b j e met first) (sreg_joint_accepted ηs c k f next second) on

-- ---- the joint call and the hour call have the same numbers

module _ (κs : Lfts 6) (a : Dens κs hour_kinds.ps) (r : Settled) (s : AtExit (ended_of 6 hour_kinds.ps hour_kinds.r) κs) (p : hour_reads.Post κs a r s)
    (ηs : Lfts 5) (b : Dens ηs sreg_joint_kinds.ps) (j : StateJoined) (e : AtExit (ended_of 5 sreg_joint_kinds.ps sreg_joint_kinds.r) ηs) (q : sreg_joint_reads.Post ηs b j e)
    (same : SameHour (sreg_handed κs a) (sreg_run κs a) (sreg_given b)) where
  worked_is : r ≡ sreg_worked_by (sreg_given b)
  worked_is = p.0 ∙ (λ i. sreg_answer (same.hour i) (same.run i))

  pub sreg_joint_same_numbers : (j.joined.hour.refusal ≡ 0 → settled_in j ≡ r) × ((r.hour.refusal ≡ 0 → ⊥) → j.joined ≡ refused_beside (sreg_month_given b) r.hour.refusal)
  sreg_joint_same_numbers = (
    (λ z. (sreg_joint_granted ηs b j e q z).1 ∙ sym worked_is),
    λ f.
        let number = ap (λ (x : Settled). x.hour.refusal) worked_is in
        sreg_joint_called ηs b j e q ∙ turned_is (sreg_worked_by (sreg_given b)).hour (sreg_month_given b) _ _ (λ z. f (number ∙ z)) ∙ ap (refused_beside (sreg_month_given b)) (sym number),
  )

-- ---- there is such a call for anything that is handed in: the definitions' own answer

pub sreg_joint_made : (powers frequencies : List ℤ) (t : Terms) (thresholds factors : List ℤ) (earlier : List ℕ) (state : EventState) (m : Month) (d x : ℕ) →
    let h = sreg_hour powers frequencies t thresholds factors earlier state in
    JointCalled (sreg_worked_by h).hour m d x (sreg_joint_of h m d x).joined
sreg_joint_made powers frequencies t ts fs es state m d x =
    let κs : Lfts 5 = ([], ([], ([], ([], ([], tt))))) in
    let given : Dens κs sreg_joint_kinds.ps = (lend powers, (lend frequencies, (t, (lend ts, (lend fs, (lend es, (state, (m, (d, (x, tt)))))))))) in
    sreg_joint_called κs given (sreg_joint_of (sreg_hour powers frequencies t ts fs es state) m d x) given refl
