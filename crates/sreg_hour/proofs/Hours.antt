-- NOTHING DEPENDS ON WHERE THE HOUR IS CUT (document 02, #103): two accepted sReg hours, the second handed the state and the last three scores of the first, score, end and are rated as one run
-- of 7,200 seconds. And each second of an hour is told by the request's sentences over the list of seconds, whatever state the hour is handed. By the laws of a cut; over the contract of
-- `sreg_hour` as the source states it. Assumes nothing.
use Prim.Native.Nat.{ℕ, ◌+◌, ◌≤◌}
use mathlib.Core.Path.{◌≡◌, refl, sym, ap, ap₂, ◌∙◌, subst}
use mathlib.Core.Bool.{true}
use mathlib.Core.List.{List, ◌++◌}
use native.Mathlib.Omega.{arith}
use lib.ListN.{length, get_or}
use lib.Seq.{ext_get_or}
use contract.Lifetimes.{Lfts}
use borrow.Fn.Kinds.{Dens, ended_of}
use denote.Triple.Clauses.{AtExit}
use Rattle.units.specs.Limits.{earlier_scores, seconds_of_hour}
use Rattle.rate.specs.Rolling.{earlier_fit, are_scores, rolling, smallest}
use Rattle.rate.specs.Earlier.{last_three}
use Rattle.rate.proofs.Earlier.{handed_on}
use Rattle.hour.proofs.Earlier.{by_rates}
use Rattle.sreg.specs.Second.{is_state}
use Rattle.sreg.specs.Run.{scores_from, state_after}
use Rattle.sreg.specs.declared.EventState.{EventState}
use Rattle.sreg.proofs.Seconds.{state_cut, scores_cut, length_scores, score_at}
use Rattle.events.specs.Events.{ScoreTold}
use Rattle.events.specs.States.{Stands}
use Rattle.events.proofs.Reach.{run_to, handed_every, handed_only, handed_stands}
use Rattle.sreg_hour.specs.Hour.{SRegHour}
use Rattle.sreg_hour.specs.Accepted.{SRegAccepted}
use Rattle.sreg_hour.specs.Hours.{HandedOn, OneRunOfEvents, SecondsTold}
use Rattle.sreg_hour.specs.Calls.{sreg_handed, sreg_run}
use Rattle.sreg_hour.specs.declared.Settled.{Settled}
use Rattle.sreg_hour.proofs.Accepted.{small_scores, sreg_hour_accepted, sreg_hour_state}
use Rattle.sreg_hour.proofs.sreg_hour.Reads as sreg_hour_reads
use Rattle.sreg_hour.proofs.sreg_hour.Kinds as sreg_hour_kinds

module _ {h : SRegHour} {scores : List ℕ} {r : Settled} (a : SRegAccepted h scores r) where
  even : length h.powers ≡ length h.frequencies
  even = a.powers ∙ sym a.frequencies

  enough : earlier_scores ≤ length scores
  enough = omega (arith, a.seconds)

  -- the scores as a run of seconds has them
  scores_are : scores ≡ scores_from h.state h.terms.capacity.0 h.powers h.frequencies
  scores_are =
      let long = length_scores h.state h.terms.capacity.0 h.powers h.frequencies even ∙ a.powers in
      ext_get_or 0 scores _ (a.seconds ∙ sym long)
      (λ i l. a.score i (omega (arith, a.seconds)) ∙ sym (score_at h.state h.terms.capacity.0 h.powers h.frequencies i even (omega (arith, a.seconds, a.powers))))

  -- what an accepted hour leaves may always be handed on
  pub scores_hand_on : (earlier_fit (length (last_three scores)) ≡ true) × (are_scores (last_three scores) ≡ true)
  scores_hand_on =
      handed_on scores enough (subst (λ (l : List ℕ). are_scores l ≡ true) (sym scores_are) (small_scores h.state h.terms.capacity.0 h.powers h.frequencies))

pub one_run_of_events : {g h : SRegHour} {first second : List ℕ} {x y : Settled} → SRegAccepted g first x → SRegAccepted h second y → HandedOn g h first x → OneRunOfEvents g h first second x y
one_run_of_events {g} {h} {first} {second} {x} {y} a b on =
    let c = g.terms.capacity.0 in
    let between : h.state ≡ state_after g.state g.powers g.frequencies = on.state ∙ a.state in
    let later = scores_are b ∙ (λ i. scores_from (between i) (on.award i) h.powers h.frequencies) in
    record {
      scores = ap₂ ◌++◌ (scores_are a) later ∙ sym (scores_cut g.state c g.powers g.frequencies h.powers h.frequencies (even a));
      state = b.state ∙ ap (λ (s : EventState). state_after s h.powers h.frequencies) between ∙ sym (state_cut g.state g.powers g.frequencies h.powers h.frequencies (even a));
      rates = by_rates g.earlier first second (enough a) a.rate (b.rate ∙ ap (λ (l : List ℕ). smallest (rolling l second)) on.scores);
    }

-- each second, by the request's sentences
pub seconds_told : {h : SRegHour} {scores : List ℕ} {x : Settled} → SRegAccepted h scores x → is_state h.state ≡ true → SecondsTold h scores x
seconds_told {h} {scores} a passes =
    let c = h.terms.capacity.0 in
    record {
      before = run_to seconds_of_hour h.state refl passes;
      every = λ {n} r i l.
          subst (ScoreTold (r.powers ++ h.powers) (r.frequencies ++ h.frequencies) c (n + i)) (sym (score_is i))
          (handed_every h.state r c h.powers h.frequencies (even a) i (omega (arith, a.powers)));
      only = λ {n} r i score l t. score_is i ∙ handed_only h.state r c h.powers h.frequencies (even a) i score (omega (arith, a.powers)) t;
      ends = λ {n} r.
          subst (Stands (r.powers ++ h.powers) (r.frequencies ++ h.frequencies) (n + seconds_of_hour)) (sym a.state)
          (handed_stands h.state r c h.powers h.frequencies (even a) seconds_of_hour a.powers);
    }
  where
    score_is : (i : ℕ) → get_or scores i 0 ≡ get_or (scores_from h.state h.terms.capacity.0 h.powers h.frequencies) i 0
    score_is i = ap (λ (s : List ℕ). get_or s i 0) (scores_are a)

-- ---- over the contract

module _ (κs : Lfts 6) (a : Dens κs sreg_hour_kinds.ps) (r : Settled) (s : AtExit (ended_of 6 sreg_hour_kinds.ps sreg_hour_kinds.r) κs) (met : sreg_hour_reads.Post κs a r s) where
  pub sreg_hour_told : r.hour.refusal ≡ 0 → SecondsTold (sreg_handed κs a) (sreg_run κs s) r
  sreg_hour_told none = seconds_told (sreg_hour_accepted κs a r s met none) (sreg_hour_state κs a r s met none)

  -- and the hour after it
  module _ (ηs : Lfts 6) (b : Dens ηs sreg_hour_kinds.ps) (x : Settled) (t : AtExit (ended_of 6 sreg_hour_kinds.ps sreg_hour_kinds.r) ηs) (next : sreg_hour_reads.Post ηs b x t) where
    pub sreg_hours_one_run : r.hour.refusal ≡ 0 → x.hour.refusal ≡ 0 → HandedOn (sreg_handed κs a) (sreg_handed ηs b) (sreg_run κs s) r
        → OneRunOfEvents (sreg_handed κs a) (sreg_handed ηs b) (sreg_run κs s) (sreg_run ηs t) r x
    sreg_hours_one_run first second on = one_run_of_events (sreg_hour_accepted κs a r s met first) (sreg_hour_accepted ηs b x t next second) on
