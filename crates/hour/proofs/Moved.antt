-- A MOVED REFERENCE (document 02, #107), of the hour: at 60,000 the answer, and the run that is left, are the old ones; moving the reference and every frequency together changes nothing while
-- they are in their ranges. By the laws of the run of scores; over the contracts of `hour` and `dreg_hour` as the source states them. Assumes nothing.
use Prim.Native.Nat.{ℕ}
use mathlib.Core.Path.{◌≡◌, sym, ap, ◌∙◌}
use mathlib.Core.Bool.{true, false}
use mathlib.Core.List.{List}
use lib.Dec.{eqb}
use lib.IntN.{ℤ}
use lib.ListN.{length, length-map}
use contract.Lifetimes.{Lfts}
use borrow.Fn.Kinds.{Dens, ended_of}
use borrow.Author.Tests.{eqb-true}
use denote.Triple.Clauses.{AtExit}
use Rattle.whole.proofs.Choice.{by_test}
use Rattle.curve.specs.Moved.{unmoved}
use Rattle.curve.proofs.Moved.{unmoved_fits}
use Rattle.score.specs.Run.{run_scores}
use Rattle.score.specs.Moved.{MoveFits}
use Rattle.score.proofs.Moved.{unmoved_run, together_run}
use Rattle.rate.specs.Rolling.{hourly_rate}
use Rattle.hour.specs.Hour.{WholeHour, transfers_of, hour_refusal, scores_of, scores_left, hour_answer}
use Rattle.hour.specs.Calls.{hour_handed, hour_run, dreg_handed, dreg_run}
use Rattle.hour.specs.Moved.{hour_unmoved_refusal, scores_unmoved, hour_unmoved, left_unmoved, hour_moved_by, MovedTogether}
use Rattle.hour.specs.declared.Settlement.{Settlement}
use Rattle.hour.proofs.Laws.{long_of, fit}
use Rattle.hour.proofs.hour.Reads as hour_reads
use Rattle.hour.proofs.hour.Kinds as hour_kinds
use Rattle.hour.proofs.dreg_hour.Reads as dreg_reads
use Rattle.hour.proofs.dreg_hour.Kinds as dreg_kinds

-- ---- "At 60,000 the old answers are shown to stand"

module _ (h : WholeHour) (at : h.reference ≡ unmoved) where
  unmoved_refusal : (places : ℕ) → hour_refusal h places ≡ hour_unmoved_refusal h places
  unfolding hour_refusal
  unmoved_refusal places = rw (at, unmoved_fits)

  unmoved_scores : scores_of h ≡ scores_unmoved h
  unfolding scores_of
  unmoved_scores =
      ap (run_scores h.powers h.frequencies (transfers_of h.service) h.terms.capacity) at
      ∙ unmoved_run h.powers h.frequencies (transfers_of h.service) h.terms.capacity

  pub unmoved_hour : (places : ℕ) → hour_answer h places ≡ hour_unmoved h places
  unfolding hour_answer hour_unmoved
  unmoved_hour places = rw (unmoved_refusal places, ap (λ (l : List ℕ). (hourly_rate h.earlier l).rate) unmoved_scores)

  unmoved_left : (run : List ℕ) → scores_left h run ≡ left_unmoved h run
  unfolding scores_left left_unmoved
  unmoved_left run = rw (unmoved_refusal (length run), unmoved_scores)

-- ---- moved together

module _ (d : ℤ) (h : WholeHour) (m : MoveFits d h.frequencies h.reference) where
  together_refusal : (places : ℕ) → hour_refusal (hour_moved_by d h) places ≡ hour_refusal h places
  unfolding hour_refusal
  together_refusal places = rw (length-map h.frequencies, m.reference_fits, m.frequencies_fit, m.reference_moved, m.frequencies_moved)

  -- the scores of an hour whose runs are as long as they are to be
  together_scores : length h.frequencies ≡ length h.powers → scores_of (hour_moved_by d h) ≡ scores_of h
  unfolding scores_of
  together_scores n = together_run d h.powers h.frequencies (transfers_of h.service) h.terms.capacity h.reference m n

  same_seconds : (places : ℕ) → hour_refusal h places ≡ 0 → length h.frequencies ≡ length h.powers
  same_seconds places e = let l = long_of h places (fit h places e).lengths in l.of_frequencies ∙ sym l.of_powers

  pub together_hour : (places : ℕ) → hour_answer (hour_moved_by d h) places ≡ hour_answer h places
  unfolding hour_answer
  together_hour places =
      let k = hour_refusal h places in
      rw (together_refusal places)
      (by_test (eqb k 0)
      (λ (t : eqb k 0 ≡ true). rw (t, ap (λ (l : List ℕ). (hourly_rate h.earlier l).rate) (together_scores (same_seconds places (eqb-true k 0 t)))))
      (λ (t : eqb k 0 ≡ false). rw t))

  together_left : (run : List ℕ) → scores_left (hour_moved_by d h) run ≡ scores_left h run
  unfolding scores_left
  together_left run =
      let k = hour_refusal h (length run) in
      rw (together_refusal (length run))
      (by_test (eqb k 0)
      (λ (t : eqb k 0 ≡ true). rw (t, together_scores (same_seconds (length run) (eqb-true k 0 t))))
      (λ (t : eqb k 0 ≡ false). rw t))

-- two answers, the second of the hour moved by d
answers_together : (d : ℤ) {h g : WholeHour} {run again scores others : List ℕ} {r x : Settlement} → r ≡ hour_answer h (length run) → scores ≡ scores_left h run
    → x ≡ hour_answer g (length again) → others ≡ scores_left g again → MovedTogether d h g run again → (x ≡ r) × (others ≡ scores)
answers_together d {h} {g} {run} answer left also kept m = (
  also ∙ (λ i. hour_answer (m.hour i) (length (m.lent i))) ∙ together_hour d h m.fits (length run) ∙ sym answer,
  kept ∙ (λ i. scores_left (m.hour i) (m.lent i)) ∙ together_left d h m.fits run ∙ sym left,
)

-- ---- over the contracts

-- an E-dReg hour
module _ (κs : Lfts 6) (a : Dens κs hour_kinds.ps) (r : Settlement) (s : AtExit (ended_of 6 hour_kinds.ps hour_kinds.r) κs) (met : hour_reads.Post κs a r s) where
  pub hour_unmoved_lem : (hour_handed κs a).reference ≡ unmoved → (r ≡ hour_unmoved (hour_handed κs a) (length (hour_run κs a))) × (hour_run κs s ≡ left_unmoved (hour_handed κs a) (hour_run κs a))
  hour_unmoved_lem at = (met.0 ∙ unmoved_hour (hour_handed κs a) at (length (hour_run κs a)), met.1 ∙ unmoved_left (hour_handed κs a) at (hour_run κs a))

  -- and the one that is moved by d
  pub hour_together : (d : ℤ) (ηs : Lfts 6) (b : Dens ηs hour_kinds.ps) (x : Settlement) (t : AtExit (ended_of 6 hour_kinds.ps hour_kinds.r) ηs) → hour_reads.Post ηs b x t
      → MovedTogether d (hour_handed κs a) (hour_handed ηs b) (hour_run κs a) (hour_run ηs b) → (x ≡ r) × (hour_run ηs t ≡ hour_run κs s)
  hour_together d ηs b x t also m = answers_together d met.0 met.1 also.0 also.1 m

-- a dReg hour
module _ (κs : Lfts 6) (a : Dens κs dreg_kinds.ps) (r : Settlement) (s : AtExit (ended_of 6 dreg_kinds.ps dreg_kinds.r) κs) (met : dreg_reads.Post κs a r s) where
  pub dreg_hour_unmoved : (dreg_handed κs a).reference ≡ unmoved → (r ≡ hour_unmoved (dreg_handed κs a) (length (dreg_run κs a))) × (dreg_run κs s ≡ left_unmoved (dreg_handed κs a) (dreg_run κs a))
  dreg_hour_unmoved at = (met.0 ∙ unmoved_hour (dreg_handed κs a) at (length (dreg_run κs a)), met.1 ∙ unmoved_left (dreg_handed κs a) at (dreg_run κs a))

  pub dreg_hour_together : (d : ℤ) (ηs : Lfts 6) (b : Dens ηs dreg_kinds.ps) (x : Settlement) (t : AtExit (ended_of 6 dreg_kinds.ps dreg_kinds.r) ηs) → dreg_reads.Post ηs b x t
      → MovedTogether d (dreg_handed κs a) (dreg_handed ηs b) (dreg_run κs a) (dreg_run ηs b) → (x ≡ r) × (dreg_run ηs t ≡ dreg_run κs s)
  dreg_hour_together d ηs b x t also m = answers_together d met.0 met.1 also.0 also.1 m
