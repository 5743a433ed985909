-- A MOVED REFERENCE (document 02, #107), over the contracts as the toolchain reads them: at 60,000 the old scores, refusals and runs stand; moving reference and frequencies together changes
-- nothing while they are in their ranges. By the frequency moved back, which is all that a score reads of both. Assumes nothing.
use Prim.Native.Nat.{ℕ, zero, suc, ◌<◌}
use mathlib.Core.Path.{◌≡◌, refl, sym, ap, ◌∙◌}
use mathlib.Core.Bool.{true, false}
use mathlib.Core.List.{List, [], ◌∷◌}
use native.Mathlib.Nat.{zero-add, le_of_suc-le-suc, not-suc-le-zero}
use native.Mathlib.Omega.{arith}
use lib.Dec.{eqb}
use lib.IntN.{ℤ, pos, ◌+ℤ◌}
use lib.ListN.{length, get_or, length-map}
use contract.Lifetimes.{Lfts}
use denote.Ref.{Bor, MutBor}
use denote.Triple.Clauses.{AtExit}
use borrow.Fn.Kinds.{ended_of}
use borrow.Author.Tests.{eqb-true}
use Rattle.whole.proofs.Choice.{by_test}
use Rattle.whole.proofs.Runs.{listed_same}
use Rattle.whole.proofs.Sums.{all_inside}
use Rattle.units.specs.Limits.{least_frequency, most_frequency}
use Rattle.units.specs.Units.{kilowatts, millihertz}
use Rattle.units.specs.declared.Kilowatts.{Kilowatts}
use Rattle.units.specs.declared.Millihertz.{Millihertz}
use Rattle.curve.specs.Moved.{CurveFits, unmoved, moved_by}
use Rattle.curve.proofs.Moved.{back_unmoved, back_together, unmoved_fits}
use Rattle.score.specs.Score.{second_refusal, judged_by, second_score}
use Rattle.score.specs.Run.{run_score_at, run_scores, run_refusal, run_left}
use Rattle.score.specs.Calls.{ScoresArguments, scores_run}
use Rattle.score.specs.Moved.{second_unmoved, run_unmoved_at, run_unmoved, run_unmoved_refusal, run_unmoved_left, all_moved_by, MoveFits, RunsMoved}
use Rattle.score.specs.declared.Scored.{Scored}
use Rattle.score.proofs.Run.{run_fit}
use Rattle.score.proofs.second_score.Reads as second_score_lem
use Rattle.score.proofs.second_score.Kinds as second_score_kinds
use Rattle.score.proofs.run_scores.Reads as run_scores_lem
use Rattle.score.proofs.run_scores.Kinds as run_scores_kinds

-- ---- "At 60,000 the old answers are shown to stand"

unmoved_second : (power transfer capacity : Kilowatts) (frequency : Millihertz) → second_score power transfer capacity frequency unmoved ≡ second_unmoved power transfer capacity frequency
unfolding second_score second_refusal judged_by second_unmoved
unmoved_second power transfer capacity frequency = rw (unmoved_fits, back_unmoved frequency.0)

module _ (powers frequencies transfers : List ℤ) (capacity : Kilowatts) where
  pub unmoved_run : run_scores powers frequencies transfers capacity unmoved ≡ run_unmoved powers frequencies transfers capacity
  unfolding run_scores run_score_at run_unmoved
  unmoved_run =
      listed_same (run_score_at powers frequencies transfers capacity unmoved) (run_unmoved_at powers frequencies transfers capacity) 0 0 (length powers)
      (λ i h. ap (λ (x : Scored). x.score) (unmoved_second _ _ capacity _))

  pub unmoved_refusal : (places : ℕ) → run_refusal powers frequencies transfers capacity unmoved places ≡ run_unmoved_refusal powers frequencies transfers capacity places
  unfolding run_refusal run_unmoved_refusal
  unmoved_refusal places = rw unmoved_fits

  unmoved_left : (run : List ℕ) → run_left powers frequencies transfers capacity unmoved run ≡ run_unmoved_left powers frequencies transfers capacity run
  unfolding run_left run_unmoved_left
  unmoved_left run = rw (unmoved_refusal (length run), unmoved_run)

pub second_score_unmoved : (κs : Lfts 0) (power transfer capacity : Kilowatts) (frequency : Millihertz) (x : Scored) (s : AtExit (ended_of 0 second_score_kinds.ps second_score_kinds.r) κs)
    → second_score_lem.Post κs (power, (transfer, (capacity, (frequency, (unmoved, tt))))) x s → x ≡ second_unmoved power transfer capacity frequency
second_score_unmoved κs power transfer capacity frequency x s p = p ∙ unmoved_second power transfer capacity frequency

pub run_scores_unmoved : (κs : Lfts 4) (powers frequencies transfers : Bor (List ℤ)) (capacity : Kilowatts) (scores : MutBor (List ℕ)) (x : ℕ)
    (s : AtExit (ended_of 4 run_scores_kinds.ps run_scores_kinds.r) κs)
    → run_scores_lem.Post κs (powers, (frequencies, (transfers, (capacity, (unmoved, (scores, tt)))))) x s
    → (x ≡ run_unmoved_refusal powers.now frequencies.now transfers.now capacity (length scores.now))
    × (scores_run κs s ≡ run_unmoved_left powers.now frequencies.now transfers.now capacity scores.now)
run_scores_unmoved κs powers frequencies transfers capacity scores x s p = (
  p.0 ∙ unmoved_refusal powers.now frequencies.now transfers.now capacity (length scores.now),
  p.1 ∙ unmoved_left powers.now frequencies.now transfers.now capacity scores.now,
)

-- ---- moved together

together_second : (d : ℤ) (power transfer capacity : Kilowatts) (f r : Millihertz) → CurveFits f r → CurveFits (moved_by d f) (moved_by d r)
    → second_score power transfer capacity (moved_by d f) (moved_by d r) ≡ second_score power transfer capacity f r
unfolding second_score second_refusal judged_by
together_second d power transfer capacity f r e g = rw (e.reference, e.frequency, g.reference, g.frequency, back_together d r.0 f.0)

pub second_score_together : (κs ηs : Lfts 0) (d : ℤ) (power transfer capacity : Kilowatts) (f r : Millihertz) (x y : Scored)
    (s : AtExit (ended_of 0 second_score_kinds.ps second_score_kinds.r) κs) (t : AtExit (ended_of 0 second_score_kinds.ps second_score_kinds.r) ηs)
    → second_score_lem.Post κs (power, (transfer, (capacity, (f, (r, tt))))) x s → second_score_lem.Post ηs (power, (transfer, (capacity, (moved_by d f, (moved_by d r, tt))))) y t
    → CurveFits f r → CurveFits (moved_by d f) (moved_by d r) → y ≡ x
second_score_together κs ηs d power transfer capacity f r x y s t p q e g = q ∙ together_second d power transfer capacity f r e g ∙ sym p

moved_at : (d : ℤ) (fs : List ℤ) (i : ℕ) → i < length fs → get_or (all_moved_by d fs) i (pos 0) ≡ get_or fs i (pos 0) +ℤ d
moved_at d [] i h = absurd (not-suc-le-zero h)
moved_at d (f ∷ fs) zero h = refl
moved_at d (f ∷ fs) (suc i) h = moved_at d fs i (le_of_suc-le-suc h)

module _ (d : ℤ) (powers frequencies transfers : List ℤ) (capacity : Kilowatts) (reference : Millihertz) (m : MoveFits d frequencies reference) where
  in_range_at : (i : ℕ) → i < length frequencies → CurveFits (millihertz (get_or frequencies i (pos 0))) reference
  in_range_at i h = record { reference = m.reference_fits; frequency = all_inside (pos least_frequency) (pos most_frequency) frequencies m.frequencies_fit i h }

  moved_in_range : (i : ℕ) → i < length frequencies → CurveFits (moved_by d (millihertz (get_or frequencies i (pos 0)))) (moved_by d reference)
  moved_in_range i h =
      let l : i < length (all_moved_by d frequencies) = simp length-map h in
      record {
        reference = m.reference_moved;
        frequency = rw (moved_at d frequencies i h) at (all_inside (pos least_frequency) (pos most_frequency) (all_moved_by d frequencies) m.frequencies_moved i l);
      }

  together_at : (i : ℕ) → i < length frequencies
      → run_score_at powers (all_moved_by d frequencies) transfers capacity (moved_by d reference) i ≡ run_score_at powers frequencies transfers capacity reference i
  unfolding run_score_at
  together_at i h =
      ap (λ (z : ℤ). (second_score (kilowatts (get_or powers i (pos 0))) (kilowatts (get_or transfers i (pos 0))) capacity (millihertz z) (moved_by d reference)).score) (moved_at d frequencies i h)
      ∙ ap (λ (x : Scored). x.score) (together_second d _ _ capacity (millihertz (get_or frequencies i (pos 0))) reference (in_range_at i h) (moved_in_range i h))

  pub together_run : length frequencies ≡ length powers
      → run_scores powers (all_moved_by d frequencies) transfers capacity (moved_by d reference) ≡ run_scores powers frequencies transfers capacity reference
  unfolding run_scores
  together_run n =
      listed_same (run_score_at powers (all_moved_by d frequencies) transfers capacity (moved_by d reference)) (run_score_at powers frequencies transfers capacity reference) 0 0 (length powers)
      (λ i h. rw (zero-add i) (together_at i (omega (arith, n))))

  pub together_refusal : (places : ℕ) → run_refusal powers (all_moved_by d frequencies) transfers capacity (moved_by d reference) places ≡ run_refusal powers frequencies transfers capacity reference places
  unfolding run_refusal
  together_refusal places = rw (length-map frequencies, m.reference_fits, m.frequencies_fit, m.reference_moved, m.frequencies_moved)

  together_left : (run : List ℕ) → run_left powers (all_moved_by d frequencies) transfers capacity (moved_by d reference) run ≡ run_left powers frequencies transfers capacity reference run
  unfolding run_left
  together_left run =
      let k = run_refusal powers frequencies transfers capacity reference (length run) in
      rw (together_refusal (length run))
      (by_test (eqb k 0)
      (λ (t : eqb k 0 ≡ true). rw t (together_run (run_fit powers frequencies transfers capacity reference (length run) (eqb-true k 0 t)).as_frequencies))
      (λ (t : eqb k 0 ≡ false). rw t))

-- two calls, the second with every frequency and the reference moved by d
pub run_scores_together : (κs ηs : Lfts 4) (d : ℤ) (a b : ScoresArguments) (x y : ℕ)
    (s : AtExit (ended_of 4 run_scores_kinds.ps run_scores_kinds.r) κs) (t : AtExit (ended_of 4 run_scores_kinds.ps run_scores_kinds.r) ηs)
    → run_scores_lem.Post κs a x s → run_scores_lem.Post ηs b y t → RunsMoved d a b → (y ≡ x) × (scores_run ηs t ≡ scores_run κs s)
run_scores_together κs ηs d a b x y s t p q m =
    let powers = a.0.now in
    let frequencies = a.1.0.now in
    let transfers = a.1.1.0.now in
    let capacity = a.1.1.1.0 in
    let reference = a.1.1.1.1.0 in
    let run = a.1.1.1.1.1.0.now in (
      q.0 ∙ (λ i. run_refusal (m.powers i) (m.frequencies i) (m.transfers i) (m.capacity i) (m.reference i) (length (m.lent i)))
          ∙ together_refusal d powers frequencies transfers capacity reference m.fits (length run) ∙ sym p.0,
      q.1 ∙ (λ i. run_left (m.powers i) (m.frequencies i) (m.transfers i) (m.capacity i) (m.reference i) (m.lent i))
          ∙ together_left d powers frequencies transfers capacity reference m.fits run ∙ sym p.1,
    )
