-- What fits is not turned away, and its answer is the paper's formula: a second, a run of seconds. Stated over the contracts as the
-- toolchain reads them; by the tests of each refusal. Assumes nothing.
use Prim.Native.Nat.{ℕ}
use mathlib.Core.Path.{◌≡◌, ap, ◌∙◌}
use mathlib.Core.List.{List}
use native.Mathlib.Nat.{zero-add}
use lib.IntN.{ℤ}
use lib.ListN.{length}
use contract.Lifetimes.{Lfts}
use denote.Ref.{Bor, MutBor}
use denote.Triple.Clauses.{AtExit}
use borrow.Fn.Kinds.{ended_of}
use Rattle.whole.proofs.Choice.{kept_new}
use Rattle.whole.proofs.Runs.{length_listed, get_d_listed}
use Rattle.units.specs.declared.Kilowatts.{Kilowatts}
use Rattle.units.specs.declared.Millihertz.{Millihertz}
use Rattle.score.specs.Score.{judged_by}
use Rattle.score.specs.Run.{run_score_at, run_scores, run_left}
use Rattle.score.specs.declared.Scored.{Scored}
use Rattle.score.proofs.Laws as second
use Rattle.score.proofs.Run.{fit_run, run_second}
use Rattle.score.specs.Accepted.{SecondFits, RunFits, plain_score, Scores}
use Rattle.score.specs.Calls.{scores_run}
use Rattle.score.proofs.second_score.Reads as second_score_lem
use Rattle.score.proofs.second_score.Kinds as second_score_kinds
use Rattle.score.proofs.run_scores.Reads as run_scores_lem
use Rattle.score.proofs.run_scores.Kinds as run_scores_kinds

pub second_score_accepted : (κs : Lfts 0) (power transfer capacity : Kilowatts) (frequency reference : Millihertz) (x : Scored)
    (s : AtExit (ended_of 0 second_score_kinds.ps second_score_kinds.r) κs)
    → second_score_lem.Post κs (power, (transfer, (capacity, (frequency, (reference, tt))))) x s → SecondFits power transfer capacity frequency reference
    → x ≡ record { refusal = 0; score = plain_score power.0 transfer.0 capacity.0 frequency.0 reference.0 }
unfolding judged_by
second_score_accepted κs power transfer capacity frequency reference x s p f = p ∙ second.second_granted _ _ _ _ _ (second.fit_second _ _ _ _ _ f)

-- ---- a run of seconds

module _ (powers frequencies transfers : List ℤ) (capacity : Kilowatts) (reference : Millihertz) (places : ℕ) (f : RunFits powers frequencies transfers capacity reference places) where
  pub scores_plain : Scores powers frequencies transfers capacity reference (run_scores powers frequencies transfers capacity reference)
  unfolding run_scores run_score_at judged_by
  scores_plain =
      let at = run_score_at powers frequencies transfers capacity reference in
      let n = length powers in
      record {
        seconds = length_listed at 0 n;
        second = λ i h. get_d_listed at 0 n i 0 h ∙ ap at (zero-add i)
            ∙ ap (λ (r : Scored). r.score) (second.second_granted _ _ _ _ _ (run_second powers frequencies transfers capacity reference places f i h));
      }

pub run_scores_accepted : (κs : Lfts 4) (powers frequencies transfers : Bor (List ℤ)) (capacity : Kilowatts) (reference : Millihertz) (scores : MutBor (List ℕ)) (x : ℕ)
    (s : AtExit (ended_of 4 run_scores_kinds.ps run_scores_kinds.r) κs)
    → run_scores_lem.Post κs (powers, (frequencies, (transfers, (capacity, (reference, (scores, tt)))))) x s
    → RunFits powers.now frequencies.now transfers.now capacity reference (length scores.now)
    → (x ≡ 0) × Scores powers.now frequencies.now transfers.now capacity reference (scores_run κs s)
unfolding run_left
run_scores_accepted κs powers frequencies transfers capacity reference scores x s p f =
    let none = fit_run _ _ _ _ _ _ f in
    let left = p.1 ∙ kept_new _ _ none in
    (p.0 ∙ none, rw left (scores_plain _ _ _ _ _ _ f))
