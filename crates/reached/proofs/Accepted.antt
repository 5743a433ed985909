-- What fits is not turned away, and its answer is what the definitions say, without a refusal in it. Stated over the contract as the toolchain reads it; by the tests of its refusal.
-- Assumes nothing.
use Prim.Native.Nat.{ℕ}
use mathlib.Core.Path.{◌≡◌, ◌∙◌}
use mathlib.Core.List.{List}
use contract.Lifetimes.{Lfts}
use denote.Ref.{Bor}
use denote.Triple.Clauses.{AtExit}
use borrow.Fn.Kinds.{ended_of}
use Rattle.reached.specs.Reached.{verdict_of}
use Rattle.reached.specs.Accepted.{ThresholdFits}
use Rattle.reached.specs.declared.Verdict.{Verdict}
use Rattle.reached.proofs.Answers.{fit_threshold, hour_verdict}
use Rattle.reached.proofs.reached.Reads as reached
use Rattle.reached.proofs.reached.Kinds as reached_kinds

pub reached_accepted : (κs : Lfts 2) (earlier scores : Bor (List ℕ)) (threshold : ℕ) (x : Verdict) (s : AtExit (ended_of 2 reached_kinds.ps reached_kinds.r) κs)
    → reached.Post κs (earlier, (scores, (threshold, tt))) x s → ThresholdFits earlier.now scores.now threshold → x ≡ verdict_of earlier.now scores.now threshold
reached_accepted κs earlier scores threshold x s p f = p ∙ hour_verdict _ _ _ (fit_threshold _ _ _ f)
