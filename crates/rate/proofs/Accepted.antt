-- Scores that fit are not turned away, and their rate is the paper's formula. Stated over the contract as the toolchain reads it; by the tests of its
-- refusal. Assumes nothing.
use mathlib.Core.Path.{◌≡◌, ◌∙◌}
use Prim.Native.Nat.{ℕ}
use mathlib.Core.List.{List}
use contract.Lifetimes.{Lfts}
use denote.Ref.{Bor}
use denote.Triple.Clauses.{AtExit}
use borrow.Fn.Kinds.{ended_of}
use Rattle.rate.specs.Rolling.{rolling, smallest}
use Rattle.rate.specs.declared.Rated.{Rated}
use Rattle.rate.proofs.Rates.{rate_granted}
use Rattle.rate.specs.Accepted.{ScoresFit}
use Rattle.rate.proofs.hourly_rate.Reads as hourly_rate_lem
use Rattle.rate.proofs.hourly_rate.Kinds as hourly_rate_kinds

pub hourly_rate_accepted : (κs : Lfts 2) (earlier scores : Bor (List ℕ)) (x : Rated) (s : AtExit (ended_of 2 hourly_rate_kinds.ps hourly_rate_kinds.r) κs)
    → hourly_rate_lem.Post κs (earlier, (scores, tt)) x s → ScoresFit earlier.now scores.now → x ≡ record { refusal = 0; rate = smallest (rolling earlier.now scores.now) }
hourly_rate_accepted κs earlier scores x s p f = p ∙ rate_granted earlier.now scores.now f
