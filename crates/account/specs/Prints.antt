-- The program's calls over their contracts as the toolchain reads them: an accepted `feed` and an accepted `finish`, chunk after chunk, and what they print.
use Rattle.std.specs.Prelude.{ℕ, ◌≡◌, Bool, false, List, [], ◌∷◌, ◌++◌, ℤ, pos, take, replicate}
use contract.Lifetimes.{Lfts}
use denote.Triple.Clauses.{AtExit}
use borrow.Fn.Kinds.{Dens, ended_of}
use Rattle.units.specs.Limits.{month_places}
use Rattle.board.specs.Calls.{lent_marks, lent_amounts}
use Rattle.intake.specs.Calls.{lent_chunk, lent_out}
use Rattle.intake.specs.Inner.{first_progress}
use Rattle.intake.specs.declared.Progress.{Progress}
use Rattle.intake.specs.declared.Fed.{Fed}
use Rattle.intake.specs.declared.Finished.{Finished}
use Rattle.intake.proofs.feed.Reads as feed_reads
use Rattle.intake.proofs.feed.Kinds as feed_kinds
use Rattle.intake.proofs.finish.Reads as finish_reads
use Rattle.intake.proofs.finish.Kinds as finish_kinds

-- an accepted call of `feed`: what is handed in, the state and runs that it leaves, and the text that it wrote
pub record Feeds (state : Progress) (chunk : List ℕ) (marks : List Bool) (amounts : List ℤ) (next : Progress) (marksAfter : List Bool) (amountsAfter : List ℤ) (text : List ℕ) : Type 0 where
  pub κs : Lfts 4
  pub handed : Dens κs feed_kinds.ps
  pub answer : Fed
  pub left : AtExit (ended_of 4 feed_kinds.ps feed_kinds.r) κs
  pub post : feed_reads.Post κs handed answer left
  pub accepted : answer.refusal ≡ 0
  pub is_state_lem : handed.0 ≡ state
  pub is_chunk : lent_chunk handed ≡ chunk
  pub is_marks : lent_marks handed.1 ≡ marks
  pub is_amounts : lent_amounts handed.1 ≡ amounts
  pub is_next : answer.state ≡ next
  pub is_marks_after : lent_marks left.1 ≡ marksAfter
  pub is_amounts_after : lent_amounts left.1 ≡ amountsAfter
  pub is_text : take answer.written (lent_out left.1) ≡ text

-- and of `finish`
pub record Finishes (state : Progress) (marks : List Bool) (amounts : List ℤ) (text : List ℕ) : Type 0 where
  pub κs : Lfts 3
  pub handed : Dens κs finish_kinds.ps
  pub answer : Finished
  pub left : AtExit (ended_of 3 finish_kinds.ps finish_kinds.r) κs
  pub post : finish_reads.Post κs handed answer left
  pub accepted : answer.refusal ≡ 0
  pub is_state_lem : handed.0 ≡ state
  pub is_marks : lent_marks handed ≡ marks
  pub is_amounts : lent_amounts handed ≡ amounts
  pub is_text : take answer.written (lent_out left) ≡ text

-- the input that chunks are of
abbrev pub input_of : List (List ℕ) → List ℕ
input_of [] = []
input_of (c ∷ cs) = c ++ input_of cs

-- chunk after chunk, each given the state and runs that the one before left, and the end
pub data Prints : Progress → List Bool → List ℤ → List (List ℕ) → List ℕ → Type 0 where
  finished : {state : Progress} {marks : List Bool} {amounts : List ℤ} {text : List ℕ} → Finishes state marks amounts text → Prints state marks amounts [] text
  fed : {state next : Progress} {marks marksAfter : List Bool} {amounts amountsAfter : List ℤ} {chunk : List ℕ} {cs : List (List ℕ)} {text rest : List ℕ}
      → Feeds state chunk marks amounts next marksAfter amountsAfter text → Prints next marksAfter amountsAfter cs rest → Prints state marks amounts (chunk ∷ cs) (text ++ rest)

-- the states and runs that calls of `feed` lead to
pub data Reaches : Progress → List Bool → List ℤ → Type 0 where
  started : Reaches first_progress (replicate month_places false) (replicate month_places (pos 0))
  fed_on : {state next : Progress} {marks marksAfter : List Bool} {amounts amountsAfter : List ℤ} {chunk text : List ℕ}
      → Reaches state marks amounts → Feeds state chunk marks amounts next marksAfter amountsAfter text → Reaches next marksAfter amountsAfter
