-- The program `desk`, call by call, over the contracts as the toolchain reads them: what meets the contracts of `replies::feed`, each call handed a front of
-- the input that the calls before it left, and of `replies::finish` at the input's end, accepted each time, and the text that they write; and one call of
-- `question::reply`.
use Rattle.std.specs.Prelude.{ℕ, ◌≡◌, List, [], ◌++◌, ℤ, take, drop}
use contract.Lifetimes.{Lfts}
use denote.Triple.Clauses.{AtExit}
use borrow.Fn.Kinds.{Dens, ended_of}
use Rattle.asked.specs.declared.State.{State}
use Rattle.replies.specs.declared.Replied.{Replied}
use Rattle.question.specs.declared.Answered.{Answered}
use Rattle.question.proofs.reply.Reads as reply_reads
use Rattle.question.proofs.reply.Kinds as reply_kinds
use Rattle.replies.proofs.feed.Reads as feed_reads
use Rattle.replies.proofs.feed.Kinds as feed_kinds
use Rattle.replies.proofs.finish.Reads as finish_reads
use Rattle.replies.proofs.finish.Kinds as finish_kinds

-- an accepted call of `feed`: what is handed in, what it answers, the run that it leaves, and the text that it wrote
pub record DeskFeeds (state : State) (chunk : List ℕ) (run : List ℤ) (answer : Replied) (left : List ℤ) (text : List ℕ) : Type 0 where
  pub κs : Lfts 3
  pub handed : Dens κs feed_kinds.ps
  pub exit : AtExit (ended_of 3 feed_kinds.ps feed_kinds.r) κs
  pub post : feed_reads.Post κs handed answer exit
  pub accepted : answer.refusal ≡ 0
  pub is_state_lem : handed.0 ≡ state
  pub is_chunk : handed.1.0.now ≡ chunk
  pub is_run_lem : handed.1.1.0.now ≡ run
  pub is_left : exit.1.1.0.now ≡ left
  pub is_text : take answer.written exit.1.1.1.0.now ≡ text

-- the same of `finish`
pub record DeskFinishes (state : State) (run : List ℤ) (text : List ℕ) : Type 0 where
  pub κs : Lfts 2
  pub handed : Dens κs finish_kinds.ps
  pub answer : Replied
  pub exit : AtExit (ended_of 2 finish_kinds.ps finish_kinds.r) κs
  pub post : finish_reads.Post κs handed answer exit
  pub accepted : answer.refusal ≡ 0
  pub is_state_lem : handed.0 ≡ state
  pub is_run_lem : handed.1.0.now ≡ run
  pub is_text : take answer.written exit.1.1.0.now ≡ text

-- call after call, each handed a front of what is left of the input; and, once nothing is left, the end
pub data DeskPrints : State → List ℤ → List ℕ → List ℕ → Type 0 where
  fed : {state : State} {run left : List ℤ} {text rest : List ℕ} {answer : Replied} (chunk more : List ℕ)
      → DeskFeeds state chunk run answer left text → DeskPrints answer.state left (drop answer.taken chunk ++ more) rest
      → DeskPrints state run (chunk ++ more) (text ++ rest)
  finished : {state : State} {run : List ℤ} {text : List ℕ} → DeskFinishes state run text → DeskPrints state run [] text

-- an accepted call of `reply`: what is handed in, and the text that it wrote
pub record Replies (word line found place : ℕ) (numbers : List ℤ) (text : List ℕ) : Type 0 where
  pub κs : Lfts 2
  pub handed : Dens κs reply_kinds.ps
  pub answer : Answered
  pub exit : AtExit (ended_of 2 reply_kinds.ps reply_kinds.r) κs
  pub post : reply_reads.Post κs handed answer exit
  pub accepted : answer.refusal ≡ 0
  pub is_word : handed.0 ≡ word
  pub is_line : handed.1.0 ≡ line
  pub is_found : handed.1.1.0 ≡ found
  pub is_place : handed.1.1.1.0 ≡ place
  pub is_numbers : handed.1.1.1.1.0.now ≡ numbers
  pub is_text : take answer.written exit.1.1.1.1.1.0.now ≡ text
