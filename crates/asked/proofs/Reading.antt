-- A chunk byte by byte: what is left of it from a place on comes to what one byte and the rest come to. By the first of the bytes that are
-- left. Assumes nothing.
use Prim.Native.Nat.{ℕ, suc, ◌+◌, ◌≤◌, ◌<◌}
use native.Mathlib.Omega.{arith}
use mathlib.Core.Path.{◌≡◌, refl, sym, ◌∙◌}
use mathlib.Core.Bool.{Bool, true, false, ◌&&◌}
use mathlib.Core.List.{List, [], ◌∷◌}
use lib.IntN.{ℤ}
use lib.ListN.{length, get_or, drop, set, length-set}
use Rattle.whole.specs.Choice.{pick}
use Rattle.whole.proofs.Choice.{by_test, kept_any}
use Rattle.whole.proofs.Runs.{rest}
use Rattle.tokens.specs.Bytes.{parts}
use Rattle.tokens.specs.Tokens.{token_number, step_of}
use Rattle.asked.specs.Asking.{token_fault, begins, stepped}
use Rattle.asked.specs.Inner.{stored, run_stepped, taken_in, state_in, run_in, ended_in, is_run, reached_of, answer_in, read_of}
use Rattle.tokens.specs.declared.Next.{Next}
use Rattle.tokens.specs.declared.Token.{Token}
use Rattle.asked.specs.declared.State.{State}

-- ---- the run keeps its length

pub length_stored : (count : ℕ) (token : Token) (run : List ℤ) → length (stored count token run) ≡ length run
unfolding stored
length_stored count token run =
    kept_any (λ (r : List ℤ). length r ≡ length run) (token_fault count token) {new = set run count (token_number token).value} {old = run} (λ e. length-set run count (token_number token).value) refl

pub length_stepped : (state : State) (b : ℕ) (run : List ℤ) → length (run_stepped state b run) ≡ length run
unfolding run_stepped
length_stepped state b run =
    by_test (parts b)
    (λ (t : parts b ≡ true). rw t (length_stored state.asked.count state.token run))
    (λ (t : parts b ≡ false). rw t)

-- ---- a byte, by what it does to the token

module _ (state : State) (b : ℕ) (next : Next) (n : next ≡ step_of state.token b) where
  pub begins_by : begins state b ≡ (state.asked.opened && next.word)
  unfolding begins step_of
  begins_by = rw n

  pub stores_by : (run : List ℤ) → pick next.ended (stored state.asked.count state.token run) run ≡ run_stepped state b run
  unfolding run_stepped step_of
  stores_by run = rw n

-- ---- from a place of the chunk on

-- from place i on, read from here, the chunk comes to what it came to from the start
pub record Still (start : State) (chunk : List ℕ) (begun : List ℤ) (reached : State) (i : ℕ) (run : List ℤ) : Type 0 where
  pub state_is : state_in start chunk ≡ state_in reached (drop i chunk)
  pub taken_is : taken_in start chunk ≡ i + taken_in reached (drop i chunk)
  pub ended_is : ended_in start chunk ≡ ended_in reached (drop i chunk)
  pub run_is : run_in start chunk begun ≡ run_in reached (drop i chunk) run

module _ {start : State} {chunk : List ℕ} {begun : List ℤ} {reached : State} {i : ℕ} {run : List ℤ} (s : Still start chunk begun reached i run) where
  -- the byte there is taken
  pub still_next : i < length chunk → begins reached (get_or chunk i 0) ≡ false
      → Still start chunk begun (stepped reached (get_or chunk i 0)) (i + 1) (run_stepped reached (get_or chunk i 0) run)
  still_next h e =
      let c = get_or chunk i 0 in
      let more : taken_in reached (drop i chunk) ≡ suc (taken_in (stepped reached c) (drop (i + 1) chunk)) = rw (rest chunk i 0 h, e) in
      record {
        state_is = s.state_is ∙ rw (rest chunk i 0 h, e);
        taken_is = s.taken_is ∙ omega arith;
        ended_is = s.ended_is ∙ rw (rest chunk i 0 h, e);
        run_is = s.run_is ∙ rw (rest chunk i 0 h, e);
      }

  -- what is answered where the reading stops at place i
  abbrev pub Stopped : Bool → Type 0
  Stopped ended =
      (reached_of reached i ended ≡ answer_in start chunk)
      × (run ≡ run_in start chunk begun)

  -- the byte there begins the next question
  pub still_stops : i < length chunk → begins reached (get_or chunk i 0) ≡ true → Stopped true
  still_stops h e =
      let none : taken_in reached (drop i chunk) ≡ 0 = rw (rest chunk i 0 h, e) in
      let a : state_in start chunk ≡ reached = s.state_is ∙ rw (rest chunk i 0 h, e) in
      let n : taken_in start chunk ≡ i = s.taken_is ∙ omega arith in
      let d : ended_in start chunk ≡ true = s.ended_is ∙ rw (rest chunk i 0 h, e) in
      (rw (a, n, d), sym (s.run_is ∙ rw (rest chunk i 0 h, e)))

-- ---- how far a chunk is read

pub taken_within : (state : State) (chunk : List ℕ) → taken_in state chunk ≤ length chunk
taken_within state [] = omega arith
taken_within state (b ∷ bs) =
    by_test (begins state b)
    (λ (t : begins state b ≡ true). rw t (omega arith))
    (λ (t : begins state b ≡ false). rw t (omega (arith, taken_within (stepped state b) bs)))

-- whatever is handed in
pub read_taken : (state : State) (chunk : List ℕ) (run : List ℤ) → (read_of state chunk run).taken ≤ length chunk
unfolding read_of reached_of
read_taken state chunk run =
    by_test (is_run run)
    (λ (t : is_run run ≡ true). rw t (taken_within state chunk))
    (λ (t : is_run run ≡ false). rw t (omega arith))
