-- Demand 1, "a refusal gives its number only and changes neither the ledger nor any lent run of numbers", as a statement about a contract: `Post` is the contract as
-- the toolchain reads it off the source (the module `Reads` of a function), so that a contract that is weakened later no longer has its line in
-- proofs/RefusedKeeps.antt. (Where a call answers a `Result` and lends no run, the type says it, and the line holds of any contract: which refusal it is, is the
-- contract's equation.)
use Rattle.std.specs.Prelude.{ℕ, ◌≡◌, List}
use contract.Lifetimes.{Lfts}
use borrow.Fn.Kinds.{ParamKind, ResultKind, Dens, Out, res_t, ended_of}
use denote.Triple.Clauses.{AtExit}

-- for a function of n lifetimes, with parameters ps and result r
module _ (n : ℕ) (ps : List (ParamKind n)) (r : ResultKind n) where
  -- `number` is an answer's number, 0 for none, and `bare` the answer that has a number only, beside the ledger that was handed in where there is one; `lent` reads the
  -- lent runs at entry and `left` at exit
  abbrev pub RefusedKeeps : {X : Type 0} → ((κs : Lfts n) → (res_t r κs).Denot → ℕ) → ((κs : Lfts n) → Dens κs ps → ℕ → (res_t r κs).Denot)
      → ((κs : Lfts n) → Dens κs ps → X) → ((κs : Lfts n) → AtExit (ended_of n ps r) κs → X) → Out n ps r → Type 0
  RefusedKeeps number bare lent left Post =
      (κs : Lfts n) (a : Dens κs ps) (x : (res_t r κs).Denot) (s : AtExit (ended_of n ps r) κs) →
      Post κs a x s → (number κs x ≡ 0 → ⊥) → (x ≡ bare κs a (number κs x)) × (left κs s ≡ lent κs a)

  -- the same of a function that is lent no run to fill
  abbrev pub RefusedBare : ((κs : Lfts n) → (res_t r κs).Denot → ℕ) → ((κs : Lfts n) → Dens κs ps → ℕ → (res_t r κs).Denot) → Out n ps r → Type 0
  RefusedBare number bare Post =
      (κs : Lfts n) (a : Dens κs ps) (x : (res_t r κs).Denot) (s : AtExit (ended_of n ps r) κs) →
      Post κs a x s → (number κs x ≡ 0 → ⊥) → x ≡ bare κs a (number κs x)
