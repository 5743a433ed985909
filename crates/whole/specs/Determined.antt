-- A contract determines the answer: any two answers that meet it are equal, whatever was handed in, refused inputs included; and so is what
-- each leaves in a lent run. `Post` is the contract as the toolchain reads it off the source (the module `Reads` of a function),
-- so that a contract that is weakened later no longer has its line in proofs/Determined.antt.
use Rattle.std.specs.Prelude.{ℕ, ◌≡◌, List}
use contract.Lifetimes.{Lfts}
use borrow.Fn.Kinds.{ParamKind, ResultKind, Dens, Out, res_t, ended_of}
use denote.Triple.Clauses.{AtExit}

-- for a function of n lifetimes, with parameters ps and result r
module _ (n : ℕ) (ps : List (ParamKind n)) (r : ResultKind n) where
  abbrev pub Determined : Out n ps r → Type 0
  Determined Post =
      (κs : Lfts n) (a : Dens κs ps) (x y : (res_t r κs).Denot) (s t : AtExit (ended_of n ps r) κs) → Post κs a x s → Post κs a y t → x ≡ y

  -- the same of what `left` reads off the exit: a lent run's last list
  abbrev pub LeftDetermined : {X : Type 0} → ((κs : Lfts n) → AtExit (ended_of n ps r) κs → X) → Out n ps r → Type 0
  LeftDetermined left Post =
      (κs : Lfts n) (a : Dens κs ps) (x y : (res_t r κs).Denot) (s t : AtExit (ended_of n ps r) κs) →
      Post κs a x s → Post κs a y t → left κs s ≡ left κs t
