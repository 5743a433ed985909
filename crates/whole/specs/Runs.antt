-- A run of values by a rule: what a table is held to, and what a loop leaves in a lent run.
use Rattle.std.specs.Prelude.{ℕ, zero, suc, List, [], ◌∷◌, ◌++◌, drop}

module _ {A : Type 0} (f : ℕ → A) where
  -- f i, f (i + 1), .. : n values
  abbrev pub listed : ℕ → ℕ → List A
  listed i zero = []
  listed i (suc n) = f i ∷ listed (suc i) n

  -- the run with its first n places filled by the rule, counted from i
  abbrev pub filled : ℕ → List A → ℕ → List A
  filled i run n = listed i n ++ drop n run
