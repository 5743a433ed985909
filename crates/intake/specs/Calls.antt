-- The arguments of `feed` and `finish`, and what they leave, by name. The state comes first; `feed` has its chunk between the state and the runs: marks, amounts and out.
use Rattle.std.specs.Prelude.{ℕ, Bool, List, ℤ}
use Rattle.std.specs.Borrow.{Bor, MutBor}
use Rattle.board.specs.Calls.{lent_marks, lent_amounts}

abbrev pub lent_chunk : {H T : Type 0} → H × (Bor (List ℕ) × T) → List ℕ
lent_chunk a = a.1.0.now

abbrev pub lent_out : {H T : Type 0} → H × (MutBor (List Bool) × (MutBor (List ℤ) × (MutBor (List ℕ) × T))) → List ℕ
lent_out a = a.1.1.1.0.now

-- all that a call may change
abbrev pub all_runs : {H T : Type 0} → H × (MutBor (List Bool) × (MutBor (List ℤ) × (MutBor (List ℕ) × T))) → List Bool × List ℤ × List ℕ
all_runs a = (lent_marks a, lent_amounts a, lent_out a)
