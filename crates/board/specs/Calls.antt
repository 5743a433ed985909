-- The two lent runs of a call in place, by name: they stand second and third among its arguments, and in what it leaves.
use Rattle.std.specs.Prelude.{Bool, List, ℤ}
use Rattle.std.specs.Borrow.{MutBor}

abbrev pub lent_marks : {H T : Type 0} → H × (MutBor (List Bool) × (MutBor (List ℤ) × T)) → List Bool
lent_marks a = a.1.0.now

abbrev pub lent_amounts : {H T : Type 0} → H × (MutBor (List Bool) × (MutBor (List ℤ) × T)) → List ℤ
lent_amounts a = a.1.1.0.now

abbrev pub lent_runs : {H T : Type 0} → H × (MutBor (List Bool) × (MutBor (List ℤ) × T)) → List Bool × List ℤ
lent_runs a = (lent_marks a, lent_amounts a)
