-- Orders of refusals that end in a number of its own: that number counts as it is. By its test. Assumes nothing.
use Prim.Native.Nat.{ℕ}
use mathlib.Core.Path.{◌≡◌, sym}
use mathlib.Core.Bool.{true, false}
use lib.Dec.{eqb}
use borrow.Author.Tests.{eqb-true}
use mathlib.Core.List.{[], ◌∷◌}
use Rattle.whole.specs.Choice.{in_order}
use Rattle.whole.proofs.Choice.{by_test}
use Rattle.history.specs.Rules.{own}

pub own_last : (k : ℕ) → in_order (own k ∷ []) ≡ k
own_last k = by_test (eqb k 0) (λ (t : eqb k 0 ≡ true). rw t (sym (eqb-true k 0 t))) (λ (t : eqb k 0 ≡ false). rw t)
