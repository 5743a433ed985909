-- A test of every place of a month, told by the list of places with their numbers: `all` over that list is the test of each place. Assumes nothing.
use Prim.Native.Nat.{ℕ, ◌<◌}
use mathlib.Core.Path.{◌≡◌, sym, ap₂, subst, ◌∙◌}
use mathlib.Core.Bool.{Bool, true, false}
use mathlib.Core.List.{List}
use native.Mathlib.Omega.{arith}
use lib.IntN.{ℤ, pos}
use lib.ListN.{length, get_or}
use Rattle.std.specs.Bool.{MatchBool}
use Rattle.std.specs.List.{AllWithin, HoldsAt, zip, enumerate_from}
use Rattle.std.proofs.lemmas.Slice.Zip.{length-zip, get_or-zip}
use Rattle.std.proofs.lemmas.List.FromFn.{length-enumerate_from, get_or-enumerate_from}
use Rattle.whole.specs.Folds.{all_to}
use Rattle.whole.proofs.Folds.{all_of, all_fails}
use Rattle.units.specs.Limits.{month_places}

module _ (marks : List Bool) (amounts : List ℤ) (m : length marks ≡ month_places) (n : length amounts ≡ month_places) where
  abbrev places : List (ℕ × (Bool × ℤ))
  places = enumerate_from 0 (zip marks amounts)

  long : length places ≡ month_places
  long = length-enumerate_from 0 (zip marks amounts) ∙ length-zip marks amounts ∙ omega (arith, m, n)

  at : (p : ℕ) → p < month_places → get_or places p (0, (false, pos 0)) ≡ (p, (get_or marks p false, get_or amounts p (pos 0)))
  at p l =
      get_or-enumerate_from 0 (zip marks amounts) p (0, (false, pos 0)) (rw (length-zip marks amounts) (omega (arith, m, n)))
      ∙ ap₂ (λ (k : ℕ) (x : Bool × ℤ). (k, x)) (omega arith) (get_or-zip marks amounts p (false, pos 0) (omega (arith, m)) (omega (arith, n)))

  pub each_of : (t : ℕ × (Bool × ℤ) → Bool) (r : Bool)
      → MatchBool r (AllWithin (λ p. t p ≡ true) places 0 (length places)) ((k : ℕ) × (k < length places) × HoldsAt (λ p. t p ≡ false) places k)
      → r ≡ all_to month_places (λ p. t (p, (get_or marks p false, get_or amounts p (pos 0))))
  each_of t true h =
      sym (all_of month_places _ (λ p l. subst (λ x. t x ≡ true) (at p l) (h p (0, (false, pos 0)) (omega arith) (omega (arith, long)))))
  each_of t false (k, l, h) =
      let s : k < month_places = omega (arith, long, l) in
      sym (all_fails month_places _ k s (subst (λ x. t x ≡ false) (at k s) (h (0, (false, pos 0)))))
