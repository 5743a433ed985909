-- The first window that stays below a threshold, told by each window's scores: there is none, and each has a score at or above; or it is the i-th, and each before it has one. And what is
-- read of a window: a score at least, and no more than it has. By induction on the windows. Assumes nothing.
use Prim.Native.Nat.{ℕ, zero, suc, ◌+◌, ◌≤◌, ◌<◌}
use mathlib.Core.Path.{◌≡◌, refl, sym, ◌∙◌}
use mathlib.Core.Bool.{Bool, true, false}
use mathlib.Core.List.{List, [], ◌∷◌}
use native.Mathlib.Nat.{not-suc-le-zero}
use native.Mathlib.Omega.{arith}
use lib.Dec.{ltb, leb}
use lib.ListN.{length, get_or}
use borrow.Author.Tests.{ltb-true, ltb-false}
use Rattle.whole.specs.Choice.{pick}
use Rattle.whole.proofs.Choice.{clash, by_test, and_both}
use Rattle.reached.specs.Reached.{stays_below, first_below, read_in}
use Rattle.reached.specs.Accepted.{Below, Meets}

none_or_all : (b : Bool) (n : ℕ) → pick b 0 n ≤ n
none_or_all true n = omega arith
none_or_all false n = omega arith

module _ (threshold : ℕ) where
  -- ---- one window

  pub stays_below_lem : (w : List ℕ) → stays_below threshold w ≡ true → Below threshold w
  stays_below_lem [] e k h = absurd (not-suc-le-zero h)
  stays_below_lem (x ∷ w) e zero h = ltb-true x threshold (and_both (ltb x threshold) (stays_below threshold w) e).0
  stays_below_lem (x ∷ w) e (suc k) h = stays_below_lem w (and_both (ltb x threshold) (stays_below threshold w) e).1 k (omega arith)

  pub meets : (w : List ℕ) → stays_below threshold w ≡ false → Meets threshold w
  meets [] e = clash (sym e)
  meets (x ∷ w) e =
      by_test (ltb x threshold)
      (λ (t : ltb x threshold ≡ true).
      let r = meets w (rw t at e) in
      record { back = suc r.back; inside = omega (arith, r.inside); met = r.met })
      (λ (t : ltb x threshold ≡ false). record { back = 0; inside = omega arith; met = ltb-false x threshold t })

  -- what is read of it
  pub read_least : (w : List ℕ) → 0 < length w → 1 ≤ read_in threshold w
  read_least [] l = absurd (not-suc-le-zero l)
  read_least (x ∷ w) l = omega arith

  pub read_most : (w : List ℕ) → read_in threshold w ≤ length w
  read_most [] = omega arith
  read_most (x ∷ w) = omega (arith, none_or_all (leb threshold x) (read_in threshold w), read_most w)

  -- ---- the windows of the seconds n, n + 1, ..

  pub data FirstWindow (n : ℕ) (ws : List (List ℕ)) : Type 0 where
    none_below : first_below threshold n ws ≡ 0 → ((j : ℕ) → j < length ws → Meets threshold (get_or ws j [])) → FirstWindow n ws
    first_below_lem : (i : ℕ) → first_below threshold n ws ≡ n + i → i < length ws → Below threshold (get_or ws i [])
        → ((j : ℕ) → j < i → Meets threshold (get_or ws j [])) → FirstWindow n ws

  pub first_window : (n : ℕ) (ws : List (List ℕ)) → FirstWindow n ws
  first_window n [] = none_below refl (λ j h. absurd (not-suc-le-zero h))
  first_window n (w ∷ ws) =
      by_test (stays_below threshold w)
      (λ (t : stays_below threshold w ≡ true).
      first_below_lem 0 (rw t (omega arith)) (omega arith) (stays_below_lem w t) (λ j h. absurd (not-suc-le-zero h)))
      (λ (t : stays_below threshold w ≡ false). later t (meets w t) (first_window (n + 1) ws))
    where
      later : stays_below threshold w ≡ false → Meets threshold w → FirstWindow (n + 1) ws → FirstWindow n (w ∷ ws)
      later t r (none_below e each) = none_below (rw t e) (after r each)
        where
          after : Meets threshold w → ((j : ℕ) → j < length ws → Meets threshold (get_or ws j [])) → (j : ℕ) → j < length (w ∷ ws) → Meets threshold (get_or (w ∷ ws) j [])
          after r each zero h = r
          after r each (suc j) h = each j (omega arith)
      later t r (first_below_lem i e l b before) = first_below_lem (suc i) (rw t (e ∙ omega arith)) (omega arith) b (after r before)
        where
          after : Meets threshold w → ((j : ℕ) → j < i → Meets threshold (get_or ws j [])) → (j : ℕ) → j < suc i → Meets threshold (get_or (w ∷ ws) j [])
          after r before zero h = r
          after r before (suc j) h = before j (omega arith)

-- no window that stays below a threshold meets it, or a higher one
pub not_both {ℓ} : {X : Type ℓ} (t u : ℕ) (w : List ℕ) → t ≤ u → Below t w → Meets u w → X
not_both t u w h b r = absurd (omega (arith, b r.back r.inside, r.met))
