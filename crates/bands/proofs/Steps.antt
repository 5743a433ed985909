-- The place of a record, one threshold at a time; and the code's two questions, asked by the library. By the first threshold, and by each pair. Assumes nothing.
use Rattle.std.proofs.Common.{◌≡◌, suc, ◌+◌, ◌-◌, ◌≤◌, Bool, true, false, cond, nat_lt, List, [], ◌∷◌, ℤ, pos, length, refl, sym, unwrap_or, position, arith}
use Rattle.std.specs.List.{IsAllAdjacentAnswer, position_or_len}
use Rattle.std.specs.Int.Signed.{lt_z, le_z}
use Rattle.std.proofs.lemmas.List.Recursion.{is_position_or_len}
use borrow.Author.Tests.{ltb-false}
use Rattle.whole.proofs.Choice.{by_test}
use Rattle.whole.proofs.Folds.{all_of, all_fails}
use Rattle.bands.specs.Bands.{first_place, fall}

module _ (t : ℤ) (ts : List ℤ) (rate : ℤ) where
  pub place_first : le_z t rate ≡ true → first_place (t ∷ ts) rate ≡ 0
  unfolding first_place
  place_first e = rw (e, first_place)

  pub place_later : le_z t rate ≡ false → first_place (t ∷ ts) rate ≡ suc (first_place ts rate)
  unfolding first_place
  place_later e = rw (e, first_place)

inside : (ts : List ℤ) (rate : ℤ) → first_place ts rate ≤ length ts
unfolding first_place
inside [] rate = omega arith
inside (t ∷ ts) rate =
    by_test (le_z t rate)
    (λ (e : le_z t rate ≡ true). omega (arith, place_first t ts rate e))
    (λ (e : le_z t rate ≡ false). omega (arith, place_later t ts rate e, inside ts rate))

-- how the code looks it up: the first threshold that is at most the rate, or their number
pub place_is : (ts : List ℤ) (rate : ℤ) → unwrap_or (position (λ t. le_z t rate) ts) (length ts) ≡ first_place ts rate
unfolding first_place
place_is ts rate =
    let p = λ (t : ℤ). le_z t rate in
    let step : (t : ℤ) (ts : List ℤ) → first_place (t ∷ ts) rate ≡ cond (le_z t rate) 0 (1 + first_place ts rate) =
    λ t ts. by_test (le_z t rate)
    (λ (e : le_z t rate ≡ true). rw e)
    (λ (e : le_z t rate ≡ false). rw e (omega arith)) in
    let found : first_place ts rate ≡ position_or_len p ts = is_position_or_len (λ xs. first_place xs rate) p refl step ts in
    by_test (nat_lt (position_or_len p ts) (length ts))
    (λ (t : nat_lt (position_or_len p ts) (length ts) ≡ true). rw t (sym found))
    (λ (t : nat_lt (position_or_len p ts) (length ts) ≡ false). rw t (omega (arith, inside ts rate, ltb-false (position_or_len p ts) (length ts) t)))

-- and how it tests that they fall: each with the next
pub fall_is : (ts : List ℤ) (r : Bool) → IsAllAdjacentAnswer (λ x y b. b ≡ lt_z y x) ts r → r ≡ fall ts
unfolding fall
fall_is ts true h = sym (all_of (length ts - 1) _ (λ k l. sym (h k (pos 0) (omega arith))))
fall_is ts false h = sym (all_fails (length ts - 1) _ h.0 (omega (arith, h.1)) (sym (h.2 (pos 0))))
