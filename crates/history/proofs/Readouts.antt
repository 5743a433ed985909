-- What the read-outs tell of a board that tells what a history tells. Assumes nothing.
use Prim.Native.Nat.{ℕ, suc, ◌+◌, ◌-◌}
use mathlib.Core.Path.{◌≡◌, refl, sym, ap, ap₂, ◌∙◌}
use mathlib.Core.Bool.{Bool, true, false, ◌&&◌}
use mathlib.Core.List.{List, foldl}
use mathlib.Core.Option.{none, some}
use native.Mathlib.Nat.{add-zero, add_assoc, lt_of_lt_of_le}
use lib.Dec.{leb}
use lib.IntN.{ℤ, pos, ◌+ℤ◌, ◌-ℤ◌, +ℤ_idr, +ℤ_assoc}
use borrow.Author.Tests.{lt-ltb}
use Rattle.whole.specs.Choice.{pick, unless}
use Rattle.whole.specs.Folds.{sum_to}
use Rattle.whole.proofs.Choice.{by_test, both, kept_new}
use Rattle.whole.proofs.Folds.{fold_same}
use Rattle.units.specs.Refusals.{place_empty}
use Rattle.history.specs.Rules.{Rules, Sound, inside, place_in}
use Rattle.history.specs.Board.{Board, told, mark_at, item_at, filled_at, hour_on, day_on, sum_on, part_on, total_on, standing_on}
use Rattle.history.specs.History.{Recorded, last_item, stands, read_as, hour_is, day_sum, month_sum, day_is, part_is, earned_is, total_is, standing_is}
use Rattle.whole.proofs.Sums.{sum_none, sum_swap}
use Rattle.history.proofs.Board.{place_on, below, over_hours, read_at_lem, held_at}
use Rattle.history.proofs.Steps.{Told, stands_pick}

module _ {F M B : Type 0} (R : Rules F M B) (sound : Sound R) (h : List (Recorded F (M × B))) (b : Board F M B) (t : Told R h b) where
  -- a day's hours
  hours_of_lem : (d : ℕ) → leb 1 d && leb d R.days ≡ true → sum_to (R.hours_of d) (λ x. R.worth (item_at R b (place_in R d x))) ≡ day_sum R R.worth h d
  hours_of_lem d i =
      fold_same (pos 0) ◌+ℤ◌ (R.hours_of d) _ _ (λ x l.
      let j : inside R d x ≡ true = both i (lt-ltb x (R.hours_of d) l) in
      read_at_lem R sound b t.good R.worth sound.no_worth (place_in R d x) (lt_of_lt_of_le (below R d x j) sound.room)
      ∙ ap (λ s. read_as R.worth (pick s (place_on R b (place_in R d x)) none)) (sym j)
      ∙ ap (read_as R.worth) (t.stands_is d x))

  pub hour_is_lem : (d x : ℕ) → hour_on R b d x ≡ hour_is R h d x
  unfolding hour_on
  hour_is_lem d x =
      by_test (inside R d x)
      (λ (i : inside R d x ≡ true).
      let e : place_on R b (place_in R d x) ≡ last_item R h d x = (rw i at (t.stands_is d x)) in
      rw i (read (filled_at R b d x) (item_at R b (place_in R d x)) ∙ ap (λ o. told (unless (stands o) place_empty 0) (read_as R.worth o)) e))
      (λ (i : inside R d x ≡ false). rw i)
    where
      read : (m : Bool) (a : M × B) → told (unless m place_empty 0) (R.worth a) ≡ told (unless (stands (pick m (some a) none)) place_empty 0) (read_as R.worth (pick m (some a) none))
      read true a = refl
      read false a = refl

  pub day_is_lem : (d : ℕ) → day_on R b d ≡ day_is R h d
  unfolding day_on
  day_is_lem d =
      by_test (leb 1 d && leb d R.days)
      (λ (i : leb 1 d && leb d R.days ≡ true). rw i (ap (told 0) (hours_of_lem d i)))
      (λ (i : leb 1 d && leb d R.days ≡ false). rw i)

  -- the sum of any reading by which the blank is nothing
  pub sum_is : (value : M × B → ℤ) → value R.blank ≡ pos 0 → sum_on R value b ≡ month_sum R value h
  sum_is value z =
      fold_same (pos 0) ◌+ℤ◌ R.places _ _ (λ p l. read_at_lem R sound b t.good value z p l)
      ∙ over_hours R sound b t.good (pos 0) ◌+ℤ◌ +ℤ_idr +ℤ_assoc (read_as value) refl
      ∙ fold_same (pos 0) ◌+ℤ◌ R.days _ _ (λ k l. fold_same (pos 0) ◌+ℤ◌ (R.hours_of (suc k)) _ _ (λ x m. ap (read_as value) (t.stands_is (suc k) x)))

  pub part_is_lem : (q : ℕ) → part_on R b q ≡ part_is R h q
  unfolding part_on
  part_is_lem q = ap (told (R.check_part q)) (sum_is (R.part q) (sound.no_part q))

  pub total_is_lem : total_on R b ≡ total_is R h
  unfolding total_on
  total_is_lem = ap₂ (λ z (fee : F → ℤ). foldl (λ z f. z -ℤ fee f) z R.fees) (sum_is R.worth sound.no_worth) (λ i f. t.fee_is f i)

  -- the parts add up
  pub parts_are : sum_to R.parts (λ k. (part_is R h (suc k)).1) ≡ earned_is R h
  parts_are =
      fold_same (pos 0) ◌+ℤ◌ R.parts _ _ (λ k l. kept_new _ (pos 0) (sound.asked k l) ∙ sym (sum_is (R.part (suc k)) (sound.no_part (suc k))))
      ∙ sum_swap R.parts R.places (λ k p. R.part (suc k) (item_at R b p))
      ∙ fold_same (pos 0) ◌+ℤ◌ R.places _ _ (held_at R sound b t.good (λ _ a. sum_to R.parts (λ k. R.part (suc k) a) ≡ R.worth a) sound.in_parts
      (sum_none R.parts (λ k. R.part (suc k) R.blank) (λ k _. sound.no_part (suc k)) ∙ sym sound.no_worth))
      ∙ sum_is R.worth sound.no_worth

  pub standing_is_lem : standing_on R b ≡ standing_is R h
  unfolding standing_on
  standing_is_lem =
      fold_same 0 ◌+◌ R.places _ _ (λ p l. ap (λ m. pick m 1 0) (sym (stands_pick (mark_at R b p) (item_at R b p))))
      ∙ over_hours R sound b t.good 0 ◌+◌ add-zero add_assoc (λ o. pick (stands o) 1 0) refl
      ∙ fold_same 0 ◌+◌ R.days _ _ (λ k l. fold_same 0 ◌+◌ (R.hours_of (suc k)) _ _ (λ x m. ap (λ o. pick (stands o) 1 0) (t.stands_is (suc k) x)))
