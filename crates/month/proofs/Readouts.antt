-- The read-outs of a month: 22 where it is not well formed, and else what the board tells. By rewriting with the tests. Assumes nothing.
use Prim.Native.Nat.{ℕ, ◌+◌, ◌-◌, ◌≤◌}
use mathlib.Core.Path.{◌≡◌, sym, ap, ◌∙◌}
use mathlib.Core.Bool.{Bool, true, false, not, ◌&&◌}
use native.Mathlib.Omega.{arith}
use lib.Dec.{leb}
use lib.IntN.{ℤ, pos}
use lib.ListN.{get_or}
use native.Mathlib.Nat.{add-zero}
use borrow.Author.Tests.{not-true}
use Rattle.whole.specs.Folds.{sum_to}
use Rattle.whole.proofs.Choice.{by_test}
use Rattle.units.specs.Limits.{hours_of_day, month_places}
use Rattle.units.specs.Refusals.{not_reachable, not_in_month}
use Rattle.history.specs.Rules.{hours_to, inside, place_in}
use Rattle.history.specs.Board.{well_formed, hour_on, day_on}
use Rattle.history.specs.Inner.{runs_fit, ledger_refusal, hour_in, total_in}
use Rattle.history.proofs.Board.{Good, good_runs, good_fees, hour_of, hour_told_at}
use Rattle.history.proofs.Days.{hours_even}
use Rattle.board.specs.Board.{told_of}
use Rattle.month.specs.Month.{rules_of, board_of, read_out, hour_told, day_told, total_told}
use Rattle.month.specs.declared.Month.{Month}
use Rattle.head.specs.Inner.{place_of}
use Rattle.head.proofs.Sound.{most_days_lem, month_sound}
use Rattle.head.proofs.HourPlaces.{place_for}
use Rattle.month.proofs.Core.{well_days}

-- 22
pub told_22 : (m : Month) (t : ℕ × ℤ) {b : Bool} → b ≡ well_formed (rules_of m) (board_of m) → not b ≡ true → told_of (not_reachable, pos 0) ≡ read_out m t
told_22 m t {b} test failed = rw (sym test ∙ not-true b failed)

-- the total in place: on runs that are the ledger's, 1 is never answered
pub total_is_lem : (m : Month) → runs_fit (rules_of m) (board_of m) ≡ true → told_of (total_in (rules_of m) (board_of m)) ≡ total_told m
unfolding total_told total_in ledger_refusal
total_is_lem m runs =
    by_test (well_formed (rules_of m) (board_of m))
    (λ (w : well_formed (rules_of m) (board_of m) ≡ true). rw (runs, w))
    (λ (w : well_formed (rules_of m) (board_of m) ≡ false). rw (runs, w))

module _ (m : Month) (w : well_formed (rules_of m) (board_of m) ≡ true) where
  -- one hour in place
  pub hour_told_lem : Good (rules_of m) (board_of m) → (d x : ℕ) → told_of (hour_in (rules_of m) (board_of m) (place_of d x)) ≡ hour_told m d x
  unfolding hour_told hour_on
  hour_told_lem g d x =
      let sound = month_sound m.days (well_days m w) in
      let fees = good_fees (rules_of m) sound (board_of m) g in
      ap told_of (hour_told_at (rules_of m) (board_of m) d x (place_of d x) (place_for m.days d x) fees) ∙ rw (w, good_runs (rules_of m) sound (board_of m) g, fees)

  -- a day that is none of the month's has no hour 0 in it, and a day of the month has one
  pub first_hour : (d : ℕ) → inside (rules_of m) d 0 ≡ (leb 1 d && leb d m.days)
  first_hour d = by_test (leb 1 d && leb d m.days) (λ (t : (leb 1 d && leb d m.days) ≡ true). rw t) (λ (t : (leb 1 d && leb d m.days) ≡ false). rw t)

  pub day_6 : (d : ℕ) → inside (rules_of m) d 0 ≡ false → told_of (not_in_month, pos 0) ≡ day_told m d
  unfolding day_told day_on
  day_6 d i = rw (w, sym (first_hour d) ∙ i)

  -- a day of the month: its places from the first hour's on
  pub day_told_lem : (d : ℕ) → inside (rules_of m) d 0 ≡ true → told_of (0, sum_to hours_of_day (λ x. get_or m.amounts (place_in (rules_of m) d 0 + x) (pos 0))) ≡ day_told m d
  unfolding day_told day_on
  day_told_lem d i =
      rw (w, sym (first_hour d) ∙ i)
      (ap (λ (p : ℕ). told_of (0, sum_to hours_of_day (λ x. get_or m.amounts (p + x) (pos 0)))) (add-zero (hours_to (λ _. hours_of_day) (d - 1))))

  -- its places are among the month's
  pub day_room : (d : ℕ) → inside (rules_of m) d 0 ≡ true → place_in (rules_of m) d 0 + hours_of_day ≤ month_places
  day_room d i =
      let t = hour_of (rules_of m) d 0 i in
      omega (arith, t.one, t.last, hours_even hours_of_day (d - 1), most_days_lem m.days (well_days m w))
