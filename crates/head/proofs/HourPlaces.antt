-- The place of an hour stands for the hour: it is below a month's hours just where the hour is the month's. By the days' 24 hours each. Assumes nothing.
use Prim.Native.Nat.{ℕ, ◌-◌, ◌+◌}
use native.Mathlib.Omega.{arith}
use mathlib.Core.Path.{◌≡◌}
use mathlib.Core.Bool.{true, false, ◌&&◌, and-false}
use lib.Dec.{leb, ltb}
use borrow.Author.Tests.{leb-true, leb-false, ltb-true, lt-ltb, le-ltb}
use Rattle.whole.proofs.Choice.{and_both, by_test}
use Rattle.units.specs.Limits.{hours_of_day, month_places}
use Rattle.history.specs.Rules.{hours_to, inside, place_in, places_of}
use Rattle.history.proofs.Days.{hours_even}
use Rattle.history.specs.Inner.{PlaceFor}
use Rattle.head.specs.Rules.{month_rules}
use Rattle.head.specs.Inner.{place_of}
use Rattle.head.proofs.Sound.{most_days_lem}

module _ (days d x : ℕ) where
  abbrev Below : Type 0
  Below = ltb (place_of d x) (places_of (month_rules days)) ≡ inside (month_rules days) d x

  below : (month_rules days).opens ≡ true → Below
  below opens =
      by_test (leb 1 d)
      (λ (o : leb 1 d ≡ true).
      by_test (ltb x hours_of_day)
      (λ (t : ltb x hours_of_day ≡ true).
      by_test (leb d days)
      (λ (l : leb d days ≡ true).
      let a = leb-true 1 d o in let c = ltb-true x hours_of_day t in let e = leb-true d days l in
      rw (o, t, l) (lt-ltb (hours_to (λ _. hours_of_day) (d - 1) + x) (places_of (month_rules days)) (omega (arith, hours_even hours_of_day days, hours_even hours_of_day (d - 1)))))
      (λ (l : leb d days ≡ false).
      let a = leb-true 1 d o in let e = leb-false d days l in
      rw (o, t, l) (le-ltb (hours_to (λ _. hours_of_day) (d - 1) + x) (places_of (month_rules days)) (omega (arith, hours_even hours_of_day days, hours_even hours_of_day (d - 1))))))
      (λ (t : ltb x hours_of_day ≡ false). rw (o, t, and-false) past))
      (λ (o : leb 1 d ≡ false). rw o past)
    where
      past : ltb month_places (places_of (month_rules days)) ≡ false
      past = le-ltb month_places (places_of (month_rules days)) (omega (arith, hours_even hours_of_day days, most_days_lem days opens))

  here : inside (month_rules days) d x ≡ true → place_of d x ≡ place_in (month_rules days) d x
  here i =
      let k = and_both (leb 1 d && leb d days) (ltb x hours_of_day) i in
      rw ((and_both (leb 1 d) (leb d days) k.0).0, k.1)

  pub place_for : PlaceFor (month_rules days) d x (place_of d x)
  place_for = record { within = below; here = here }
