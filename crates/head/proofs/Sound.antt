-- The month's rules are sound: its days' hours have places, and its amounts and its fees are as the theory of any ledger asks. Assumes nothing.
use Prim.Native.Nat.{ℕ, suc, ◌≤◌}
use mathlib.Core.Path.{◌≡◌, refl, sym, ap}
use mathlib.Core.List.{[], ◌∷◌}
use mathlib.Core.Bool.{true}
use native.Mathlib.Omega.{arith}
use lib.Dec.{leb, eqb}
use lib.IntN.{ℤ, pos, negsuc, nat_abs, +ℤ_idl}
use borrow.Author.Tests.{leb-true, eqb-true, eq-eqb}
use Rattle.whole.specs.Whole.{in_range}
use Rattle.whole.specs.Folds.{fold_to}
use Rattle.units.specs.Limits.{least_days, most_days, is_days, hours_of_day, is_amount, is_loss_fee}
use Rattle.units.specs.Refusals.{bad_money}
use Rattle.whole.proofs.Choice.{and_both, clash}
use Rattle.history.specs.Rules.{Sound, is_among}
use Rattle.history.proofs.Days.{hours_even}
use Rattle.history.proofs.Reach.{Small, unless_small}
use Rattle.head.specs.Rules.{Fee, basic, excess, same_fee, amount_refusal, month_rules}

zero_is : (a : ℤ) → eqb (nat_abs a) 0 ≡ true → a ≡ pos 0
zero_is (pos n) e = ap pos (eqb-true n 0 e)
zero_is (negsuc n) e = let h : suc n ≡ 0 = eqb-true (suc n) 0 e in absurd (omega arith)

pub most_days_lem : (days : ℕ) → is_days days ≡ true → days ≤ most_days
most_days_lem days e = leb-true days most_days (and_both (leb least_days days) (leb days most_days) e).1

same_fee_lem : (f g : Fee) → same_fee f g ≡ true → f ≡ g
same_fee_lem basic basic e = refl
same_fee_lem basic excess e = clash e
same_fee_lem excess basic e = clash e
same_fee_lem excess excess e = refl

every_fee : (f : Fee) → is_among same_fee (basic ∷ excess ∷ []) f ≡ true
every_fee basic = refl
every_fee excess = refl

pub month_sound : (days : ℕ) → is_days days ≡ true → Sound (month_rules days)
unfolding in_range fold_to
month_sound days e =
    record {
      opens = e;
      room = omega (arith, hours_even hours_of_day days, most_days_lem days e);
      empty = refl;
      is_blank_lem = refl;
      blank_is = λ a n z i. (n i, zero_is a.1 z i);
      enters = λ a ok. (refl, eq-eqb (amount_refusal a.1) 0 ok);
      stays = λ a m f. (eqb-true (amount_refusal a.1) 0 f, λ i. (sym m i, a.1));
      no_fee_lem = λ _. refl;
      same_is = same_fee_lem;
      every_fee = every_fee;
      no_worth = refl;
      no_part = λ _. refl;
      in_parts = λ a _ _. +ℤ_idl a.1;
      asked = λ _ _. refl;
    }

pub month_small : (days : ℕ) → Small (month_rules days)
month_small days =
    record {
      check = λ a. unless_small (is_amount a.1) bad_money 0 (omega arith) (omega arith);
      check_fee = λ _ f. unless_small (is_loss_fee f) bad_money 0 (omega arith) (omega arith);
      check_part = λ _. omega arith;
    }
