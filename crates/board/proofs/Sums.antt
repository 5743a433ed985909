-- The sums of a ledger in form: each amount is in its range, so a day's sum and the month's can be taken, and the total fits. Assumes nothing.
use Prim.Native.Nat.{ℕ, ◌+◌, ◌*◌, ◌≤◌, ◌<◌}
use mathlib.Core.Path.{◌≡◌, refl, ap, ◌∙◌}
use mathlib.Core.Bool.{Bool, true, false, ◌&&◌}
use mathlib.Core.List.{List}
use native.Mathlib.Omega.{arith}
use lib.Dec.{ltb, eqb}
use lib.IntN.{ℤ, pos, nat_abs, ◌-ℤ◌}
use lib.ListN.{length, get_or, take, drop, length-take, length-drop, get_or-eq_default}
use lib.Seq.{get_or-take, get_or-drop}
use borrow.Author.Tests.{ltb-true, ltb-false, eqb-true, le-leb}
use Rattle.whole.specs.Choice.{pick}
use Rattle.whole.specs.Folds.{sum_to}
use Rattle.whole.specs.Whole.{minus, Within}
use Rattle.std.specs.Prelude.{unwrap_or}
use Rattle.whole.specs.Inner.{summable, summed}
use Rattle.units.specs.Limits.{most_amount, is_amount, most_loss_fee, is_loss_fee, hours_of_day, month_places}
use Rattle.whole.proofs.Choice.{and_both, both, passed}
use Rattle.whole.proofs.Signed.{difference, size_within}
use Rattle.whole.proofs.Sums.{in_within, in_within_below, within_in, inside_all, sum_within, sum_part, summed_is}
use Rattle.history.specs.Rules.{places_of}
use Rattle.history.specs.Board.{Board, well_formed, total_on}
use Rattle.history.specs.Inner.{runs_fit, ledger_refusal}
use Rattle.history.proofs.Board.{Good, well_opens, ledger_good}
use Rattle.head.proofs.Sound.{month_sound}
use Rattle.head.specs.Rules.{Fee, basic, excess, amount_refusal, month_rules}

-- an amount that is not refused, and one that is 0
amount_of : (a : ℤ) → amount_refusal a ≡ 0 → Within most_amount a
amount_of a e = in_within (passed (is_amount a) 2 0 e).0

fits_amount : (m t : Bool) (a : ℤ) → pick m (t && eqb (amount_refusal a) 0) (eqb (nat_abs a) 0) ≡ true → Within most_amount a
fits_amount true t a e = amount_of a (eqb-true (amount_refusal a) 0 (and_both t _ e).1)
fits_amount false t a e = let z : nat_abs a ≡ 0 = eqb-true (nat_abs a) 0 e in size_within a (omega arith)

module _ (days : ℕ) (b : Board Fee Bool ℤ) (g : Good (month_rules days) b) where
  pub amount_within : (p : ℕ) → Within most_amount (get_or b.amounts p (pos 0))
  amount_within p = go (ltb p month_places) refl
    where
      go : (t : Bool) → ltb p month_places ≡ t → Within most_amount (get_or b.amounts p (pos 0))
      go true e = fits_amount (get_or b.marks p false) (ltb p (places_of (month_rules days))) (get_or b.amounts p (pos 0)) (g.each p (ltb-true p month_places e))
      go false e = let l : length b.amounts ≤ p = omega (arith, g.amounts_long, ltb-false p month_places e) in rw (get_or-eq_default b.amounts (pos 0) l) (omega arith)

  -- any part of the amounts can be summed
  can_sum : (xs : List ℤ) → length xs ≤ month_places → ((i : ℕ) → i < length xs → Within most_amount (get_or xs i (pos 0))) → summable xs ≡ true
  can_sum xs l h =
      both (le-leb (length xs) 1000000 (omega arith))
      (inside_all (minus 1000000000000) (pos 1000000000000) xs (λ i k. within_in {k = 1000000000000} {z = get_or xs i (pos 0)} (let w = h i k in omega arith)))

  pub day_summed : (p : ℕ) → p + hours_of_day ≤ month_places → unwrap_or (summed (take hours_of_day (drop p b.amounts))) (pos 0) ≡ sum_to hours_of_day (λ x. get_or b.amounts (p + x) (pos 0))
  day_summed p l =
      let xs = b.amounts in
      let n : length (take hours_of_day (drop p xs)) ≡ hours_of_day = simp (length-take, length-drop) (omega (arith, g.amounts_long)) in
      ap (λ s. unwrap_or s (pos 0)) (summed_is (take hours_of_day (drop p xs)) (can_sum (take hours_of_day (drop p xs)) (omega arith) (λ i k. rw (get_or-take hours_of_day (drop p xs) i (pos 0) (omega arith), get_or-drop p xs i (pos 0)) (amount_within (p + i)))))
      ∙ sum_part xs p hours_of_day (omega (arith, g.amounts_long))

  pub all_summed : unwrap_or (summed b.amounts) (pos 0) ≡ sum_to month_places (λ p. get_or b.amounts p (pos 0))
  all_summed =
      ap (λ s. unwrap_or s (pos 0)) (summed_is b.amounts (can_sum b.amounts (omega (arith, g.amounts_long)) (λ i k. amount_within i)))
      ∙ ap (λ n. sum_to n (λ p. get_or b.amounts p (pos 0))) g.amounts_long

  pub day_within : (p : ℕ) → Within (most_amount * hours_of_day) (sum_to hours_of_day (λ x. get_or b.amounts (p + x) (pos 0)))
  day_within p = let w = sum_within hours_of_day (λ x. get_or b.amounts (p + x) (pos 0)) (λ i l. amount_within (p + i)) in omega arith

  pub all_within : Within (most_amount * month_places) (sum_to month_places (λ p. get_or b.amounts p (pos 0)))
  all_within = let w = sum_within month_places (λ p. get_or b.amounts p (pos 0)) (λ i l. amount_within i) in omega arith

  pub fee_within : (f : Fee) → Within most_loss_fee (b.fee f)
  fee_within f = in_within_below (passed (is_loss_fee (b.fee f)) 2 0 (g.fee_fits f)).0

  -- less one fee, and less both
  pub less_basic : Within (most_amount * month_places + most_loss_fee) (sum_to month_places (λ p. get_or b.amounts p (pos 0)) -ℤ b.fee basic)
  less_basic = let w = all_within in let f = fee_within basic in omega (arith, difference (sum_to month_places (λ p. get_or b.amounts p (pos 0))) (b.fee basic))

  pub less_both : Within (most_amount * month_places + 2 * most_loss_fee) (sum_to month_places (λ p. get_or b.amounts p (pos 0)) -ℤ b.fee basic -ℤ b.fee excess)
  less_both =
      let w = less_basic in
      let f = fee_within excess in
      omega (arith, difference (sum_to month_places (λ p. get_or b.amounts p (pos 0)) -ℤ b.fee basic) (b.fee excess))

  -- the month total is what the code works out
  pub total_sum : unwrap_or (summed b.amounts) (pos 0) -ℤ b.fee basic -ℤ b.fee excess ≡ total_on (month_rules days) b
  unfolding total_on
  total_sum = ap (λ (z : ℤ). z -ℤ b.fee basic -ℤ b.fee excess) all_summed

-- a ledger in place that is not refused is one in form
pub ledger_form : (days : ℕ) (b : Board Fee Bool ℤ) → ledger_refusal (month_rules days) b ≡ 0 → Good (month_rules days) b
unfolding ledger_refusal
ledger_form days b e =
    let w = (passed (well_formed (month_rules days) b) 21 0 (passed (runs_fit (month_rules days) b) 0 _ e).1).0 in
    ledger_good (month_rules days) (month_sound days (well_opens (month_rules days) b w)) b e
