-- The month ledger's rules (document 01, "The ledger"), as an instance of the rules of any ledger.
use Rattle.std.specs.Prelude.{ℕ, Bool, true, false, [], ◌∷◌, eqb, ℤ, pos, nat_abs}
use Rattle.whole.specs.Choice.{unless}
use Rattle.units.specs.Limits.{is_days, hours_of_day, month_places, is_amount, is_loss_fee}
use Rattle.units.specs.Refusals.{bad_money}
use Rattle.history.specs.Rules.{Rules}

-- "ledger amount outside -10^9 to 10^9"
abbrev pub amount_refusal : ℤ → ℕ
amount_refusal amount = unless (is_amount amount) bad_money 0

-- "loss fee outside 0 to 10^11"; document 02, #101: "each fee 0 to 10^11"
abbrev pub loss_fee_refusal : ℤ → ℕ
loss_fee_refusal fee = unless (is_loss_fee fee) bad_money 0

-- which of the two loss fees (document 02, #101): the basic one, or the one for the excess
pub data Fee : Type 0 where
  basic excess : Fee

abbrev pub same_fee : Fee → Fee → Bool
same_fee basic basic = true
same_fee basic excess = false
same_fee excess basic = false
same_fee excess excess = true

-- two amounts, one for each fee
abbrev pub fees_of : ℤ → ℤ → Fee → ℤ
fees_of b e basic = b
fees_of b e excess = e

-- what stands at an hour: the mark that it is filled, and an amount
abbrev pub Item : Type 0
Item = Bool × ℤ

-- an amount that is handed in
abbrev pub amount_item : ℤ → Item
amount_item amount = (true, amount)

-- "A month of 28 to 31 days"; "has 744 hour places, all empty at the start"; "hours are 0 to 23"
abbrev pub month_rules : ℕ → Rules Fee Bool ℤ
month_rules days =
    record {
      opens = is_days days;
      days = days;
      hours_of = λ _. hours_of_day;
      places = month_places;
      blank = (false, pos 0);
      is_blank = λ item. eqb (nat_abs item.1) 0;
      filled = λ mark. mark;
      check = λ item. amount_refusal item.1;
      enter = λ item. (true, item.1);
      fits = λ item. eqb (amount_refusal item.1) 0;
      worth = λ item. item.1;
      fees = basic ∷ excess ∷ [];
      same_fee = same_fee;
      check_fee = λ _. loss_fee_refusal;
      parts = 1;
      check_part = λ _. 0;
      part = λ _ item. item.1;
    }
