-- What the code keeps of a month beside its places, and no rule of the papers: a head has the days, the two loss fees and whether the month is closed. What the calls that touch no
-- place answer on it, and an hour's place.
use Rattle.std.specs.Prelude.{ℕ, ◌+◌, ◌-◌, Bool, false, ◌&&◌, List, [], leb, ltb, Result, Ok, Err, ℤ, pos}
use Rattle.whole.specs.Choice.{pick, unless}
use Rattle.units.specs.Limits.{is_days, hours_of_day, month_places}
use Rattle.units.specs.Refusals.{not_reachable, not_in_month, result_by}
use Rattle.units.specs.declared.refusal.Refusal.{Refusal}
use Rattle.units.specs.Units.{dollars}
use Rattle.units.specs.declared.Dollars.{Dollars}
use Rattle.history.specs.Rules.{Call, hours_to}
use Rattle.history.specs.Board.{Board, fees_fit, ruling_on, next_on}
use Rattle.head.specs.Rules.{Fee, basic, excess, fees_of, Item, month_rules}
use Rattle.head.specs.declared.Head.{Head}

-- an hour's place: 24 for each day before its own, and itself; an hour that no day has is past every place
abbrev pub place_of : ℕ → ℕ → ℕ
place_of day hour = pick (leb 1 day && ltb hour hours_of_day) (hours_to (λ _. hours_of_day) (day - 1) + hour) month_places

-- the board of a head and two runs
abbrev pub board_in : Head → List Bool → List ℤ → Board Fee Bool ℤ
board_in head marks amounts = record { closed = head.closed; fee = fees_of head.basic.0 head.excess.0; marks = marks; amounts = amounts }

-- no fee, open
abbrev pub fresh_head : ℕ → Head
fresh_head days = record { days = days; closed = false; basic = dollars (pos 0); excess = dollars (pos 0) }

-- a month that opens: 6
unfoldable pub opened_head : ℕ → Result Head Refusal
opened_head days = result_by (unless (is_days days) not_in_month 0) (fresh_head days)

-- what a head shows of refusal 22: its days and its fees
abbrev pub head_fits : Head → Bool
head_fits head = fees_fit (month_rules head.days) (board_in head [] [])

-- a call that touches no place, on the head alone: 22 for what the head shows, then the ruling
abbrev pub head_refusal : Head → Call Fee Item → ℕ
head_refusal head c = unless (head_fits head) not_reachable (ruling_on (month_rules head.days) (board_in head [] []) c)

-- a board without its places
abbrev pub head_on : ℕ → Board Fee Bool ℤ → Head
head_on days b = record { days = days; closed = b.closed; basic = dollars (b.fee basic); excess = dollars (b.fee excess) }

unfoldable pub headed_of : Head → Call Fee Item → Result Head Refusal
headed_of head c = result_by (head_refusal head c) (head_on head.days (next_on (month_rules head.days) (board_in head [] []) c))

-- what stands after a call: what it answers, or the old where it is refused
abbrev pub standing_after : {A : Type 0} → A → Result A Refusal → A
standing_after old (Ok new) = new
standing_after old (Err r) = old

-- a fee z is set, and the two fees are then b and e: its number, which is the same whichever fee it is, and the head with them
unfoldable pub with_fees : Head → ℤ → Dollars → Dollars → Result Head Refusal
with_fees head z b e =
    result_by (head_refusal head (Call.loss_fee basic z)) (record { days = head.days; closed = head.closed; basic = b; excess = e })
