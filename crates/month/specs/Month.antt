-- The month ledger (document 01, "The ledger"): what each call and read-out on a month by value answers, as an instance of the theory of any ledger.
use Rattle.std.specs.Prelude.{ℕ, Bool, false, Result, ℤ, pos, replicate}
use Rattle.whole.specs.Choice.{unless}
use Rattle.units.specs.Limits.{is_days, month_places}
use Rattle.units.specs.Refusals.{not_in_month, result_by}
use Rattle.units.specs.declared.Dollars.{Dollars}
use Rattle.units.specs.declared.refusal.Refusal.{Refusal}
use Rattle.units.specs.Units.{dollars}
use Rattle.history.specs.Rules.{Call, Rules}
use Rattle.history.specs.Board.{Board, refusal_of, next_on, or_reachable, hour_on, day_on, total_on, standing_on}
use Rattle.head.specs.Rules.{Fee, basic, excess, fees_of, Item, month_rules}
use Rattle.board.specs.Board.{told_of}
use Rattle.month.specs.declared.Month.{Month}

-- ---- the ledger as a board

abbrev pub rules_of : Month → Rules Fee Bool ℤ
rules_of m = month_rules m.days

abbrev pub board_of : Month → Board Fee Bool ℤ
board_of m = record { closed = m.closed; fee = fees_of m.basic.0 m.excess.0; marks = m.marks; amounts = m.amounts }

abbrev pub month_of : ℕ → Board Fee Bool ℤ → Month
month_of days b = record { days = days; closed = b.closed; basic = dollars (b.fee basic); excess = dollars (b.fee excess); marks = b.marks; amounts = b.amounts }

-- ---- the calls

-- every place empty, no fee, open
unfoldable pub fresh_month : ℕ → Month
fresh_month days = record { days = days; closed = false; basic = dollars (pos 0); excess = dollars (pos 0); marks = replicate month_places false; amounts = replicate month_places (pos 0) }

-- a month that opens: 6
unfoldable pub open_of : ℕ → Result Month Refusal
open_of days = result_by (unless (is_days days) not_in_month 0) (fresh_month days)

-- any other call: 22, 9, 6, 3, then 7 or 8
unfoldable pub month_answer : Month → Call Fee Item → Result Month Refusal
month_answer m c = result_by (refusal_of (rules_of m) (board_of m) c) (month_of m.days (next_on (rules_of m) (board_of m) c))

-- ---- the read-outs: 22, then what the board tells

abbrev pub read_out : Month → ℕ × ℤ → Result Dollars Refusal
read_out m t = told_of (or_reachable (rules_of m) (pos 0) (board_of m) t)

-- one hour: 22, 6, 8
unfoldable pub hour_told : Month → ℕ → ℕ → Result Dollars Refusal
hour_told m day hour = read_out m (hour_on (rules_of m) (board_of m) day hour)

-- a day's sum: 22, 6
unfoldable pub day_told : Month → ℕ → Result Dollars Refusal
day_told m day = read_out m (day_on (rules_of m) (board_of m) day)

-- a loss fee as it was last set, 0 if it never was: 22
unfoldable pub fee_told : Month → Fee → Result Dollars Refusal
fee_told m f = read_out m (0, (board_of m).fee f)

-- the month total: 22
unfoldable pub total_told : Month → Result Dollars Refusal
total_told m = read_out m (0, total_on (rules_of m) (board_of m))

-- the number of standing hours: 22
unfoldable pub standing_told : Month → Result ℕ Refusal
standing_told m =
    let r = or_reachable (rules_of m) 0 (board_of m) (0, standing_on (rules_of m) (board_of m)) in
    result_by r.0 r.1
