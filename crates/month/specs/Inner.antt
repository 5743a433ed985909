-- What the code takes a month apart into and puts it together from, and no rule of the papers: its head, and two columns with its places.
use Rattle.std.specs.Prelude.{Bool, List, Result, Ok, Err, ℤ}
use Rattle.whole.specs.Choice.{pick}
use Rattle.units.specs.Refusals.{not_reachable, refused_as}
use Rattle.units.specs.declared.refusal.Refusal.{Refusal}
use Rattle.history.specs.Board.{well_formed}
use Rattle.head.specs.declared.Head.{Head}
use Rattle.month.specs.declared.Month.{Month}
use Rattle.month.specs.Month.{rules_of, board_of}

abbrev pub month_head : Month → Head
month_head m = record { days = m.days; closed = m.closed; basic = m.basic; excess = m.excess }

-- the month of a head and its places, and a head's answer with them
abbrev pub month_in : Head → List Bool → List ℤ → Month
month_in head marks amounts = record { days = head.days; closed = head.closed; basic = head.basic; excess = head.excess; marks = marks; amounts = amounts }

abbrev pub booked_of : Result Head Refusal → List Bool → List ℤ → Result Month Refusal
booked_of (Ok head) marks amounts = Ok (month_in head marks amounts)
booked_of (Err r) marks amounts = Err r

-- a head's answer with the month's places; 22 first
unfoldable pub head_booked : Month → Result Head Refusal → Result Month Refusal
head_booked m headed = pick (well_formed (rules_of m) (board_of m)) (booked_of headed m.marks m.amounts) (refused_as not_reachable)
