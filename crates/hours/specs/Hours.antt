-- The questions about a whole hour: its terms, its bands as pairs, its earlier scores, for sReg a state, and its readings as pairs (docs/DESK.md, "Questions").
use Rattle.std.specs.Prelude.{ℕ, ◌+◌, ◌*◌, ◌/◌, ◌%◌, Bool, ◌&&◌, List, [], ◌∷◌, ◌++◌, map, eqb, ℤ, pos, length, drop}
use Rattle.whole.specs.Choice.{pick, kept}
use Rattle.whole.specs.Whole.{in_range}
use Rattle.units.specs.Limits.{nominal, seconds_of_hour}
use Rattle.units.specs.Refusals.{wrong_length}
use Rattle.units.specs.Units.{kilowatts, millihertz}
use Rattle.units.specs.declared.Millihertz.{Millihertz}
use Rattle.hour.specs.Hour.{Service, dreg, edreg, WholeHour, scores_of, scores_left, hour_answer}
use Rattle.hour.specs.declared.Terms.{Terms}
use Rattle.hour.specs.declared.Shift.{Shift}
use Rattle.hour.specs.declared.Settlement.{Settlement}
use Rattle.sreg.specs.declared.EventState.{EventState}
use Rattle.sreg.specs.declared.EventState.TheVariants.{Outside, Responding, Holding, Recovering}
use Rattle.sreg_hour.specs.Hour.{SRegHour, sreg_hour, sreg_scores, sreg_left, refused_sreg, sreg_answer}
use Rattle.sreg_hour.specs.declared.Settled.{Settled}
use Rattle.numbers.specs.Numbers.{number, byte_of, scores_in, column}
use Rattle.words.specs.Replies.{Reply, reply}
use Rattle.words.specs.declared.Hour as words
use Rattle.words.specs.declared.Hour.TheVariants.{Dreg, Edreg, Sreg}

-- an hour's numbers as a question has them: its terms, its bands, its earlier scores and whether they are counted, and the rest: for sReg a state's three numbers, and its readings
pub record HourNumbers : Type 0 where
  pub terms : List ℤ
  pub bands : List ℤ
  pub counted : Bool
  pub earlier : List ℤ
  -- (before an sReg hour's, the three numbers of its state)
  pub readings : List ℤ

abbrev pub hour_numbers : List ℤ → List ℤ → Bool → List ℤ → List ℤ → HourNumbers
hour_numbers terms bands counted earlier readings =
    record { terms = terms; bands = bands; counted = counted; earlier = earlier; readings = readings }

-- ---- the state that is handed in (document 02, #103): KIND POWER COUNT

-- how many numbers it has: an sReg hour's alone has one
abbrev pub state_numbers : words.Hour → ℕ
state_numbers Dreg = 0
state_numbers Edreg = 0
state_numbers Sreg = 3

-- a state that no hour ends in
abbrev pub no_state : EventState
no_state = Recovering 0

-- z is n
abbrev pub equals : ℤ → ℤ → Bool
equals z n = in_range n n z

-- "KIND 0 outside, 1 responding (POWER, COUNT scored), 2 holding (POWER), 3 recovering (COUNT left); another KIND, a number that a kind does not use and is not 0, and
-- a POWER or COUNT that fits no state are 4": a state that no hour ends in; a count that no byte holds is taken as 255, which no state has
unfoldable pub state_asked : ℤ → ℤ → ℤ → EventState
state_asked kind power count =
    pick (equals kind (pos 0) && equals power (pos 0) && equals count (pos 0)) Outside
    (pick (equals kind (pos 1)) (Responding (kilowatts power) (byte_of count))
    (pick (equals kind (pos 2) && equals count (pos 0)) (Holding (kilowatts power))
    (pick (equals kind (pos 3) && equals power (pos 0)) (Recovering (byte_of count)) no_state)))

abbrev pub state_handed : words.Hour → List ℤ → EventState
state_handed Dreg readings = Outside
state_handed Edreg readings = Outside
state_handed Sreg readings = state_asked (number readings 0) (number readings 1) (number readings 2)

-- and as it is printed
abbrev pub state_fields : EventState → List ℤ
state_fields Outside = pos 0 ∷ pos 0 ∷ pos 0 ∷ []
state_fields (Responding start scored) = pos 1 ∷ start.0 ∷ pos scored ∷ []
state_fields (Holding start) = pos 2 ∷ start.0 ∷ pos 0 ∷ []
state_fields (Recovering left) = pos 3 ∷ pos 0 ∷ pos left ∷ []

-- ---- an hour by its parts

-- as many numbers as there are to be: pairs, earlier scores that are counted ("an E outside 0 to 100 is refused with 1"), and two readings for each second
abbrev pub counts_fit : ℕ → Bool → ℕ → Bool
counts_fit bands counted readings = eqb (bands % 2) 0 && counted && eqb readings (2 * seconds_of_hour)

-- what an hour is settled by: whether it has as many numbers as there are to be, whose hour is asked for, the hour, and the state that it is handed, which only sReg's reads
pub record Basis : Type 0 where
  pub fits : Bool
  pub asked : words.Hour
  pub hour : WholeHour
  pub state : EventState

-- CAPACITY; for dReg and E-dReg REFERENCE (document 02, #107), directly after it, which sReg has not; CLEARING PERFORMANCE
abbrev pub prices_at : words.Hour → ℕ
prices_at Dreg = 2
prices_at Edreg = 2
prices_at Sreg = 1

unfoldable pub terms_of : words.Hour → List ℤ → Terms
terms_of hour n = record { capacity = kilowatts (number n 0); clearing = number n (prices_at hour); performance = number n (prices_at hour + 1) }

unfoldable pub reference_of : words.Hour → List ℤ → Millihertz
reference_of Dreg n = millihertz (number n 1)
reference_of Edreg n = millihertz (number n 1)
reference_of Sreg n = millihertz (pos nominal)

-- then, for E-dReg, DISCHARGE CHARGE, the target before the hour, the 4 quarter targets
unfoldable pub shift_of : List ℤ → Shift
shift_of n =
    record {
      discharge = number n 4;
      charge = number n 5;
      targets = number n 6 ∷ number n 7 ∷ number n 8 ∷ number n 9 ∷ number n 10 ∷ [];
    }

abbrev pub service_of : words.Hour → Shift → Service
service_of Dreg shift = dreg
service_of Edreg shift = edreg shift
service_of Sreg shift = dreg

abbrev pub hour_from : List ℤ → List ℤ → Terms → Millihertz → Service → List ℤ → List ℤ → List ℕ → WholeHour
hour_from powers frequencies terms reference service thresholds factors earlier =
    record { powers = powers; frequencies = frequencies; terms = terms; reference = reference; service = service; thresholds = thresholds; factors = factors; earlier = earlier }

-- by pairs THRESHOLD FACTOR, earlier scores and 3,600 pairs POWER FREQUENCY
unfoldable pub hour_by : words.Hour → Terms → Millihertz → Shift → EventState → List ℤ → Bool → List ℤ → List ℤ → Basis
hour_by asked terms reference shift state bands counted earlier readings =
    record {
      fits = counts_fit (length bands) counted (length readings);
      asked = asked;
      hour =
          hour_from (column readings 0 seconds_of_hour) (column readings 1 seconds_of_hour) terms reference (service_of asked shift)
          (column bands 0 (length bands / 2)) (column bands 1 (length bands / 2)) (scores_in earlier);
      state = state;
    }

-- the hour that a question asks about
abbrev pub hour_asked : words.Hour → HourNumbers → Basis
hour_asked hour n =
    hour_by hour (terms_of hour n.terms) (reference_of hour n.terms) (shift_of n.terms) (state_handed hour n.readings) n.bands n.counted n.earlier
    (drop (state_numbers hour) n.readings)

-- ---- what it comes to

abbrev pub stated : EventState → WholeHour → SRegHour
stated state h = sreg_hour h.powers h.frequencies h.terms h.thresholds h.factors h.earlier state

-- a dReg or E-dReg hour ends in no state of its own
abbrev pub stateless : Settlement → Settled
stateless settled = record { hour = settled; state = Outside }

-- the answer of the call that settles it, what that leaves in a run, and its scores
abbrev pub ended_by : words.Hour → EventState → WholeHour → ℕ → Settled
ended_by Dreg state h places = stateless (hour_answer h places)
ended_by Edreg state h places = stateless (hour_answer h places)
ended_by Sreg state h places = sreg_answer (stated state h) places

abbrev pub left_by : words.Hour → EventState → WholeHour → List ℕ → List ℕ
left_by Dreg state h run = scores_left h run
left_by Edreg state h run = scores_left h run
left_by Sreg state h run = sreg_left (stated state h) run

abbrev pub scores_by : words.Hour → EventState → WholeHour → List ℕ
scores_by Dreg state h = scores_of h
scores_by Edreg state h = scores_of h
scores_by Sreg state h = sreg_scores (stated state h)

-- what it comes to, 1 first
unfoldable pub settled_by : Basis → Settled
settled_by h = pick h.fits (ended_by h.asked h.state h.hour seconds_of_hour) (refused_sreg wrong_length)

abbrev pub settlement : Basis → Settlement
settlement h = (settled_by h).hour

abbrev pub scores_asked : Basis → List ℕ
scores_asked h = scores_by h.asked h.state h.hour

-- and what it leaves in a run of scores: its scores, or the run as it was
unfoldable pub scores_after : Basis → List ℕ → List ℕ
scores_after h run = kept (settlement h).refusal (scores_asked h) run

-- rate, factor, capacity fee, performance fee, quality part, energy service fee, amount
abbrev pub fields_of : Settlement → List ℤ
fields_of a = pos a.rate ∷ a.factor ∷ a.capacity.0 ∷ a.performance.0 ∷ a.quality.0 ∷ a.energy.0 ∷ a.amount.0 ∷ []

-- and for sReg the state
abbrev pub state_shown : words.Hour → EventState → List ℤ
state_shown Dreg state = []
state_shown Edreg state = []
state_shown Sreg state = state_fields state

abbrev pub hour_shown : words.Hour → Settled → Reply
hour_shown hour a = reply a.hour.refusal (fields_of a.hour ++ state_shown hour a.state)

unfoldable pub hour_reply : words.Hour → HourNumbers → Reply
hour_reply hour n = hour_shown hour (settled_by (hour_asked hour n))

-- 0 and the 3,600 scores; or the refusal alone
unfoldable pub scores_reply : words.Hour → HourNumbers → Reply
scores_reply hour n =
    let h = hour_asked hour n in
    let k = (settlement h).refusal in
    reply k (kept k (map pos (scores_asked h)) [])
