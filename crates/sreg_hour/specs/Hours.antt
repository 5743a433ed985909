-- What the theorems of sReg hours one after the other, and of their states, are stated in (proofs/Hours.antt, proofs/States.antt).
use Rattle.std.specs.Prelude.{ℕ, ◌+◌, ◌<◌, ◌≡◌, List, ◌++◌, get_or}
use Rattle.units.specs.Limits.{seconds_of_hour}
use Rattle.rate.specs.Earlier.{last_three}
use Rattle.hour.specs.Earlier.{OneRun}
use Rattle.sreg.specs.Run.{scores_from, state_after}
use Rattle.sreg.specs.declared.EventState.{EventState}
use Rattle.sreg.specs.declared.EventState.TheVariants.{Outside}
use Rattle.events.specs.Events.{ScoreTold}
use Rattle.events.specs.States.{Stands, LeadsTo}
use Rattle.sreg_hour.specs.Hour.{SRegHour, sreg_answer}
use Rattle.sreg_hour.specs.declared.Settled.{Settled}

-- the hour h comes after the hour g, of the same award: it is handed the state and the last three scores of g
pub record HandedOn (g h : SRegHour) (first : List ℕ) (x : Settled) : Type 0 where
  pub award : h.terms.capacity.0 ≡ g.terms.capacity.0
  pub state : h.state ≡ x.state
  pub scores : h.earlier ≡ last_three first

-- two hours that score, end and are rated as one run of 7,200 seconds
pub record OneRunOfEvents (g h : SRegHour) (first second : List ℕ) (x y : Settled) : Type 0 where
  pub scores : first ++ second ≡ scores_from g.state g.terms.capacity.0 (g.powers ++ h.powers) (g.frequencies ++ h.frequencies)
  pub state : y.state ≡ state_after g.state (g.powers ++ h.powers) (g.frequencies ++ h.frequencies)
  pub rates : OneRun g.earlier first second x.hour y.hour

-- AN HOUR BY ITS SECONDS, no state in them: after any fit seconds that begin outside and end in the state that it is handed, and there are such, each of its seconds is told by one of the request's
-- sentences over the list of all these seconds, whatever one of them tells of a second is its score, and the state that it ends in is told by them too
pub record SecondsTold (h : SRegHour) (scores : List ℕ) (x : Settled) : Type 0 where
  pub before : LeadsTo seconds_of_hour h.state
  pub every : {n : ℕ} (r : LeadsTo n h.state) (i : ℕ) → i < seconds_of_hour
      → ScoreTold (r.powers ++ h.powers) (r.frequencies ++ h.frequencies) h.terms.capacity.0 (n + i) (get_or scores i 0)
  pub only : {n : ℕ} (r : LeadsTo n h.state) (i score : ℕ) → i < seconds_of_hour
      → ScoreTold (r.powers ++ h.powers) (r.frequencies ++ h.frequencies) h.terms.capacity.0 (n + i) score → get_or scores i 0 ≡ score
  pub ends : {n : ℕ} (r : LeadsTo n h.state) → Stands (r.powers ++ h.powers) (r.frequencies ++ h.frequencies) (n + seconds_of_hour) x.state

-- some hour that begins outside, and is accepted, ends in the state
pub record HourEnds (state : EventState) : Type 0 where
  pub hour : SRegHour
  pub begins : hour.state ≡ Outside
  pub accepted : (sreg_answer hour seconds_of_hour).hour.refusal ≡ 0
  pub ends : (sreg_answer hour seconds_of_hour).state ≡ state
