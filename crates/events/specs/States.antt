-- THE STATES BY THE LIST OF SECONDS (document 02, #103): what the state before a second says of the seconds before it; and seconds that lead to a state.
use Rattle.std.specs.Prelude.{ℕ, ◌+◌, ◌-◌, ◌≤◌, ◌<◌, ◌≡◌, true, false, List, ℤ, length}
use Rattle.units.specs.Limits.{are_powers, are_frequencies}
use Rattle.units.specs.Units.{kilowatts}
use Rattle.sreg.specs.Second.{starts}
use Rattle.sreg.specs.Run.{state_after}
use Rattle.sreg.specs.declared.EventState.{EventState}
use Rattle.sreg.specs.declared.EventState.TheVariants.{Outside, Responding, Holding, Recovering}
use Rattle.events.specs.Events.{at_second, Returned, StartsEvent, GoesOn, EndsIn}

-- where the seconds before second i leave it
pub data Stands (powers frequencies : List ℤ) (i : ℕ) : EventState → Type 0 where
  -- each second that fell was followed, more than ten seconds ago, by one at or above 59.98 Hz
  by_outside : ((j : ℕ) → j < i → starts (at_second frequencies j) ≡ true → Returned frequencies j (i - 10)) → Stands powers frequencies i Outside
  -- "responding, with the start second's power and how many seconds of the first ten have been scored"
  by_start : (a k : ℕ) → StartsEvent frequencies a → a + k ≡ i → 1 ≤ k → k ≤ 9 → GoesOn frequencies a i → Stands powers frequencies i (Responding (kilowatts (at_second powers a)) k)
  -- "holding, with the start power"
  by_event : (a : ℕ) → StartsEvent frequencies a → a + 10 ≤ i → GoesOn frequencies a i → Stands powers frequencies i (Holding (kilowatts (at_second powers a)))
  -- "recovering, with the seconds left", and no second has fallen since the event ended
  by_end : (a b left : ℕ) → StartsEvent frequencies a → EndsIn frequencies a b → i + left ≡ b + 11 → 1 ≤ left → left ≤ 10
      → ((j : ℕ) → b < j → j < i → starts (at_second frequencies j) ≡ false) → Stands powers frequencies i (Recovering left)

-- n fit seconds that begin outside and end in the state
pub record LeadsTo (n : ℕ) (state : EventState) : Type 0 where
  pub powers : List ℤ
  pub frequencies : List ℤ
  pub long_powers : length powers ≡ n
  pub long_frequencies : length frequencies ≡ n
  pub fit_powers : are_powers powers ≡ true
  pub fit_frequencies : are_frequencies frequencies ≡ true
  pub ends_in_lem : state_after Outside powers frequencies ≡ state
