-- What only mirrors the code: a state as three numbers in a loop; what is tested before the readings are looked at, and what one pass over them finds.
use Rattle.std.specs.Prelude.{ℕ, Bool, ◌&&◌, Option, Some, None, List, [], ◌∷◌, eqb, ℤ, pos, length, get_or}
use Rattle.whole.specs.Choice.{pick, in_order}
use Rattle.whole.specs.Folds.{all_to}
use Rattle.units.specs.Limits.{is_capacity, is_power, is_frequency, seconds_of_hour}
use Rattle.units.specs.Refusals.{wrong_length, bad_capacity, bad_reading}
use Rattle.units.specs.Units.{kilowatts}
use Rattle.units.specs.declared.Kilowatts.{Kilowatts}
use Rattle.sreg.specs.Second.{is_state}
use Rattle.sreg.specs.Run.{state_after}
use Rattle.sreg.specs.declared.EventState.{EventState}
use Rattle.sreg.specs.declared.EventState.TheVariants.{Outside, Responding, Holding, Recovering}
use Rattle.sreg.specs.declared.Place.{Place}

-- 0 outside; 1 responding, with the start power and the seconds scored; 2 holding, with the start power; 3 recovering, with the seconds left
abbrev pub state_of : Place → EventState
state_of place =
    pick (eqb place.kind 0) Outside
    (pick (eqb place.kind 1) (Responding (kilowatts place.power) place.count)
    (pick (eqb place.kind 2) (Holding (kilowatts place.power)) (Recovering place.count)))

-- whether a second's readings lie in their ranges, by its place; and all of them
abbrev pub read_at : List ℤ → List ℤ → ℕ → Bool
read_at powers frequencies i = is_power (get_or powers i (pos 0)) && is_frequency (get_or frequencies i (pos 0))

unfoldable pub all_read : List ℤ → List ℤ → Bool
all_read powers frequencies = all_to (length powers) (read_at powers frequencies)

-- 1, 2, and 4 for the state
unfoldable pub before_readings : ℕ → ℕ → ℕ → Kilowatts → EventState → ℕ
before_readings powers frequencies places capacity state =
    in_order (
    (eqb powers seconds_of_hour && eqb frequencies seconds_of_hour && eqb places seconds_of_hour, wrong_length)
    ∷ (is_capacity capacity.0, bad_capacity)
    ∷ (is_state state, bad_reading)
    ∷ [])

-- where the readings fit, the state after them
unfoldable pub judged_of : EventState → List ℤ → List ℤ → Option EventState
judged_of state powers frequencies =
    pick (all_read powers frequencies) (Some (state_after state powers frequencies)) None
