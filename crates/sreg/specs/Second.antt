-- Document 02, #103 (document 001, section 1.3.2): one second of static regulation, by the state that the seconds before it ended in. "Power here is
-- consumption counted positive."
use Rattle.std.specs.Prelude.{ℕ, ◌+◌, ◌-◌, min, Bool, true, ◌&&◌, eqb, leb, ℤ, pos, nat_abs, ◌-ℤ◌, ◌*ℤ◌}
use Rattle.std.specs.Int.Signed.{le_z}
use Rattle.whole.specs.Choice.{pick}
use Rattle.whole.specs.Whole.{up, nearest}
use Rattle.units.specs.Limits.{is_power, most_score}
use Rattle.units.specs.Units.{kilowatts}
use Rattle.units.specs.declared.Kilowatts.{Kilowatts}
use Rattle.sreg.specs.declared.EventState.{EventState}
use Rattle.sreg.specs.declared.EventState.TheVariants.{Outside, Responding, Holding, Recovering}

-- "Percents are nearest whole, held to 0 to 100": of a power over capacity
unfoldable pub percent_of : ℤ → ℤ → ℕ
percent_of power capacity = min (up (nearest (power *ℤ pos 100) (nat_abs capacity))) most_score

-- "An event starts in the second the frequency is at or below 59.88 Hz"
unfoldable pub starts : ℤ → Bool
starts frequency = le_z frequency (pos 59880)

-- ".. until the second at or above 59.98 Hz"
unfoldable pub ends : ℤ → Bool
ends frequency = le_z (pos 59980) frequency

-- THE SCORE. Outside events "the score is this second's power as a percent" of capacity. The start second "and the nine after it score 100. From then until the
-- second at or above 59.98 Hz, that one included, the score is the start second's power less this second's, as a percent of capacity. The ten seconds after it score 100."
abbrev pub score_in : EventState → ℤ → ℤ → ℤ → ℕ
score_in Outside power frequency capacity = pick (starts frequency) most_score (percent_of power capacity)
score_in (Responding start scored) power frequency capacity = most_score
score_in (Holding start) power frequency capacity = percent_of (start.0 -ℤ power) capacity
score_in (Recovering left) power frequency capacity = most_score

-- an event starts in a second of this power, or what was goes on
unfoldable pub unless_starts : ℤ → ℤ → EventState → EventState
unless_starts power frequency state = pick (starts frequency) (Responding (kilowatts power) 1) state

-- an event ends in this second and ten seconds are left, or it goes on
unfoldable pub unless_ends : ℤ → EventState → EventState
unless_ends frequency state = pick (ends frequency) (Recovering 10) state

-- one more of an event's first ten seconds is scored; one less of the ten after it is left
abbrev pub one_scored : Kilowatts → ℕ → EventState
one_scored start scored = pick (eqb scored 9) (Holding start) (Responding start (scored + 1))

abbrev pub one_less : ℕ → EventState
one_less left = pick (eqb left 1) Outside (Recovering (left - 1))

-- THE STATE AFTER THE SECOND. "Reaching 59.98 within the first ten seconds ends the event there; a fall during the ten after it starts a new one."
abbrev pub next_state : EventState → ℤ → ℤ → EventState
next_state Outside power frequency = unless_starts power frequency Outside
next_state (Responding start scored) power frequency = unless_ends frequency (one_scored start scored)
next_state (Holding start) power frequency = unless_ends frequency (Holding start)
next_state (Recovering left) power frequency = unless_starts power frequency (one_less left)

-- a state that an hour can end in (proofs of crate events: just these): a start power is a power; of an event's first ten seconds 1 to 9 are scored; of the ten after it 1 to 10 are left
abbrev pub is_state : EventState → Bool
is_state Outside = true
is_state (Responding start scored) = is_power start.0 && (leb 1 scored && leb scored 9)
is_state (Holding start) = is_power start.0
is_state (Recovering left) = leb 1 left && leb left 10
