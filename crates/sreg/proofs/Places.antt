-- A state as three numbers, by the first of them. Assumes nothing.
use mathlib.Core.Path.{◌≡◌}
use Rattle.sreg.specs.Inner.{state_of}
use Rattle.sreg.specs.declared.EventState.TheVariants.{Holding}
use Rattle.sreg.specs.declared.Place.{Place}

pub place_2 : (place : Place) → place.kind ≡ 2 → state_of place ≡ Holding (record { 0 = place.power })
place_2 place e = rw e
