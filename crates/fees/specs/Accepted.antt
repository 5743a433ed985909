-- What proofs/Accepted.antt is stated in: what fits, each test of a refusal as a fact.
use Rattle.std.specs.Prelude.{◌≡◌, true, List, ℤ, length}
use Rattle.units.specs.Limits.{is_capacity, is_price, is_fee, is_factor, are_powers, are_transfers, seconds_of_hour}
use Rattle.units.specs.declared.Kilowatts.{Kilowatts}
use Rattle.units.specs.declared.Dollars.{Dollars}

pub record FeeFits (price : ℤ) (capacity : Kilowatts) : Type 0 where
  pub size : is_capacity capacity.0 ≡ true
  pub money : is_price price ≡ true

pub record QualityFits (capacity performance : Dollars) (factor : ℤ) : Type 0 where
  pub first : is_fee capacity.0 ≡ true
  pub second : is_fee performance.0 ≡ true
  pub tenths : is_factor factor ≡ true

pub record EnergyFits (powers targets : List ℤ) (discharge charge : ℤ) : Type 0 where
  pub seconds : length powers ≡ seconds_of_hour
  pub quarters : length targets ≡ 4
  pub discharging : is_price discharge ≡ true
  pub charging : is_price charge ≡ true
  pub transfers : are_transfers targets ≡ true
  pub readings : are_powers powers ≡ true
