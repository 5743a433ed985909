-- What proofs/Accepted.antt is stated in: what fits, each test of the refusal as a fact.
use Rattle.std.specs.Prelude.{◌≡◌, true, ℤ}
use Rattle.units.specs.Limits.{is_energy, is_voltage, is_cost}

pub record LossFits (charged discharged voltage cost : ℤ) : Type 0 where
  pub into : is_energy charged ≡ true
  pub out : is_energy discharged ≡ true
  pub volts : is_voltage voltage ≡ true
  pub money : is_cost cost ≡ true
