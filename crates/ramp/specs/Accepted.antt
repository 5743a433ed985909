-- What proofs/Accepted.antt is stated in: what an accepted call leaves, as the paper says it ("The ramp call fills a lent run of exactly 900"), and what
-- plan fits, each test of its refusal as a fact.
use Rattle.std.specs.Prelude.{ℕ, ◌+◌, ◌<◌, ◌≡◌, true, List, ℤ, pos, length, get_or}
use Rattle.units.specs.Limits.{are_transfers, seconds_of_quarter, seconds_of_hour}
use Rattle.ramp.specs.Ramp.{ramp_at, transfer_at}

-- place i has second i + 1 of formula 1
pub record Ramped (last target : ℤ) (run : List ℤ) : Type 0 where
  pub seconds : length run ≡ seconds_of_quarter
  pub second : (i : ℕ) → i < seconds_of_quarter → get_or run i (pos 0) ≡ ramp_at last target (i + 1)

pub record Planned (targets run : List ℤ) : Type 0 where
  pub seconds : length run ≡ seconds_of_hour
  pub second : (i : ℕ) → i < seconds_of_hour → get_or run i (pos 0) ≡ transfer_at targets i

pub record PlanFits (targets : List ℤ) (places : ℕ) : Type 0 where
  pub five : length targets ≡ 5
  pub long : places ≡ seconds_of_hour
  pub inside : are_transfers targets ≡ true
