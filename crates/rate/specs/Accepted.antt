-- What proofs/Accepted.antt is stated in: what fits, each test of the refusal as a fact.
use Rattle.std.specs.Prelude.{ℕ, ◌≡◌, true, List, length}
use Rattle.units.specs.Limits.{seconds_of_hour}
use Rattle.rate.specs.Rolling.{earlier_fit, are_scores}

pub record ScoresFit (earlier scores : List ℕ) : Type 0 where
  pub long : length scores ≡ seconds_of_hour
  pub of_earlier : earlier_fit (length earlier) ≡ true
  pub before : are_scores earlier ≡ true
  pub small : are_scores scores ≡ true
