-- What the theorems (proofs/Accepted.antt, proofs/Threshold.antt) are stated in: what fits, each test of the refusal as a fact; and what it is for a second to be the first whose whole window
-- stays below, said of each score of a window.
use Rattle.std.specs.Prelude.{ℕ, ◌≤◌, ◌<◌, List, length, get_or}
use Rattle.units.specs.Limits.{most_score, seconds_of_hour}
use Rattle.rate.specs.Accepted.{ScoresFit}
use Rattle.reached.specs.Reached.{window_at}

pub record ThresholdFits (earlier scores : List ℕ) (threshold : ℕ) : Type 0 where
  pub scored : ScoresFit earlier scores
  pub small : threshold ≤ most_score

-- a whole window stays below the threshold: each score of it does
abbrev pub Below : ℕ → List ℕ → Type 0
Below threshold window = (k : ℕ) → k < length window → get_or window k 0 < threshold

-- a window meets the threshold: a score of it is at or above
pub record Meets (threshold : ℕ) (window : List ℕ) : Type 0 where
  pub back : ℕ
  pub inside : back < length window
  pub met : threshold ≤ get_or window back 0

-- the second at place i is the first whose whole window stays below
pub record FirstBelow (earlier scores : List ℕ) (threshold i : ℕ) : Type 0 where
  pub within : i < seconds_of_hour
  pub below : Below threshold (window_at earlier scores i)
  pub before : (j : ℕ) → j < i → Meets threshold (window_at earlier scores j)
