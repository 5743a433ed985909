-- What proofs/Accepted.antt is stated in: what fits, each test of the rule as a fact, and the record that is found.
use Rattle.std.specs.Prelude.{ℕ, ◌≤◌, ◌<◌, ◌≡◌, true, false, List, ℤ, pos, length, get_or}
use Rattle.std.specs.Int.Signed.{le_z}
use Rattle.whole.specs.Whole.{in_range, all_in_range}
use Rattle.units.specs.Limits.{most_score, least_factor, most_factor, most_bands}
use Rattle.bands.specs.Bands.{fall, last_threshold}

pub record BandsFit (thresholds factors : List ℤ) : Type 0 where
  pub some : 1 ≤ length thresholds
  pub few : length thresholds ≤ most_bands
  pub even : length factors ≡ length thresholds
  pub percent : all_in_range (pos 0) (pos most_score) thresholds ≡ true
  pub tenths : all_in_range least_factor most_factor factors ≡ true
  pub falling : fall thresholds ≡ true
  pub ending : in_range (pos 0) (pos 0) (last_threshold thresholds) ≡ true

-- "The first record whose threshold is at most the rate": it is there, its threshold is at most the rate, and each before it is above
pub record First (thresholds factors : List ℤ) (rate : ℕ) (place : ℕ) : Type 0 where
  pub there : place < length thresholds
  pub paired : place < length factors
  pub reached : le_z (get_or thresholds place (pos 0)) (pos rate) ≡ true
  pub first : (i : ℕ) → i < place → le_z (get_or thresholds i (pos 0)) (pos rate) ≡ false
