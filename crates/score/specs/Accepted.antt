-- What proofs/Accepted.antt is stated in: what fits, each test of a refusal as a fact, and the paper's score of a second and of a run.
use Rattle.std.specs.Prelude.{ℕ, ◌<◌, ◌≡◌, true, List, ℤ, pos, length, get_or}
use Rattle.units.specs.Limits.{is_capacity, is_reference, is_power, are_powers, is_frequency, are_frequencies, is_transfer, are_transfers}
use Rattle.units.specs.declared.Kilowatts.{Kilowatts}
use Rattle.units.specs.declared.Millihertz.{Millihertz}
use Rattle.curve.specs.Curve.{upper_by, lower_by}
use Rattle.score.specs.Score.{percent_output, score_of}

pub record SecondFits (p t c : Kilowatts) (f r : Millihertz) : Type 0 where
  pub capacity : is_capacity c.0 ≡ true
  pub reference : is_reference r.0 ≡ true
  pub transfer : is_transfer t.0 ≡ true
  pub power : is_power p.0 ≡ true
  pub frequency : is_frequency f.0 ≡ true

pub record RunFits (powers frequencies transfers : List ℤ) (capacity : Kilowatts) (reference : Millihertz) (places : ℕ) : Type 0 where
  pub as_frequencies : length frequencies ≡ length powers
  pub as_transfers : length transfers ≡ length powers
  pub as_places : places ≡ length powers
  pub capacity_fits : is_capacity capacity.0 ≡ true
  pub reference_fits : is_reference reference.0 ≡ true
  pub transfers_fit : are_transfers transfers ≡ true
  pub powers_fit : are_powers powers ≡ true
  pub frequencies_fit : are_frequencies frequencies ≡ true

-- the paper's score of a power, its transfer, the capacity, a frequency and the reference
abbrev pub plain_score : ℤ → ℤ → ℤ → ℤ → ℤ → ℕ
plain_score power transfer capacity frequency reference = score_of (percent_output power transfer capacity) (upper_by reference frequency) (lower_by reference frequency)

-- a run that holds the paper's score of each second
pub record Scores (powers frequencies transfers : List ℤ) (capacity : Kilowatts) (reference : Millihertz) (scores : List ℕ) : Type 0 where
  pub seconds : length scores ≡ length powers
  pub second : (i : ℕ) → i < length powers → get_or scores i 0 ≡ plain_score (get_or powers i (pos 0)) (get_or transfers i (pos 0)) capacity.0 (get_or frequencies i (pos 0)) reference.0
