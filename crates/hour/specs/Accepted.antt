-- AN ACCEPTED HOUR, as document 01's sentences say it, from the readings to the amount, with no refusal in it: what proofs/Accepted.antt shows of
-- every hour that is not refused; and what fits, which it shows to be accepted.
use Rattle.std.specs.Prelude.{ℕ, ◌<◌, ◌≡◌, true, ◌&&◌, List, ℤ, pos, ◌+ℤ◌, length, get_or}
use Rattle.units.specs.Limits.{is_capacity, is_reference, is_price, seconds_of_hour}
use Rattle.curve.specs.Curve.{upper_by, lower_by}
use Rattle.ramp.specs.Ramp.{transfer_at}
use Rattle.score.specs.Score.{percent_output, score_of}
use Rattle.rate.specs.Rolling.{are_scores, rolling, smallest}
use Rattle.bands.specs.Bands.{bands_fit, first_place}
use Rattle.fees.specs.Fees.{fee, quality_part, energy_fee}
use Rattle.hour.specs.Hour.{Service, dreg, edreg, WholeHour, quarters, energy_prices_fit, targets_fit, lengths_fit, readings_fit}
use Rattle.hour.specs.declared.Settlement.{Settlement}

-- the transfer of second i + 1: none for dReg, what its quarter's ramp plans for E-dReg
abbrev pub transfer_in : Service → ℕ → ℤ
transfer_in dreg i = pos 0
transfer_in (edreg shift) i = transfer_at shift.targets i

abbrev pub energy_in : List ℤ → Service → ℤ
energy_in powers dreg = pos 0
energy_in powers (edreg shift) = energy_fee powers (quarters shift) shift.discharge shift.charge

pub record Accepted (h : WholeHour) (scores : List ℕ) (r : Settlement) : Type 0 where
  -- an hour has 3,600 scores
  pub seconds : length scores ≡ seconds_of_hour
  -- each is the score of the percent output of its second, less its transfer, by the bounds of the frequency of the second before, the curve's corners around the reference
  pub score : (i : ℕ) → i < seconds_of_hour →
      let frequency = get_or h.frequencies i (pos 0) in
      get_or scores i 0 ≡ score_of (percent_output (get_or h.powers i (pos 0)) (transfer_in h.service i) h.terms.capacity.0) (upper_by h.reference.0 frequency) (lower_by h.reference.0 frequency)
  -- the hourly rate is the smallest rolling rate, whose first windows look back into the earlier scores (document 02, #102)
  pub rate : r.rate ≡ smallest (rolling h.earlier scores)
  -- the factor is that of the first record whose threshold is at most the rate
  pub factor : r.factor ≡ get_or h.factors (first_place h.thresholds (pos r.rate)) (pos 0)
  -- the two fees, each rounded to the dollar
  pub capacity : r.capacity.0 ≡ fee h.terms.clearing h.terms.capacity.0
  pub performance : r.performance.0 ≡ fee h.terms.performance h.terms.capacity.0
  -- the quality part of both rounded fees
  pub quality : r.quality.0 ≡ quality_part r.capacity.0 r.performance.0 r.factor
  -- the energy service fee of the four quarters, none for dReg
  pub energy : r.energy.0 ≡ energy_in h.powers h.service
  -- and the amount
  pub amount : r.amount.0 ≡ r.quality.0 +ℤ r.energy.0

-- what fits: every test of `hour_refusal`, as a fact
pub record HourFits (h : WholeHour) (places : ℕ) : Type 0 where
  pub lengths : lengths_fit (length h.powers) (length h.frequencies) (length h.earlier) places ≡ true
  pub capacity : is_capacity h.terms.capacity.0 ≡ true
  pub reference : is_reference h.reference.0 ≡ true
  pub prices : (is_price h.terms.clearing && is_price h.terms.performance && energy_prices_fit h.service) ≡ true
  pub bands : bands_fit h.thresholds h.factors ≡ true
  pub targets : targets_fit h.service ≡ true
  pub readings : (are_scores h.earlier && readings_fit h.powers h.frequencies) ≡ true
