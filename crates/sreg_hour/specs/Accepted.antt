-- AN ACCEPTED sReg HOUR, as document 02, #103, says it, from the readings to the amount and the state, with no refusal in it: what proofs/Accepted.antt shows of every hour that is not
-- refused; and what fits, which it shows to be accepted. Crate events tells each second's score by the list of seconds alone.
use Rattle.std.specs.Prelude.{ℕ, ◌<◌, ◌≡◌, true, ◌&&◌, List, pos, length, get_or, take}
use Rattle.units.specs.Limits.{is_capacity, is_price, seconds_of_hour}
use Rattle.rate.specs.Rolling.{are_scores, rolling, smallest}
use Rattle.bands.specs.Bands.{bands_fit, first_place}
use Rattle.fees.specs.Fees.{fee, quality_part}
use Rattle.hour.specs.Hour.{lengths_fit, readings_fit}
use Rattle.sreg.specs.Second.{score_in, is_state}
use Rattle.sreg.specs.Run.{state_after}
use Rattle.sreg_hour.specs.Hour.{SRegHour}
use Rattle.sreg_hour.specs.declared.Settled.{Settled}

pub record SRegAccepted (h : SRegHour) (scores : List ℕ) (r : Settled) : Type 0 where
  -- 3,600 powers and as many frequencies, of the same seconds
  pub powers : length h.powers ≡ seconds_of_hour
  pub frequencies : length h.frequencies ≡ seconds_of_hour
  -- and 3,600 scores
  pub seconds : length scores ≡ seconds_of_hour
  -- each is the score of its second's power and frequency, by the state that the seconds before it ended in
  pub score : (i : ℕ) → i < seconds_of_hour →
      let before = state_after h.state (take i h.powers) (take i h.frequencies) in
      get_or scores i 0 ≡ score_in before (get_or h.powers i (pos 0)) (get_or h.frequencies i (pos 0)) h.terms.capacity.0
  -- "Rolling rule and fees are dReg's": the hourly rate is the smallest rolling rate, whose first windows look back into the earlier scores
  pub rate : r.hour.rate ≡ smallest (rolling h.earlier scores)
  -- the factor is that of the first record whose threshold is at most the rate
  pub factor : r.hour.factor ≡ get_or h.factors (first_place h.thresholds (pos r.hour.rate)) (pos 0)
  -- the two fees, each rounded to the dollar
  pub capacity : r.hour.capacity.0 ≡ fee h.terms.clearing h.terms.capacity.0
  pub performance : r.hour.performance.0 ≡ fee h.terms.performance h.terms.capacity.0
  -- the quality part of both rounded fees
  pub quality : r.hour.quality.0 ≡ quality_part r.hour.capacity.0 r.hour.performance.0 r.hour.factor
  -- no energy is paid, so the amount is the quality part
  pub energy : r.hour.energy.0 ≡ pos 0
  pub amount : r.hour.amount.0 ≡ r.hour.quality.0
  -- the state that all its seconds end in
  pub state : r.state ≡ state_after h.state h.powers h.frequencies

-- what fits: every test of `sreg_refusal`, as a fact
pub record SRegFits (h : SRegHour) (places : ℕ) : Type 0 where
  pub lengths : lengths_fit (length h.powers) (length h.frequencies) (length h.earlier) places ≡ true
  pub capacity : is_capacity h.terms.capacity.0 ≡ true
  pub prices : (is_price h.terms.clearing && is_price h.terms.performance) ≡ true
  pub bands : bands_fit h.thresholds h.factors ≡ true
  pub before : are_scores h.earlier ≡ true
  pub state : is_state h.state ≡ true
  pub readings : readings_fit h.powers h.frequencies ≡ true
