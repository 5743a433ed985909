-- An accepted sReg hour is the paper's formula: no part of it is refused where the hour is not, so each part's answer is its plain formula; and an hour that fits is accepted. Stated over the
-- contract of `sreg_hour` as the source states it. Assumes nothing.
use Prim.Native.Nat.{ℕ, ◌<◌}
use mathlib.Core.Path.{◌≡◌, refl, sym, ap, ◌∙◌, subst₂}
use mathlib.Core.Bool.{true}
use mathlib.Core.List.{List}
use native.Mathlib.Omega.{arith}
use lib.IntN.{ℤ, pos, +ℤ_idr}
use lib.ListN.{length, get_or, take}
use contract.Lifetimes.{Lfts}
use borrow.Fn.Kinds.{Dens, ended_of}
use denote.Triple.Clauses.{AtExit}
use Rattle.whole.proofs.Choice.{and_both}
use Rattle.units.specs.Limits.{is_price, seconds_of_hour}
use Rattle.rate.specs.Rolling.{are_scores, hourly_rate}
use Rattle.rate.specs.Accepted.{ScoresFit}
use Rattle.rate.specs.declared.Rated.{Rated}
use Rattle.rate.proofs.Rates.{are_scores_lem, rate_granted, rate_within}
use Rattle.std.specs.Result.{result_unwrap_or}
use Rattle.bands.specs.Bands.{factor_answer}
use Rattle.bands.proofs.Laws.{factor_inside}
use Rattle.hour.specs.Hour.{granted_hour, settled_of}
use Rattle.hour.specs.Accepted.{HourFits}
use Rattle.hour.proofs.Laws.{Long, long_of}
use Rattle.hour.proofs.Accepted.{factor_plain, fee_plain, quality_plain}
use Rattle.sreg.specs.Second.{score_in, is_state}
use Rattle.sreg.specs.Run.{scores_from, state_after}
use Rattle.sreg.specs.declared.EventState.{EventState}
use Rattle.sreg.proofs.Seconds.{score_at, scores_most}
use Rattle.sreg_hour.specs.Hour.{SRegHour, sreg_refusal, sreg_scores, sreg_state, sreg_left, granted_sreg, sreg_answer}
use Rattle.sreg_hour.specs.Accepted.{SRegAccepted, SRegFits}
use Rattle.sreg_hour.specs.Calls.{sreg_handed, sreg_run}
use Rattle.sreg_hour.specs.declared.Settled.{Settled}
use Rattle.sreg_hour.proofs.Laws.{unshifted, fit, fit_none, fits_unshifted, refusal_is, granted, scores_granted, scores_long as hour-long}
use Rattle.sreg_hour.proofs.sreg_hour.Reads as sreg_hour_reads
use Rattle.sreg_hour.proofs.sreg_hour.Kinds as sreg_hour_kinds

-- the scores of a run of seconds are scores
pub small_scores : (state : EventState) (capacity : ℤ) (powers frequencies : List ℤ) → are_scores (scores_from state capacity powers frequencies) ≡ true
small_scores state capacity powers frequencies = are_scores_lem (scores_from state capacity powers frequencies) (λ i l. scores_most state capacity powers frequencies i)

module _ (h : SRegHour) (places : ℕ) (f : SRegFits h places) where
  lengths : Long (length h.powers) (length h.frequencies) (length h.earlier) places
  lengths = long_of (unshifted h) places f.lengths

  even : length h.powers ≡ length h.frequencies
  even = lengths.of_powers ∙ sym lengths.of_frequencies

  prices : (is_price h.terms.clearing ≡ true) × (is_price h.terms.performance ≡ true)
  prices = and_both (is_price h.terms.clearing) (is_price h.terms.performance) f.prices

  also : HourFits (unshifted h) places
  also = fits_unshifted f

  -- ---- the scores

  scores_long : length (sreg_scores h) ≡ seconds_of_hour
  scores_long = hour-long h places (fit_none h places f)

  score_plain : (i : ℕ) → i < seconds_of_hour →
      get_or (sreg_scores h) i 0 ≡ score_in (state_after h.state (take i h.powers) (take i h.frequencies)) (get_or h.powers i (pos 0)) (get_or h.frequencies i (pos 0)) h.terms.capacity.0
  unfolding sreg_scores
  score_plain i l = score_at h.state h.terms.capacity.0 h.powers h.frequencies i even (omega (arith, lengths.of_powers))

  pub sreg_scores_fit : ScoresFit h.earlier (sreg_scores h)
  unfolding sreg_scores
  sreg_scores_fit = record { long = scores_long; of_earlier = lengths.of_earlier; before = f.before; small = small_scores h.state h.terms.capacity.0 h.powers h.frequencies }

  -- ---- the rate and the fees

  pub granted_accepted : SRegAccepted h (sreg_scores h) (granted_sreg h)
  unfolding settled_of granted_hour sreg_state
  granted_accepted =
      let g = unshifted h in
      let rate = (hourly_rate h.earlier (sreg_scores h)).rate in
      let factor = result_unwrap_or (factor_answer h.thresholds h.factors rate) (pos 0) in
      record {
        powers = lengths.of_powers;
        frequencies = lengths.of_frequencies;
        seconds = scores_long;
        score = score_plain;
        rate = ap (λ (x : Rated). x.rate) (rate_granted h.earlier (sreg_scores h) sreg_scores_fit);
        factor = factor_plain g places also tt rate (rate_within h.earlier (sreg_scores h));
        capacity = fee_plain g places also tt h.terms.clearing prices.0;
        performance = fee_plain g places also tt h.terms.performance prices.1;
        quality = quality_plain g places also tt factor (factor_inside h.thresholds h.factors rate);
        energy = refl;
        amount = +ℤ_idr _;
        state = refl;
      }

-- ---- over the contract: any answer of the call that refuses nothing, with what it leaves in the lent run

module _ (h : SRegHour) (run scores : List ℕ) (r : Settled) (answer : r ≡ sreg_answer h (length run)) (left : scores ≡ sreg_left h run) where
  number : r.hour.refusal ≡ sreg_refusal h (length run)
  number = ap (λ (x : Settled). x.hour.refusal) answer ∙ refusal_is h (length run)

  accepts : r.hour.refusal ≡ 0 → SRegAccepted h scores r
  accepts none =
      let zero = sym number ∙ none in
      subst₂ (SRegAccepted h)
      (sym (left ∙ scores_granted h run zero))
      (sym (answer ∙ granted h (length run) zero))
      (granted_accepted h (length run) (fit h (length run) zero))

  fits_accepts : SRegFits h (length run) → (r.hour.refusal ≡ 0) × SRegAccepted h scores r
  fits_accepts f = let none = number ∙ fit_none h (length run) f in (none, accepts none)

module _ (κs : Lfts 6) (a : Dens κs sreg_hour_kinds.ps) (r : Settled) (s : AtExit (ended_of 6 sreg_hour_kinds.ps sreg_hour_kinds.r) κs) (met : sreg_hour_reads.Post κs a r s) where
  pub sreg_hour_accepted : r.hour.refusal ≡ 0 → SRegAccepted (sreg_handed κs a) (sreg_run κs s) r
  sreg_hour_accepted = accepts (sreg_handed κs a) (sreg_run κs a) (sreg_run κs s) r met.0 met.1

  pub sreg_hour_fit_accepted : SRegFits (sreg_handed κs a) (length (sreg_run κs a)) → (r.hour.refusal ≡ 0) × SRegAccepted (sreg_handed κs a) (sreg_run κs s) r
  sreg_hour_fit_accepted = fits_accepts (sreg_handed κs a) (sreg_run κs a) (sreg_run κs s) r met.0 met.1

  -- and the state that it was handed is one that an hour can end in
  pub sreg_hour_state : r.hour.refusal ≡ 0 → is_state (sreg_handed κs a).state ≡ true
  sreg_hour_state none = (fit (sreg_handed κs a) (length (sreg_run κs a)) (sym (number (sreg_handed κs a) (sreg_run κs a) (sreg_run κs s) r met.0 met.1) ∙ none)).state
