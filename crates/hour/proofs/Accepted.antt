-- An accepted hour is the paper's formula: no part of it is refused where the hour is not, so each part's answer is its plain formula; and an hour that
-- fits is accepted. Stated over the contracts of `hour` and `dreg_hour` as the source states them. Assumes nothing.
use Prim.Native.Nat.{ℕ, ◌+◌, ◌≤◌, ◌<◌}
use mathlib.Core.Path.{◌≡◌, refl, sym, ap, ◌∙◌, subst, subst₂}
use mathlib.Core.Bool.{true, ◌&&◌}
use mathlib.Core.List.{List}
use native.Mathlib.Omega.{arith}
use lib.IntN.{ℤ, pos, ◌+ℤ◌, +ℤ_idr}
use lib.ListN.{length, get_or, drop, length-take, length-drop}
use lib.Seq.{get_or-take, get_or-drop}
use contract.Lifetimes.{Lfts}
use mir.Val.{Val}
use borrow.Fn.Kinds.{Dens, GoodsP, ended_of}
use denote.Triple.Clauses.{AtExit}
use denote.Laws.{Is}
use denote.Struct.Declared.{row}
use denote.Struct.Laws.{owed}
use Rattle.whole.specs.Whole.{minus}
use Rattle.whole.proofs.Choice.{and_both}
use Rattle.whole.proofs.Sums.{all_inside, inside_all}
use Rattle.units.specs.Limits.{is_price, is_factor, are_powers, are_frequencies, are_transfers, most_transfer, most_score, seconds_of_hour}
use Rattle.curve.specs.Curve.{upper_by, lower_by}
use Rattle.score.specs.Score.{percent_output, score_of}
use Rattle.score.proofs.Laws.{score_most}
use Rattle.score.proofs.Accepted.{scores_plain}
use Rattle.score.specs.Accepted.{Scores}
use Rattle.rate.specs.Rolling.{are_scores, rolling, smallest}
use Rattle.rate.specs.Accepted.{ScoresFit}
use Rattle.rate.specs.declared.Rated.{Rated}
use Rattle.rate.proofs.Rates.{are_scores_lem, rate_granted, rate_within}
use Rattle.bands.specs.Bands.{first_place, bands_refusal, factor_answer}
use Rattle.std.specs.Prelude.{Result}
use Rattle.std.specs.Result.{result_unwrap_or}
use Rattle.units.specs.declared.refusal.Refusal.{Refusal}
use Rattle.bands.proofs.Laws.{lookup_passes, factor_granted, factor_inside}
use Rattle.fees.specs.Fees.{fee, fee_answer, quality_part, quality_answer, charge_of}
use Rattle.fees.specs.declared.Charged.{Charged}
use Rattle.fees.proofs.Laws.{fee_granted, fees_fit_lem, quality_granted, energy_granted}
use Rattle.fees.specs.Accepted.{EnergyFits}
use Rattle.hour.specs.Hour.{Service, dreg, edreg, WholeHour, transfers_of, quarters, energy_of, energy_prices_fit, targets_fit, readings_fit, hour_refusal, scores_of, scores_left, granted_hour, settled_of, rate_of, hour_answer}
use Rattle.hour.specs.Accepted.{transfer_in, energy_in, Accepted, HourFits}
use Rattle.hour.specs.declared.Shift.{Shift}
use Rattle.hour.specs.declared.Settlement.{Settlement}
use Rattle.hour.specs.contracts.Shift as shift
use Rattle.hour.proofs.Shift.TheLaws as shift_laws
use Rattle.hour.proofs.hour.Reads as hour_reads
use Rattle.hour.proofs.hour.Kinds as hour_kinds
use Rattle.hour.proofs.dreg_hour.Reads as dreg_reads
use Rattle.hour.proofs.dreg_hour.Kinds as dreg_kinds
use Rattle.hour.proofs.Laws.{fit, fit_none, Long, long_of, length_transfers, transfer_at_lem, transfers_fit, refusal_is, hour_granted, scores_granted}
use Rattle.hour.specs.Calls.{hour_handed, hour_run, dreg_handed, dreg_run}

-- what is shifted has five targets
abbrev pub Five : Service → Type 0
Five dreg = Unit {0}
Five (edreg shift) = length shift.targets ≡ 5

-- ---- the energy service fee

quarters_long : (s : Shift) → Five (edreg s) → length (quarters s) ≡ 4
quarters_long s five = simp (length-take, length-drop) (omega arith)

quarters_fit : (s : Shift) → Five (edreg s) → targets_fit (edreg s) ≡ true → are_transfers (quarters s) ≡ true
quarters_fit s five e =
    inside_all (minus most_transfer) (pos most_transfer) (quarters s) (λ i h.
    let l : i < 4 = omega (arith, quarters_long s five) in
    let k : 1 + i < length s.targets = omega arith in
    rw (get_or-take 4 (drop 1 s.targets) i (pos 0) l, get_or-drop 1 s.targets i (pos 0)) (all_inside (minus most_transfer) (pos most_transfer) s.targets e (1 + i) k))

pub energy_fit : (powers : List ℤ) (s : Shift) → length powers ≡ seconds_of_hour → are_powers powers ≡ true → energy_prices_fit (edreg s) ≡ true → targets_fit (edreg s) ≡ true → Five (edreg s)
    → EnergyFits powers (quarters s) s.discharge s.charge
energy_fit powers s long readings prices targets five =
    let p = and_both (is_price s.discharge) (is_price s.charge) prices in
    record { seconds = long; quarters = quarters_long s five; discharging = p.0; charging = p.1; transfers = quarters_fit s five targets; readings = readings }

energy_plain : (powers : List ℤ) (s : Service) → length powers ≡ seconds_of_hour → are_powers powers ≡ true → energy_prices_fit s ≡ true → targets_fit s ≡ true → Five s
    → (energy_of powers s).0 ≡ energy_in powers s
unfolding charge_of
energy_plain powers dreg long readings prices targets five = refl
energy_plain powers (edreg s) long readings prices targets five =
    ap (λ (x : Charged). x.dollars.0) (energy_granted (energy_fit powers s long readings prices targets five))

-- scores by a rule that gives at most 100 are scores
pub scored_small : (scores : List ℕ) {rule : ℕ → ℕ} → length scores ≡ seconds_of_hour → ((i : ℕ) → i < seconds_of_hour → get_or scores i 0 ≡ rule i) → ((i : ℕ) → rule i ≤ most_score)
    → are_scores scores ≡ true
scored_small scores long is most = are_scores_lem scores (λ i l. subst (λ (n : ℕ). n ≤ most_score) (sym (is i (omega (arith, long)))) (most i))

module _ (h : WholeHour) (places : ℕ) (f : HourFits h places) (five : Five h.service) where
  lengths : Long (length h.powers) (length h.frequencies) (length h.earlier) places
  lengths = long_of h places f.lengths

  before : are_scores h.earlier ≡ true
  before = (and_both (are_scores h.earlier) (readings_fit h.powers h.frequencies) f.readings).0

  readings : (are_powers h.powers ≡ true) × (are_frequencies h.frequencies ≡ true)
  readings = and_both _ _ (and_both (are_scores h.earlier) (readings_fit h.powers h.frequencies) f.readings).1

  prices : (is_price h.terms.clearing ≡ true) × (is_price h.terms.performance ≡ true) × (energy_prices_fit h.service ≡ true)
  prices =
      let a = and_both (is_price h.terms.clearing && is_price h.terms.performance) (energy_prices_fit h.service) f.prices in
      let b = and_both (is_price h.terms.clearing) (is_price h.terms.performance) a.0 in
      (b.0, b.1, a.1)

  -- ---- the scores

  scores_are : Scores h.powers h.frequencies (transfers_of h.service) h.terms.capacity h.reference (scores_of h)
  unfolding scores_of
  scores_are =
      let l = lengths in
      let p = sym l.of_powers in
      scores_plain h.powers h.frequencies (transfers_of h.service) h.terms.capacity h.reference places
      (record {
        as_frequencies = l.of_frequencies ∙ p;
        as_transfers = length_transfers h.service ∙ p;
        as_places = l.of_places ∙ p;
        capacity_fits = f.capacity;
        reference_fits = f.reference;
        transfers_fit = transfers_fit h.service f.targets;
        powers_fit = readings.0;
        frequencies_fit = readings.1;
      })

  scores_long : length (scores_of h) ≡ seconds_of_hour
  scores_long = scores_are.seconds ∙ lengths.of_powers

  score_plain : (i : ℕ) → i < seconds_of_hour →
      let frequency = get_or h.frequencies i (pos 0) in
      get_or (scores_of h) i 0 ≡ score_of (percent_output (get_or h.powers i (pos 0)) (transfer_in h.service i) h.terms.capacity.0) (upper_by h.reference.0 frequency) (lower_by h.reference.0 frequency)
  score_plain i l =
      let frequency = get_or h.frequencies i (pos 0) in
      scores_are.second i (omega (arith, lengths.of_powers))
      ∙ ap (λ (z : ℤ). score_of (percent_output (get_or h.powers i (pos 0)) z h.terms.capacity.0) (upper_by h.reference.0 frequency) (lower_by h.reference.0 frequency)) (transfer_at_lem h.service i l)

  -- ---- the rate and the factor

  pub hour_scores_fit : ScoresFit h.earlier (scores_of h)
  hour_scores_fit = record { long = scores_long; of_earlier = lengths.of_earlier; before = before; small = scored_small _ scores_long score_plain (λ i. score_most _ _ _) }

  rate_plain : rate_of h ≡ smallest (rolling h.earlier (scores_of h))
  rate_plain = ap (λ (x : Rated). x.rate) (rate_granted h.earlier (scores_of h) hour_scores_fit)

  pub factor_plain : (rate : ℕ) → rate ≤ most_score → (result_unwrap_or (factor_answer h.thresholds h.factors rate) (pos 0)) ≡ get_or h.factors (first_place h.thresholds (pos rate)) (pos 0)
  unfolding bands_refusal
  factor_plain rate l =
      ap (λ (x : Result ℤ Refusal). result_unwrap_or x (pos 0)) (factor_granted h.thresholds h.factors rate (lookup_passes h.thresholds h.factors rate (rw f.bands) l))

  -- ---- the fees

  pub fee_plain : (price : ℤ) → is_price price ≡ true → (fee_answer price h.terms.capacity).dollars.0 ≡ fee price h.terms.capacity.0
  unfolding charge_of
  fee_plain price e = ap (λ (x : Charged). x.dollars.0) (fee_granted (record { size = f.capacity; money = e }))

  pub quality_plain : (factor : ℤ) → is_factor factor ≡ true →
      let a = (fee_answer h.terms.clearing h.terms.capacity).dollars in
      let b = (fee_answer h.terms.performance h.terms.capacity).dollars in
      (quality_answer a b factor).dollars.0 ≡ quality_part a.0 b.0 factor
  unfolding charge_of
  quality_plain factor e = ap (λ (x : Charged). x.dollars.0) (quality_granted (fees_fit_lem h.terms.clearing h.terms.performance h.terms.capacity factor e))

  pub settled_accepted : Accepted h (scores_of h) (settled_of h.terms h.thresholds h.factors (energy_of h.powers h.service) (rate_of h))
  unfolding settled_of granted_hour
  settled_accepted =
      let rate = rate_of h in
      record {
        seconds = scores_long;
        score = score_plain;
        rate = rate_plain;
        factor = factor_plain rate (rate_within h.earlier (scores_of h));
        capacity = fee_plain h.terms.clearing prices.0;
        performance = fee_plain h.terms.performance prices.1;
        quality = quality_plain (result_unwrap_or (factor_answer h.thresholds h.factors rate) (pos 0)) (factor_inside h.thresholds h.factors rate);
        energy = energy_plain h.powers h.service lengths.of_powers readings.0 prices.2 f.targets five;
        amount = refl;
      }

-- ---- over the contracts: any answer of an hour call that refuses nothing, with what it leaves in the lent run

module _ (h : WholeHour) (run scores : List ℕ) (r : Settlement) (five : Five h.service) (answer : r ≡ hour_answer h (length run)) (left : scores ≡ scores_left h run) where
  number : r.refusal ≡ hour_refusal h (length run)
  number = ap (λ (x : Settlement). x.refusal) answer ∙ refusal_is h (length run)

  accepts : r.refusal ≡ 0 → Accepted h scores r
  accepts none =
      let zero = sym number ∙ none in
      subst₂ (Accepted h)
      (sym (left ∙ scores_granted h run zero))
      (sym (answer ∙ hour_granted h (length run) zero))
      (settled_accepted h (length run) (fit h (length run) zero) five)

  fits_accepts : HourFits h (length run) → (r.refusal ≡ 0) × Accepted h scores r
  fits_accepts f = let none = number ∙ fit_none h (length run) f in (none, accepts none)

-- what is handed in has five targets
pub five_targets : (t : Shift) (vs : List Val) → Is (row shift.the_type) t vs → Five (edreg t)
five_targets t vs g = (owed shift.the_type shift_laws.the_laws t vs g).1.1.0.1.0.1

-- an E-dReg hour: a call of `hour`, on parameters of their types
module _ (κs : Lfts 6) (a : Dens κs hour_kinds.ps) (good : GoodsP κs hour_kinds.ps a) (r : Settlement) (s : AtExit (ended_of 6 hour_kinds.ps hour_kinds.r) κs) (met : hour_reads.Post κs a r s) where
  five : Five (hour_handed κs a).service
  five = five_targets a.1.1.1.1.0 _ good.1.1.1.1.0

  pub hour_accepted : r.refusal ≡ 0 → Accepted (hour_handed κs a) (hour_run κs s) r
  hour_accepted = accepts (hour_handed κs a) (hour_run κs a) (hour_run κs s) r five met.0 met.1

  pub hour_fit_accepted : HourFits (hour_handed κs a) (length (hour_run κs a)) → (r.refusal ≡ 0) × Accepted (hour_handed κs a) (hour_run κs s) r
  hour_fit_accepted = fits_accepts (hour_handed κs a) (hour_run κs a) (hour_run κs s) r five met.0 met.1

-- a dReg hour, whose amount is its quality part
module _ (κs : Lfts 6) (a : Dens κs dreg_kinds.ps) (r : Settlement) (s : AtExit (ended_of 6 dreg_kinds.ps dreg_kinds.r) κs) (met : dreg_reads.Post κs a r s) where
  pub dreg_hour_accepted : r.refusal ≡ 0 → Accepted (dreg_handed κs a) (dreg_run κs s) r
  dreg_hour_accepted = accepts (dreg_handed κs a) (dreg_run κs a) (dreg_run κs s) r tt met.0 met.1

  pub dreg_hour_fit_accepted : HourFits (dreg_handed κs a) (length (dreg_run κs a)) → (r.refusal ≡ 0) × Accepted (dreg_handed κs a) (dreg_run κs s) r
  dreg_hour_fit_accepted = fits_accepts (dreg_handed κs a) (dreg_run κs a) (dreg_run κs s) r tt met.0 met.1

  pub dreg_hour_amount : r.refusal ≡ 0 → r.amount.0 ≡ r.quality.0
  dreg_hour_amount none =
      let e = dreg_hour_accepted none in
      e.amount ∙ ap (λ (z : ℤ). r.quality.0 +ℤ z) e.energy ∙ +ℤ_idr r.quality.0
