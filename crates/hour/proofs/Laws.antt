-- An hour's inputs fit just where its refusal is 0; the core is the hour where the terms are let through; and what the refusal decides of the answer
-- and of the lent run. By the lists of tests. Assumes nothing.
use Prim.Native.Nat.{ℕ, ◌≤◌, ◌<◌}
use mathlib.Core.Path.{◌≡◌, refl, sym, ap, ◌∙◌}
use mathlib.Core.Bool.{true, false, ◌&&◌}
use mathlib.Core.List.{List, ◌++◌}
use native.Mathlib.Omega.{arith}
use lib.Dec.{eqb, leb}
use lib.IntN.{ℤ, pos, ◌+ℤ◌}
use lib.ListN.{length, get_or, length-replicate, get_or-replicate}
use mir.Syntax.{w64}
use mir.Val.{SFits}
use borrow.Author.Tests.{eqb-true, eq-eqb, le-leb}
use Rattle.whole.specs.Choice.{unless, or_else, in_order}
use Rattle.whole.specs.Whole.{minus, Within}
use Rattle.whole.proofs.Choice.{and_both, by_test, all_passed, passed_all, in_order_then, or_first, or_rest, kept_new, kept_old, kept_any}
use Rattle.whole.proofs.Runs.{length_listed}
use Rattle.whole.proofs.Signed.{within_fits}
use Rattle.whole.proofs.Sums.{within_in, inside_all}
use Rattle.std.specs.Prelude.{is_ok}
use Rattle.units.specs.Refusals.{bad_reading, result_by}
use Rattle.units.specs.Limits.{is_capacity, is_reference, is_price, most_score, are_transfers, most_transfer, most_amount, is_amount, seconds_of_hour}
use Rattle.units.specs.declared.Dollars.{Dollars}
use Rattle.ramp.proofs.Laws.{plan_at, length_plan, plan_inside}
use Rattle.bands.specs.Bands.{bands_fit, bands_refusal}
use Rattle.score.specs.Run.{run_refusal, run_scores}
use Rattle.rate.specs.Rolling.{earlier_fit, are_scores}
use Rattle.fees.specs.Fees.{quality_answer, most_energy_fee, most_hour_amount}
use Rattle.fees.proofs.Laws.{energy_within, amount_within}
use Rattle.hour.specs.Hour.{terms_refusal, at_tests, at_refusal, Service, dreg, edreg, WholeHour, transfers_of, energy_of, energy_prices_fit, targets_fit, seconds_fit, lengths_fit, readings_fit, tests_of, readings_tests, hour_refusal, scores_of, scores_left, granted_hour, settled_of, refused_hour, rate_of, hour_answer}
use Rattle.hour.specs.Accepted.{transfer_in, HourFits}
use Rattle.hour.specs.Inner.{worked_refusal, worked_of, worked_left}
use Rattle.hour.specs.declared.Terms.{Terms}
use Rattle.hour.specs.declared.Settlement.{Settlement}

-- ---- the tests

-- three runs of 3,600, after none or three earlier scores
pub record Long (powers frequencies earlier places : ℕ) : Type 0 where
  pub of_powers : powers ≡ seconds_of_hour
  pub of_frequencies : frequencies ≡ seconds_of_hour
  pub of_places : places ≡ seconds_of_hour
  pub of_earlier : earlier_fit earlier ≡ true

pub long : (powers frequencies earlier places : ℕ) → lengths_fit powers frequencies earlier places ≡ true → Long powers frequencies earlier places
long p f n s e =
    let c = and_both (seconds_fit p f s) (earlier_fit n) e in
    let a = and_both (eqb p seconds_of_hour && eqb f seconds_of_hour) (eqb s seconds_of_hour) c.0 in
    let b = and_both (eqb p seconds_of_hour) (eqb f seconds_of_hour) a.0 in
    record { of_powers = eqb-true p seconds_of_hour b.0; of_frequencies = eqb-true f seconds_of_hour b.1; of_places = eqb-true s seconds_of_hour a.1; of_earlier = c.1 }

pub long_of : (h : WholeHour) (places : ℕ) → lengths_fit (length h.powers) (length h.frequencies) (length h.earlier) places ≡ true
    → Long (length h.powers) (length h.frequencies) (length h.earlier) places
long_of h places e = long (length h.powers) (length h.frequencies) (length h.earlier) places e

-- the bands' call refuses just what does not fit
pub bands_test : (thresholds factors : List ℤ) → is_ok (result_by (bands_refusal thresholds factors) (tt {0})) ≡ bands_fit thresholds factors
unfolding bands_refusal
bands_test ts fs = by_test (bands_fit ts fs) (λ (t : bands_fit ts fs ≡ true). rw t) (λ (t : bands_fit ts fs ≡ false). rw t)

-- an hour that is not refused fits
pub fit : (h : WholeHour) (places : ℕ) → hour_refusal h places ≡ 0 → HourFits h places
unfolding hour_refusal
fit h places e =
    let p = all_passed (tests_of h places ++ readings_tests h) refl e in
    record { lengths = p.0; capacity = p.1.0; reference = p.1.1.0; prices = p.1.1.1.0; bands = p.1.1.1.1.0; targets = p.1.1.1.1.1.0; readings = p.1.1.1.1.1.1.0 }

-- and an hour that fits is not refused
pub fit_none : (h : WholeHour) (places : ℕ) → HourFits h places → hour_refusal h places ≡ 0
unfolding hour_refusal
fit_none h places f =
    passed_all (tests_of h places ++ readings_tests h) (f.lengths, (f.capacity, (f.reference, (f.prices, (f.bands, (f.targets, (f.readings, tt)))))))

-- the refusal of the terms, and that of the readings and the earlier scores, which comes last
abbrev pub of_terms : WholeHour → ℕ → ℕ
of_terms h places =
    terms_refusal (length h.powers) (length h.frequencies) (length h.earlier) places h.terms (is_reference h.reference.0) h.thresholds h.factors
    (energy_prices_fit h.service) (targets_fit h.service)

abbrev pub of_readings : WholeHour → ℕ
of_readings h = in_order (readings_tests h)

pub readings_last : (h : WholeHour) (places : ℕ) → hour_refusal h places ≡ or_else (of_terms h places) (of_readings h)
unfolding hour_refusal terms_refusal
readings_last h places = in_order_then (tests_of h places) (readings_tests h) refl

-- terms that are let through
pub record TermsFit (h : WholeHour) (places : ℕ) : Type 0 where
  pub lengths : lengths_fit (length h.powers) (length h.frequencies) (length h.earlier) places ≡ true
  pub capacity : is_capacity h.terms.capacity.0 ≡ true
  pub reference : is_reference h.reference.0 ≡ true
  pub targets : targets_fit h.service ≡ true

pub terms_fit : (h : WholeHour) (places : ℕ) → of_terms h places ≡ 0 → TermsFit h places
unfolding terms_refusal
terms_fit h places e =
    let p = all_passed (tests_of h places) refl e in
    record { lengths = p.0; capacity = p.1.0; reference = p.1.1.0; targets = p.1.1.1.1.1.0 }

-- ---- the transfers

pub length_transfers : (s : Service) → length (transfers_of s) ≡ seconds_of_hour
unfolding transfers_of
length_transfers dreg = length-replicate seconds_of_hour (pos 0)
length_transfers (edreg shift) = length_plan shift.targets

pub transfer_at_lem : (s : Service) (i : ℕ) → i < seconds_of_hour → get_or (transfers_of s) i (pos 0) ≡ transfer_in s i
unfolding transfers_of
transfer_at_lem dreg i h = get_or-replicate seconds_of_hour i (pos 0) (pos 0) h
transfer_at_lem (edreg shift) i h = plan_at shift.targets i h

pub transfers_fit : (s : Service) → targets_fit s ≡ true → are_transfers (transfers_of s) ≡ true
unfolding transfers_of
transfers_fit dreg e =
    inside_all (minus most_transfer) (pos most_transfer) (transfers_of dreg) (λ i l.
    let h : i < seconds_of_hour = omega (arith, length_transfers dreg) in
    rw (transfer_at_lem dreg i h) (within_in {k = most_transfer} (omega arith)))
transfers_fit (edreg shift) e = plan_inside shift.targets e

-- ---- the core, where the terms are let through

module _ (h : WholeHour) (places : ℕ) (f : TermsFit h places) where
  run_refusal_is : run_refusal h.powers h.frequencies (transfers_of h.service) h.terms.capacity h.reference places ≡ unless (readings_fit h.powers h.frequencies) bad_reading 0
  unfolding run_refusal
  run_refusal_is =
      let l = long_of h places f.lengths in
      let p = sym l.of_powers in
      rw (
        eq-eqb _ _ (l.of_frequencies ∙ p),
        eq-eqb _ _ (length_transfers h.service ∙ p),
        eq-eqb _ _ (l.of_places ∙ p),
        f.capacity,
        f.reference,
        transfers_fit h.service f.targets,
      )

  worked_refusal_is : worked_refusal h.powers h.frequencies (transfers_of h.service) h.terms.capacity h.reference h.earlier places ≡ of_readings h
  unfolding worked_refusal
  worked_refusal_is =
      by_test (are_scores h.earlier) (λ (t : are_scores h.earlier ≡ true). rw (t, run_refusal_is)) (λ (t : are_scores h.earlier ≡ false). rw t)

module _ (h : WholeHour) (places : ℕ) (none : of_terms h places ≡ 0) where
  readings_left : hour_refusal h places ≡ of_readings h
  readings_left = readings_last h places ∙ or_rest (of_readings h) none

  worked_refusal_left : worked_refusal h.powers h.frequencies (transfers_of h.service) h.terms.capacity h.reference h.earlier places ≡ hour_refusal h places
  worked_refusal_left = worked_refusal_is h places (terms_fit h places none) ∙ sym readings_left

  pub worked_is : worked_of h.powers h.frequencies (transfers_of h.service) h.terms h.reference h.thresholds h.factors h.earlier (energy_of h.powers h.service) places ≡ hour_answer h places
  unfolding worked_of hour_answer scores_of
  worked_is = rw worked_refusal_left

pub left_is : (h : WholeHour) (run : List ℕ) → of_terms h (length run) ≡ 0
    → worked_left h.powers h.frequencies (transfers_of h.service) h.terms.capacity h.reference h.earlier run ≡ scores_left h run
unfolding worked_left scores_left scores_of
left_is h run none = rw (worked_refusal_left h (length run) none)

-- ---- what the refusal decides

module _ (h : WholeHour) (places : ℕ) where
  pub hour_granted : hour_refusal h places ≡ 0
      → hour_answer h places ≡ settled_of h.terms h.thresholds h.factors (energy_of h.powers h.service) (rate_of h)
  unfolding hour_answer
  hour_granted e = kept_new _ _ e

  pub hour_refused : (hour_refusal h places ≡ 0 → ⊥) → hour_answer h places ≡ refused_hour (hour_refusal h places)
  unfolding hour_answer
  hour_refused n = kept_old _ _ n

  -- the answer's number is the hour's refusal
  pub refusal_is : (hour_answer h places).refusal ≡ hour_refusal h places
  unfolding hour_answer settled_of granted_hour refused_hour
  refusal_is =
      let k = hour_refusal h places in
      by_test (eqb k 0) (λ (e : eqb k 0 ≡ true). rw e (sym (eqb-true k 0 e))) (λ (e : eqb k 0 ≡ false). rw e)

  -- refused terms refuse the hour
  pub terms_refuse : (of_terms h places ≡ 0 → ⊥) → hour_refusal h places ≡ of_terms h places
  terms_refuse n = readings_last h places ∙ or_first (of_readings h) n

pub scores_granted : (h : WholeHour) (run : List ℕ) → hour_refusal h (length run) ≡ 0 → scores_left h run ≡ scores_of h
unfolding scores_left
scores_granted h run e = kept_new _ _ e

pub scores_long : (h : WholeHour) (places : ℕ) → hour_refusal h places ≡ 0 → length (scores_of h) ≡ seconds_of_hour
unfolding scores_of run_scores
scores_long h places e = length_listed _ 0 (length h.powers) ∙ (long_of h places (fit h places e).lengths).of_powers

pub scores_refused : (h : WholeHour) (run : List ℕ) → (hour_refusal h (length run) ≡ 0 → ⊥) → scores_left h run ≡ run
unfolding scores_left
scores_refused h run n = kept_old _ _ n

-- an hour whose terms are refused is answered their number, and leaves its run
pub terms_refused : (h : WholeHour) (run : List ℕ) {k : ℕ} {r : Settlement} → k ≡ of_terms h (length run) → (k ≡ 0 → ⊥) → r ≡ refused_hour k
    → (r ≡ hour_answer h (length run)) × (run ≡ scores_left h run)
terms_refused h run e n answer =
    let first = terms_refuse h (length run) (λ z. n (e ∙ z)) in
    let some : (hour_refusal h (length run) ≡ 0 → ⊥) = λ z. n (e ∙ sym first ∙ z) in
    (answer ∙ ap refused_hour (e ∙ sym first) ∙ sym (hour_refused h (length run) some), sym (scores_refused h run some))

-- ---- an hour by its rate alone

-- its refusals are those of the terms, its runs being as long as they are to be, and then the rate's
pub at_last : (terms : Terms) (thresholds factors : List ℤ) (rate n : ℕ) → n ≡ seconds_of_hour
    → or_else (terms_refusal n n 0 n terms true thresholds factors true true) (unless (leb rate most_score) bad_reading 0) ≡ at_refusal terms thresholds factors rate
unfolding terms_refusal at_refusal
at_last terms ts fs rate n e =
    let capacity = is_capacity terms.capacity.0 in
    let prices = is_price terms.clearing && is_price terms.performance in
    rw (eq-eqb n seconds_of_hour e)
    (by_test capacity
    (λ (c : capacity ≡ true).
    by_test prices
    (λ (p : prices ≡ true).
    by_test (bands_fit ts fs) (λ (b : bands_fit ts fs ≡ true). rw (c, p, b)) (λ (b : bands_fit ts fs ≡ false). rw (c, p, b)))
    (λ (p : prices ≡ false). rw (c, p)))
    (λ (c : capacity ≡ false). rw c))

-- an hour that fits is not refused by its rate alone
pub at_fits : (h : WholeHour) (places rate : ℕ) → HourFits h places → rate ≤ most_score → at_refusal h.terms h.thresholds h.factors rate ≡ 0
unfolding at_refusal
at_fits h places rate f l =
    let prices = (and_both (is_price h.terms.clearing && is_price h.terms.performance) (energy_prices_fit h.service) f.prices).0 in
    passed_all (at_tests h.terms h.thresholds h.factors rate) (f.capacity, (prices, (f.bands, (le-leb rate most_score l, tt))))

-- ---- an hour's amount lies far inside the ledger's range: the limits of its inputs see to it

pub energy_small : (powers : List ℤ) (s : Service) → Within most_energy_fee (energy_of powers s).0
energy_small powers dreg = omega arith
energy_small powers (edreg shift) = energy_within powers _ shift.discharge shift.charge

pub amount_fits : (capacity performance : Dollars) (factor : ℤ) (energy : Dollars) → Within most_energy_fee energy.0
    → SFits w64 ((quality_answer capacity performance factor).dollars.0 +ℤ energy.0)
amount_fits capacity performance factor energy w = within_fits w64 tt (amount_within capacity performance factor energy w)

pub hour_within : (h : WholeHour) (places : ℕ) → Within most_hour_amount (hour_answer h places).amount.0
unfolding hour_answer settled_of granted_hour refused_hour
hour_within h places =
    kept_any (λ (r : Settlement). Within most_hour_amount r.amount.0) (hour_refusal h places)
    (λ e. amount_within _ _ _ (energy_of h.powers h.service) (energy_small h.powers h.service)) (omega arith)

pub hour_posts : (h : WholeHour) (places : ℕ) → is_amount (hour_answer h places).amount.0 ≡ true
hour_posts h places = let w = hour_within h places in within_in {k = most_amount} (omega arith)
