-- An sReg hour's inputs fit just where its refusal is 0; the core is the hour where the terms are let through; and what the refusal decides of the answer and of the lent run. By the lists of
-- tests. Assumes nothing.
use Prim.Native.Nat.{ℕ, ◌≤◌}
use mathlib.Core.Path.{◌≡◌, refl, sym, ap, ◌∙◌}
use mathlib.Core.Bool.{true, false, ◌&&◌}
use mathlib.Core.List.{List, ◌++◌}
use native.Mathlib.Omega.{arith}
use lib.Dec.{eqb}
use lib.IntN.{pos}
use lib.ListN.{length}
use borrow.Author.Tests.{eq-eqb, eqb-true}
use Rattle.whole.specs.Choice.{unless, or_else, in_order, kept}
use Rattle.whole.specs.Whole.{Within}
use Rattle.whole.proofs.Choice.{both, and_both, by_test, all_passed, passed_all, in_order_then, or_first, kept_new, kept_old, kept_any}
use Rattle.units.specs.Limits.{is_price, most_score, seconds_of_hour}
use Rattle.units.specs.Refusals.{bad_reading}
use Rattle.units.specs.Units.{dollars}
use Rattle.rate.specs.Rolling.{are_scores}
use Rattle.fees.specs.Fees.{most_hour_amount}
use Rattle.fees.proofs.Laws.{amount_within}
use Rattle.curve.specs.Moved.{unmoved}
use Rattle.curve.proofs.Moved.{unmoved_fits}
use Rattle.hour.specs.Hour.{WholeHour, dreg_hour, readings_fit, terms_refusal, granted_hour, settled_of, refused_hour, settled_at}
use Rattle.hour.specs.Accepted.{HourFits}
use Rattle.hour.proofs.Laws.{at_fits, terms_fit, long_of, TermsFit}
use Rattle.sreg.specs.Second.{is_state}
use Rattle.sreg.specs.Run.{sreg_scores_refusal}
use Rattle.sreg.proofs.Seconds.{length_scores}
use Rattle.sreg_hour.specs.Hour.{SRegHour, sreg_terms_tests, state_tests, sreg_refusal, sreg_scores, sreg_left, refused_sreg, granted_sreg, sreg_answer}
use Rattle.sreg_hour.specs.Accepted.{SRegFits}
use Rattle.sreg_hour.specs.Inner.{sreg_worked_refusal, sreg_worked, sreg_worked_left}
use Rattle.sreg_hour.specs.declared.Settled.{Settled}

-- what a dReg hour would be handed, the reference where nobody moves it
abbrev pub unshifted : SRegHour → WholeHour
unshifted h = dreg_hour h.powers h.frequencies h.terms unmoved h.thresholds h.factors h.earlier

-- ---- the tests

-- an hour that is not refused fits
pub fit : (h : SRegHour) (places : ℕ) → sreg_refusal h places ≡ 0 → SRegFits h places
unfolding sreg_refusal
fit h places e =
    let p = all_passed (sreg_terms_tests h places ++ state_tests h) refl e in
    let prices = and_both (is_price h.terms.clearing && is_price h.terms.performance) true p.1.1.1.0 in
    let last = and_both (are_scores h.earlier) (is_state h.state && readings_fit h.powers h.frequencies) p.1.1.1.1.1.1.0 in
    let read = and_both (is_state h.state) (readings_fit h.powers h.frequencies) last.1 in
    record { lengths = p.0; capacity = p.1.0; prices = prices.0; bands = p.1.1.1.1.0; before = last.0; state = read.0; readings = read.1 }

-- and an hour that fits is not refused
pub fit_none : (h : SRegHour) (places : ℕ) → SRegFits h places → sreg_refusal h places ≡ 0
unfolding sreg_refusal
fit_none h places f =
    passed_all (sreg_terms_tests h places ++ state_tests h)
    (f.lengths, (f.capacity, (refl, (both f.prices refl, (f.bands, (refl, (both f.before (both f.state f.readings), tt)))))))

-- what fits an sReg hour fits a dReg one
pub fits_unshifted : {h : SRegHour} {places : ℕ} → SRegFits h places → HourFits (unshifted h) places
fits_unshifted f =
    record { lengths = f.lengths; capacity = f.capacity; reference = unmoved_fits; prices = both f.prices refl; bands = f.bands; targets = refl; readings = both f.before f.readings }

-- ---- the core, where the terms are let through

module _ (h : SRegHour) (places : ℕ) where
  abbrev pub terms : ℕ
  terms = terms_refusal (length h.powers) (length h.frequencies) (length h.earlier) places h.terms true h.thresholds h.factors true true

  terms_let : terms ≡ 0 → TermsFit (unshifted h) places
  unfolding terms_refusal
  terms_let none = terms_fit (unshifted h) places (rw unmoved_fits none)

  tests_last : sreg_refusal h places ≡ or_else terms (in_order (state_tests h))
  unfolding sreg_refusal terms_refusal
  tests_last = in_order_then (sreg_terms_tests h places) (state_tests h) refl

  -- where the terms fit, the scores' call refuses just for the state and the readings
  scores_refusal_lem : TermsFit (unshifted h) places
      → sreg_scores_refusal h.powers h.frequencies h.terms.capacity h.state places ≡ unless (is_state h.state && readings_fit h.powers h.frequencies) bad_reading 0
  unfolding sreg_scores_refusal
  scores_refusal_lem f =
      let l = long_of (unshifted h) places f.lengths in
      rw (eq-eqb _ _ l.of_powers, eq-eqb _ _ l.of_frequencies, eq-eqb _ _ l.of_places, f.capacity)

  worked_number : terms ≡ 0 → sreg_worked_refusal h places ≡ sreg_refusal h places
  unfolding sreg_worked_refusal
  worked_number none =
      rw (tests_last, none, scores_refusal_lem (terms_let none))
      (by_test (are_scores h.earlier) (λ (t : are_scores h.earlier ≡ true). rw t) (λ (t : are_scores h.earlier ≡ false). rw t))

  -- and settling by the rate refuses nothing
  pub rate_settles : terms ≡ 0 → sreg_worked_refusal h places ≡ 0 → (rate : ℕ) → rate ≤ most_score
      → settled_at h.terms h.thresholds h.factors rate ≡ settled_of h.terms h.thresholds h.factors (dollars (pos 0)) rate
  unfolding settled_at
  rate_settles none zero rate l = kept_new _ _ (at_fits (unshifted h) places rate (fits_unshifted (fit h places (sym (worked_number none) ∙ zero))) l)

  pub worked_is : terms ≡ 0 → sreg_worked h places ≡ sreg_answer h places
  unfolding sreg_worked sreg_answer
  worked_is none = ap (λ (k : ℕ). kept k (granted_sreg h) (refused_sreg k)) (worked_number none)

  pub terms_refuse : (terms ≡ 0 → ⊥) → sreg_refusal h places ≡ terms
  terms_refuse n = tests_last ∙ or_first (in_order (state_tests h)) n

  -- ---- what the refusal decides

  pub refusal_is : (sreg_answer h places).hour.refusal ≡ sreg_refusal h places
  unfolding sreg_answer settled_of granted_hour refused_hour
  refusal_is =
      let k = sreg_refusal h places in
      by_test (eqb k 0) (λ (t : eqb k 0 ≡ true). rw t (sym (eqb-true k 0 t))) (λ (t : eqb k 0 ≡ false). rw t)

  pub granted : sreg_refusal h places ≡ 0 → sreg_answer h places ≡ granted_sreg h
  unfolding sreg_answer
  granted e = kept_new _ _ e

  pub refused_is : (sreg_refusal h places ≡ 0 → ⊥) → sreg_answer h places ≡ refused_sreg (sreg_refusal h places)
  unfolding sreg_answer
  refused_is n = kept_old _ _ n

pub worked_left_lem : (h : SRegHour) (run : List ℕ) → terms h (length run) ≡ 0 → sreg_worked_left h run ≡ sreg_left h run
unfolding sreg_worked_left sreg_left
worked_left_lem h run none = ap (λ (k : ℕ). kept k (sreg_scores h) run) (worked_number h (length run) none)

pub scores_granted : (h : SRegHour) (run : List ℕ) → sreg_refusal h (length run) ≡ 0 → sreg_left h run ≡ sreg_scores h
unfolding sreg_left
scores_granted h run e = kept_new _ _ e

pub scores_refused : (h : SRegHour) (run : List ℕ) → (sreg_refusal h (length run) ≡ 0 → ⊥) → sreg_left h run ≡ run
unfolding sreg_left
scores_refused h run n = kept_old _ _ n

-- an hour whose terms are refused is answered their number, and leaves its run
pub terms_refused : (h : SRegHour) (run : List ℕ) {k : ℕ} {r : Settled} → k ≡ terms h (length run) → (k ≡ 0 → ⊥) → r ≡ refused_sreg k → (r ≡ sreg_answer h (length run)) × (run ≡ sreg_left h run)
terms_refused h run e n answer =
    let first = terms_refuse h (length run) (λ z. n (e ∙ z)) in
    let some : (sreg_refusal h (length run) ≡ 0 → ⊥) = λ z. n (e ∙ sym first ∙ z) in
    (answer ∙ ap refused_sreg (e ∙ sym first) ∙ sym (refused_is h (length run) some), sym (scores_refused h run some))

pub scores_long : (h : SRegHour) (places : ℕ) → sreg_refusal h places ≡ 0 → length (sreg_scores h) ≡ seconds_of_hour
unfolding sreg_scores
scores_long h places e =
    let l = long_of (unshifted h) places (fit h places e).lengths in
    length_scores _ h.terms.capacity.0 h.powers h.frequencies (l.of_powers ∙ sym l.of_frequencies) ∙ l.of_powers

-- an hour's amount lies far inside 64 bits: the limits of its inputs see to it
pub hour_within : (h : SRegHour) (places : ℕ) → Within most_hour_amount (sreg_answer h places).hour.amount.0
unfolding sreg_answer settled_of granted_hour refused_hour
hour_within h places =
    kept_any (λ (r : Settled). Within most_hour_amount r.hour.amount.0) (sreg_refusal h places)
    (λ e. amount_within _ _ _ _ (omega arith)) (omega arith)
