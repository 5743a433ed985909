-- An sReg hour (document 02, #103): "Rolling rule and fees are dReg's." What it refuses, its scores, the state that it ends in, its fees and its amount, made of the parts' own answers.
use Rattle.std.specs.Prelude.{ℕ, Bool, true, ◌&&◌, List, [], ◌∷◌, ◌++◌, ℤ, pos, length}
use Rattle.whole.specs.Choice.{in_order, kept}
use Rattle.units.specs.Refusals.{bad_reading}
use Rattle.units.specs.Units.{dollars}
use Rattle.rate.specs.Rolling.{are_scores, hourly_rate}
use Rattle.hour.specs.Hour.{lengths_fit, readings_fit, terms_tests, settled_of, refused_hour}
use Rattle.hour.specs.declared.Terms.{Terms}
use Rattle.sreg.specs.Second.{is_state}
use Rattle.sreg.specs.Run.{scores_from, state_after}
use Rattle.sreg.specs.declared.EventState.{EventState}
use Rattle.sreg.specs.declared.EventState.TheVariants.{Outside}
use Rattle.sreg_hour.specs.declared.Settled.{Settled}

-- ---- what is handed in

-- "The hour takes 3,600 powers and 3,600 frequencies of the same seconds"; the terms, the bands and the earlier scores of a dReg hour; and "the state the hour before ended in", outside an
-- event where the caller has none
pub record SRegHour : Type 0 where
  pub powers : List ℤ
  pub frequencies : List ℤ
  pub terms : Terms
  pub thresholds : List ℤ
  pub factors : List ℤ
  pub earlier : List ℕ
  pub state : EventState

abbrev pub sreg_hour : List ℤ → List ℤ → Terms → List ℤ → List ℤ → List ℕ → EventState → SRegHour
sreg_hour powers frequencies terms thresholds factors earlier state =
    record { powers = powers; frequencies = frequencies; terms = terms; thresholds = thresholds; factors = factors; earlier = earlier; state = state }

-- ---- the refusals: 1, 2, 3, 5, 4

-- dReg's, which shifts nothing, with no reference to be moved: 1, 2, 3, 5
abbrev pub sreg_terms_tests : SRegHour → ℕ → List (Bool × ℕ)
sreg_terms_tests h places =
    terms_tests (lengths_fit (length h.powers) (length h.frequencies) (length h.earlier) places) h.terms true h.thresholds h.factors true true

-- "4 also for a handed-in state that no hour can end in"; the earlier scores and the readings as for dReg
abbrev pub state_tests : SRegHour → List (Bool × ℕ)
state_tests h = (are_scores h.earlier && (is_state h.state && readings_fit h.powers h.frequencies), bad_reading) ∷ []

-- of the lent run only its number of places matters
unfoldable pub sreg_refusal : SRegHour → ℕ → ℕ
sreg_refusal h places = in_order (sreg_terms_tests h places ++ state_tests h)

-- ---- the scores, and the state

unfoldable pub sreg_scores : SRegHour → List ℕ
sreg_scores h = scores_from h.state h.terms.capacity.0 h.powers h.frequencies

-- "the state .. which is a part of its answer"
unfoldable pub sreg_state : SRegHour → EventState
sreg_state h = state_after h.state h.powers h.frequencies

-- what an hour leaves in the lent run
unfoldable pub sreg_left : SRegHour → List ℕ → List ℕ
sreg_left h run = kept (sreg_refusal h (length run)) (sreg_scores h) run

-- ---- the answer

abbrev pub refused_sreg : ℕ → Settled
refused_sreg k = record { hour = refused_hour k; state = Outside }

-- an hour by its scores: no energy is paid
abbrev pub granted_sreg : SRegHour → Settled
granted_sreg h =
    record {
      hour = settled_of h.terms h.thresholds h.factors (dollars (pos 0)) (hourly_rate h.earlier (sreg_scores h)).rate;
      state = sreg_state h;
    }

unfoldable pub sreg_answer : SRegHour → ℕ → Settled
sreg_answer h places =
    let k = sreg_refusal h places in
    kept k (granted_sreg h) (refused_sreg k)
