-- Document 02, #103: a run of seconds, each by the state that those before it ended in; and an hour's 3,600. "The hour takes 3,600 powers and 3,600 frequencies
-- of the same seconds."
use Rattle.std.specs.Prelude.{ℕ, ◌&&◌, List, [], ◌∷◌, eqb, ℤ, length}
use Rattle.whole.specs.Choice.{in_order, kept}
use Rattle.units.specs.Limits.{is_capacity, are_powers, are_frequencies, seconds_of_hour}
use Rattle.units.specs.Refusals.{wrong_length, bad_capacity, bad_reading}
use Rattle.units.specs.declared.Kilowatts.{Kilowatts}
use Rattle.sreg.specs.Second.{score_in, next_state, is_state}
use Rattle.sreg.specs.declared.EventState.{EventState}
use Rattle.sreg.specs.declared.EventState.TheVariants.{Outside}
use Rattle.sreg.specs.declared.Ended.{Ended}

-- the scores of the seconds, from a state on
unfoldable pub scores_from : EventState → ℤ → List ℤ → List ℤ → List ℕ
scores_from state capacity [] fs = []
scores_from state capacity (p ∷ ps) [] = []
scores_from state capacity (p ∷ ps) (f ∷ fs) = score_in state p f capacity ∷ scores_from (next_state state p f) capacity ps fs

-- and the state that they end in
unfoldable pub state_after : EventState → List ℤ → List ℤ → EventState
state_after state [] fs = state
state_after state (p ∷ ps) [] = state
state_after state (p ∷ ps) (f ∷ fs) = state_after (next_state state p f) ps fs

-- 1, 2, 4. "4 also for a handed-in state that no hour can end in"
unfoldable pub sreg_scores_refusal : List ℤ → List ℤ → Kilowatts → EventState → ℕ → ℕ
sreg_scores_refusal powers frequencies capacity state places =
    in_order (
    (eqb (length powers) seconds_of_hour && eqb (length frequencies) seconds_of_hour && eqb places seconds_of_hour, wrong_length)
    ∷ (is_capacity capacity.0, bad_capacity)
    ∷ (is_state state && (are_powers powers && are_frequencies frequencies), bad_reading)
    ∷ [])

-- the answer: the refusal, and the state that the seconds end in, `Outside` beside a refusal
unfoldable pub sreg_ended : List ℤ → List ℤ → Kilowatts → EventState → ℕ → Ended
sreg_ended powers frequencies capacity state places =
    let k = sreg_scores_refusal powers frequencies capacity state places in
    record { refusal = k; state = kept k (state_after state powers frequencies) Outside }

-- what the call leaves in the lent run
unfoldable pub sreg_scores_left : List ℤ → List ℤ → Kilowatts → EventState → List ℕ → List ℕ
sreg_scores_left powers frequencies capacity state run =
    kept (sreg_scores_refusal powers frequencies capacity state (length run)) (scores_from state capacity.0 powers frequencies) run
