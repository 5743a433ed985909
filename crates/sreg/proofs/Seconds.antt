-- A run of seconds: cut anywhere, it scores as its parts do, the second from the state that the first ends in; second by second; how large its scores are.
-- By induction on the seconds. Assumes nothing.
use Prim.Native.Nat.{ℕ, zero, suc, ◌+◌, ◌<◌, ◌≤◌}
use mathlib.Core.Path.{◌≡◌, refl, ap}
use mathlib.Core.Bool.{true, false}
use mathlib.Core.List.{List, [], ◌∷◌, ◌++◌}
use native.Mathlib.Nat.{not-suc-le-zero, le_of_suc-le-suc}
use native.Mathlib.Numerals.{add-one}
use native.Mathlib.Omega.{arith}
use lib.IntN.{ℤ, pos}
use lib.ListN.{length, get_or, take}
use Rattle.whole.proofs.Choice.{by_test}
use Rattle.sreg.specs.Second.{next_state, percent_of, score_in, starts}
use Rattle.sreg.specs.Run.{scores_from, state_after}
use Rattle.sreg.specs.declared.EventState.{EventState}
use Rattle.sreg.specs.declared.EventState.TheVariants.{Outside, Responding, Holding, Recovering}

-- ---- cut anywhere

pub state_cut : (state : EventState) (ps fs ps' fs' : List ℤ) → length ps ≡ length fs → state_after state (ps ++ ps') (fs ++ fs') ≡ state_after (state_after state ps fs) ps' fs'
unfolding state_after
state_cut state [] [] ps' fs' e = refl
state_cut state [] (f ∷ fs) ps' fs' e = absurd (omega arith)
state_cut state (p ∷ ps) [] ps' fs' e = absurd (omega arith)
state_cut state (p ∷ ps) (f ∷ fs) ps' fs' e = state_cut (next_state state p f) ps fs ps' fs' (omega arith)

pub scores_cut : (state : EventState) (capacity : ℤ) (ps fs ps' fs' : List ℤ) → length ps ≡ length fs
    → scores_from state capacity (ps ++ ps') (fs ++ fs') ≡ scores_from state capacity ps fs ++ scores_from (state_after state ps fs) capacity ps' fs'
unfolding scores_from state_after
scores_cut state capacity [] [] ps' fs' e = refl
scores_cut state capacity [] (f ∷ fs) ps' fs' e = absurd (omega arith)
scores_cut state capacity (p ∷ ps) [] ps' fs' e = absurd (omega arith)
scores_cut state capacity (p ∷ ps) (f ∷ fs) ps' fs' e =
    rw (scores_cut (next_state state p f) capacity ps fs ps' fs' (omega arith))

-- ---- second by second

pub length_scores : (state : EventState) (capacity : ℤ) (ps fs : List ℤ) → length ps ≡ length fs → length (scores_from state capacity ps fs) ≡ length ps
unfolding scores_from
length_scores state capacity [] fs e = refl
length_scores state capacity (p ∷ ps) [] e = absurd (omega arith)
length_scores state capacity (p ∷ ps) (f ∷ fs) e = ap suc (length_scores (next_state state p f) capacity ps fs (omega arith))

-- the score at place i is by the state that the i seconds before end in
pub score_at : (state : EventState) (capacity : ℤ) (ps fs : List ℤ) (i : ℕ) → length ps ≡ length fs → i < length ps
    → get_or (scores_from state capacity ps fs) i 0 ≡ score_in (state_after state (take i ps) (take i fs)) (get_or ps i (pos 0)) (get_or fs i (pos 0)) capacity
unfolding scores_from state_after
score_at state capacity [] fs i e h = absurd (not-suc-le-zero h)
score_at state capacity (p ∷ ps) [] i e h = absurd (omega arith)
score_at state capacity (p ∷ ps) (f ∷ fs) zero e h = refl
score_at state capacity (p ∷ ps) (f ∷ fs) (suc i) e h = score_at (next_state state p f) capacity ps fs i (omega arith) (le_of_suc-le-suc h)

-- the state before the first second, and after one second more
pub state_none : (state : EventState) (ps fs : List ℤ) → state ≡ state_after state (take 0 ps) (take 0 fs)
unfolding state_after
state_none state ps fs = refl

pub state_step : (state : EventState) (ps fs : List ℤ) (i : ℕ) → length ps ≡ length fs → i < length ps
    → state_after state (take (i + 1) ps) (take (i + 1) fs) ≡ next_state (state_after state (take i ps) (take i fs)) (get_or ps i (pos 0)) (get_or fs i (pos 0))
unfolding state_after
state_step state ps fs i e h = rw add-one (go state ps fs i e h)
  where
    go : (state : EventState) (ps fs : List ℤ) (i : ℕ) → length ps ≡ length fs → i < length ps
        → state_after state (take (suc i) ps) (take (suc i) fs) ≡ next_state (state_after state (take i ps) (take i fs)) (get_or ps i (pos 0)) (get_or fs i (pos 0))
    go state [] fs i e h = absurd (not-suc-le-zero h)
    go state (p ∷ ps) [] i e h = absurd (omega arith)
    go state (p ∷ ps) (f ∷ fs) zero e h = refl
    go state (p ∷ ps) (f ∷ fs) (suc i) e h = go (next_state state p f) ps fs i (omega arith) (le_of_suc-le-suc h)

-- ---- scores are from 0 to 100

pub score_most : (state : EventState) (p f capacity : ℤ) → score_in state p f capacity ≤ 100
unfolding percent_of
score_most Outside p f capacity =
    by_test (starts f) (λ (t : starts f ≡ true). rw t (omega arith)) (λ (t : starts f ≡ false). rw t (omega arith))
score_most (Responding start scored) p f capacity = omega arith
score_most (Holding start) p f capacity = omega arith
score_most (Recovering left) p f capacity = omega arith

pub scores_most : (state : EventState) (capacity : ℤ) (ps fs : List ℤ) (i : ℕ) → get_or (scores_from state capacity ps fs) i 0 ≤ 100
unfolding scores_from
scores_most state capacity [] fs i = omega arith
scores_most state capacity (p ∷ ps) [] i = omega arith
scores_most state capacity (p ∷ ps) (f ∷ fs) zero = score_most state p f capacity
scores_most state capacity (p ∷ ps) (f ∷ fs) (suc i) = scores_most (next_state state p f) capacity ps fs i
