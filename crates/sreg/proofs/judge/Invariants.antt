-- `sreg::judge` meets its contract. The loop's invariant: the first i readings fit, the state is what they end in, and the first i places hold their scores.
use Rattle.std.proofs.Common.{ℕ, ◌≡◌, take, List, get_or}
use Rattle.std.specs.Prelude.{true, ℤ}
use Rattle.whole.specs.Folds.{all_to}
use Rattle.whole.specs.Runs.{filled}
use Rattle.units.specs.declared.Kilowatts.{Kilowatts}
use Rattle.sreg.specs.Second.{is_state}
use Rattle.sreg.specs.Run.{scores_from, state_after}
use Rattle.sreg.specs.Inner.{read_at, state_of}
use Rattle.sreg.specs.declared.EventState.{EventState}
use Rattle.sreg.proofs.judge.Given as goal

-- the score at a place
abbrev pub rule : EventState → Kilowatts → List ℤ → List ℤ → ℕ → ℕ
rule state capacity powers frequencies k = get_or (scores_from state capacity.0 powers frequencies) k 0

abbrev pub invariant-loop-i : goal.invariant-loop-i
invariant-loop-i l =
    (is_state (state_of l.reached) ≡ true) × (all_to l.i (read_at l.powers l.frequencies) ≡ true)
    × (state_of l.reached ≡ state_after l.fn.state (take l.i l.powers) (take l.i l.frequencies)) × (l.scores ≡ filled (rule l.fn.state l.fn.capacity l.powers l.frequencies) 0 l.fn.scores l.i)
