-- The loop's invariant: the first i places hold the first i scores.
use Rattle.std.proofs.Common.{◌≡◌}
use Rattle.whole.specs.Runs.{filled}
use Rattle.score.specs.Run.{run_score_at}
use Rattle.score.proofs.fill_by.Given as goal

abbrev pub invariant-loop-i : goal.invariant-loop-i
invariant-loop-i l = l.scores ≡ filled (run_score_at l.powers l.frequencies l.transfers l.capacity l.reference) 0 l.initial.scores l.i
