-- The loop's invariant: what is kept is whether the scores passed are at most 100.
use Rattle.std.proofs.Common.{◌≡◌}
use Rattle.whole.specs.Folds.{all_to}
use Rattle.rate.specs.Rolling.{is_score_at}
use Rattle.rate.proofs.are_scores.Given as goal

abbrev pub invariant-loop-score : goal.invariant-loop-score
invariant-loop-score l = all_to l.score-index (is_score_at l.scores) ≡ l.all
