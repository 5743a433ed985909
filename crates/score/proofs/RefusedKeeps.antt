-- A refused second has its number and 0 beside it, and a refused run stays as it was: each goes by the call's number. Assumes nothing.
use mathlib.Core.Path.{refl}
use Rattle.whole.specs.Refused.{RefusedBare, RefusedKeeps}
use Rattle.whole.proofs.Refused.{refused_bare, number_left}
use Rattle.score.specs.Score.{second_refusal, no_score, second_score}
use Rattle.score.specs.Run.{run_left}
use Rattle.score.specs.declared.Scored.{Scored}
use Rattle.score.specs.Calls.{scores_run}
use Rattle.score.proofs.second_score.Reads as second_score_lem
use Rattle.score.proofs.second_score.Kinds as second_score_kinds
use Rattle.score.proofs.run_scores.Reads as run_scores_lem
use Rattle.score.proofs.run_scores.Kinds as run_scores_kinds

second_score_refused_keeps : RefusedBare 0 second_score_kinds.ps second_score_kinds.r (λ κs x. x.refusal) (λ κs a. no_score) second_score_lem.Post
unfolding second_score
second_score_refused_keeps κs (power, (transfer, (capacity, (frequency, (reference, end))))) x s p f =
    refused_bare (λ (r : Scored). r.refusal) no_score (second_refusal power transfer capacity frequency reference) _ refl refl p f

run_scores_refused_keeps : RefusedKeeps 4 run_scores_kinds.ps run_scores_kinds.r (λ κs x. x) (λ κs a k. k) scores_run scores_run run_scores_lem.Post
unfolding run_left
run_scores_refused_keeps κs a x s p f = (refl, number_left _ _ p.0 p.1 f)
