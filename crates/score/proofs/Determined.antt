-- Answers that meet a public function's contract are equal, and so is what each leaves in the lent run: each contract is made of
-- equations. Assumes nothing.
use mathlib.Core.Path.{sym, ◌∙◌}
use Rattle.whole.specs.Determined.{Determined, LeftDetermined}
use Rattle.score.specs.Calls.{scores_run}
use Rattle.score.proofs.second_score.Reads as second_score_lem
use Rattle.score.proofs.second_score.Kinds as second_score_kinds
use Rattle.score.proofs.run_scores.Reads as run_scores_lem
use Rattle.score.proofs.run_scores.Kinds as run_scores_kinds

second_score_determined : Determined 0 second_score_kinds.ps second_score_kinds.r second_score_lem.Post
second_score_determined κs a x y s t p q = p ∙ sym q

run_scores_determined : Determined 4 run_scores_kinds.ps run_scores_kinds.r run_scores_lem.Post
run_scores_determined κs a x y s t p q = p.0 ∙ sym q.0

run_scores_run_determined : LeftDetermined 4 run_scores_kinds.ps run_scores_kinds.r scores_run run_scores_lem.Post
run_scores_run_determined κs a x y s t p q = p.1 ∙ sym q.1
