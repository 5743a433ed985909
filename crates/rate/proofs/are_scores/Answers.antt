-- `rate::are_scores` meets its contract: a score more is one test more. Assumes nothing.
use Rattle.std.proofs.Common.{◌≡◌, Bool, true, ◌&&◌, length, sym, ap, ◌∙◌, arith}
use Rattle.whole.proofs.Folds.{fold_none, fold_step}
use Rattle.rate.specs.Rolling.{is_score_at, are_scores}
use Rattle.rate.proofs.are_scores.Goals as goal

pub loop-score-init : goal.loop-score-init
loop-score-init c = fold_none true ◌&&◌ _

pub loop-score-preserved : goal.loop-score-preserved
loop-score-preserved c =
    let l = c.loop-score in
    fold_step true ◌&&◌ _ _ ∙ ap (λ (b : Bool). b && is_score_at c.args.scores.now l.score-index) l.invariant

pub returns : goal.returns
unfolding are_scores
returns c =
    let n : c.loop-score.score-index ≡ length c.args.scores.now = omega arith in
    sym (rw n at c.loop-score.invariant)
