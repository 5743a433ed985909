-- `rate::rate_after` meets its contract: a score more is one test and one window more. Assumes nothing.
use Rattle.std.proofs.Common.{◌≡◌, Bool, true, ◌&&◌, length, refl, ap, ◌∙◌, arith}
use Rattle.whole.proofs.Folds.{fold_none, fold_step}
use Rattle.whole.proofs.Runs.{rest, no_rest}
use Rattle.rate.specs.Rolling.{is_score_at, are_scores}
use Rattle.rate.specs.Inner.{rate_after}
use Rattle.rate.proofs.rate_after.Goals as goal

pub loop-x-init : goal.loop-x-init
loop-x-init c = record { passed = fold_none true ◌&&◌ _; left = refl }

pub loop-x-preserved : goal.loop-x-preserved
loop-x-preserved c =
    let l = c.loop-x in
    let s = c.args.scores.now in
    let next = rw (rest s l.x-index 0 (omega arith)) at l.invariant.left in
    record {
      passed = fold_step true ◌&&◌ _ _ ∙ ap (λ (b : Bool). b && is_score_at s l.x-index) l.invariant.passed;
      left = cc;
    }

pub returns-then-all : goal.returns-then-all
unfolding rate_after are_scores
returns-then-all c =
    let n : c.loop-x.x-index ≡ length c.args.scores.now = omega arith in
    let low = rw (no_rest c.args.scores.now c.loop-x.x-index (omega arith)) at c.loop-x.invariant.left in
    rw ((rw n at c.loop-x.invariant.passed) ∙ c.if-all.true, low)

pub returns-else-all : goal.returns-else-all
unfolding rate_after are_scores
returns-else-all c =
    let n : c.loop-x.x-index ≡ length c.args.scores.now = omega arith in
    rw ((rw n at c.loop-x.invariant.passed) ∙ c.if-all.false) c.no_rate.ensures
