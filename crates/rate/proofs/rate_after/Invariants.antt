-- The loop's invariant: what is kept is whether the scores passed are at most 100, and the answer is what comes of the scores that are left, from the last three and the smallest
-- rate so far.
use Rattle.std.proofs.Common.{◌≡◌, drop}
use Rattle.whole.specs.Folds.{all_to}
use Rattle.units.specs.Limits.{most_score}
use Rattle.rate.specs.Rolling.{smallest_from, is_score_at}
use Rattle.rate.specs.Inner.{carried}
use Rattle.rate.proofs.rate_after.Given as goal

abbrev pub invariant-loop-x : goal.invariant-loop-x
invariant-loop-x l =
    record {
      passed : all_to l.x-index (is_score_at l.scores) ≡ l.all;
      left : smallest_from most_score (carried l.last l.second l.third l.scores) ≡ smallest_from l.low (carried l.a l.b l.c (drop l.x-index l.scores));
    }
