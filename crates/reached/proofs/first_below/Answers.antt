-- `reached::first_below` meets its contract: a window's next score, and a second more. Assumes nothing.
use Rattle.std.proofs.Common.{◌≡◌, ◌+◌, length, get_or, sym, ◌∙◌, arith}
use Rattle.reached.specs.Reached.{window_at}
use Rattle.reached.proofs.Windows.{window_long, window_at_lem}
use Rattle.reached.proofs.Judging.{read_to_more, read_to_met, read_to_all, judging_none, judging_more, judging_named, judging_all}
use Rattle.reached.proofs.first_below.Goals as goal

pub seconds-init : goal.seconds-init
seconds-init c = record { most = omega arith; judging = judging_none _ _ _ }

pub seconds-preserved : goal.seconds-preserved
seconds-preserved c =
    let a = c.args in
    let i = c.seconds.i in
    let k = c.loop-k.k in
    let w = c.width-width.ensures in
    let long : length (window_at a.earlier.now a.scores.now i) ≡ c.width-width.result = window_long a.earlier.now a.scores.now i (omega arith) ∙ sym w in
    let score : get_or (window_at a.earlier.now a.scores.now i) k 0 ≡ c.score_back-score.result = rw c.score_back-score.ensures (window_at_lem a.earlier.now a.scores.now i k (omega arith) (omega arith) (omega arith)) in
    let met = read_to_met _ _ k c.loop-k.invariant.below (omega arith) (omega arith) in
    let read : c.loop-k.read + 1 ≡ c.seconds.read + (k + 1) = omega (arith, c.loop-k.invariant.count) in
    record { most = omega (arith, c.loop-k.invariant.count, c.seconds.invariant.most); judging = rw read (judging_more _ _ _ _ _ c.seconds.invariant.judging (omega arith) met) }

pub loop-k-preserved : goal.loop-k-preserved
loop-k-preserved c =
    let a = c.args in
    let i = c.seconds.i in
    let k = c.loop-k.k in
    let w = c.width-width.ensures in
    let long : length (window_at a.earlier.now a.scores.now i) ≡ c.width-width.result = window_long a.earlier.now a.scores.now i (omega arith) ∙ sym w in
    let score : get_or (window_at a.earlier.now a.scores.now i) k 0 ≡ c.score_back-score.result = rw c.score_back-score.ensures (window_at_lem a.earlier.now a.scores.now i k (omega arith) (omega arith) (omega arith)) in
    record { count = omega (arith, c.loop-k.invariant.count); below = read_to_more _ _ k c.loop-k.invariant.below (omega arith) (omega arith) }

pub returns-after-loop-k : goal.returns-after-loop-k
returns-after-loop-k c =
    let a = c.args in
    let i = c.seconds.i in
    let w = c.width-width.ensures in
    let long : length (window_at a.earlier.now a.scores.now i) ≡ c.width-width.result = window_long a.earlier.now a.scores.now i (omega arith) ∙ sym w in
    let read : c.loop-k.read ≡ c.seconds.read + c.loop-k.k = c.loop-k.invariant.count in
    rw read (sym (judging_named _ _ _ _ _ c.seconds.invariant.judging (omega arith) (read_to_all _ _ _ c.loop-k.invariant.below (omega arith))))

pub returns-after-seconds : goal.returns-after-seconds
returns-after-seconds c =
    let n : c.seconds.i ≡ length c.args.scores.now = omega arith in
    rw (sym n) (sym (judging_all _ _ _ _ _ c.seconds.invariant.judging (omega arith) (omega arith)))
