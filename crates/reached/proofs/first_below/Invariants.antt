-- The outer loop's invariant: the seconds passed are judged, and none is named; the inner one's: the scores of the window that were read are all below.
use Rattle.std.proofs.Common.{◌≡◌, ◌+◌, ◌*◌, ◌≤◌}
use Rattle.reached.specs.Reached.{window_at}
use Rattle.reached.proofs.Judging.{ReadTo, Judging}
use Rattle.reached.proofs.first_below.Given as goal

abbrev pub invariant-seconds : goal.invariant-seconds
invariant-seconds l = record { most : l.read ≤ 4 * l.i; judging : Judging l.earlier l.scores l.threshold l.i l.read }

abbrev pub invariant-loop-k : goal.invariant-loop-k
invariant-loop-k l = record { count : l.read ≡ l.initial.read + l.k; below : ReadTo l.threshold (window_at l.earlier l.scores l.i) l.k }
