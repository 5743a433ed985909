-- The loop's invariant: the marks passed are counted.
use Rattle.std.proofs.Common.{◌≡◌, ◌≤◌, take}
use Rattle.std.specs.List.{count_by}
use Rattle.month.proofs.standing_on.Given as goal

abbrev pub invariant-loop-mark : goal.invariant-loop-mark
invariant-loop-mark l = record { most : l.standing ≤ l.mark-index; count : l.standing ≡ count_by (λ x. x) (take l.mark-index l.marks) }
