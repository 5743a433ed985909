-- `question::lines::put_fields` meets its contract. The loop's invariant: what is left to put, put here, gives the whole. Assumes nothing.
use Rattle.std.proofs.Common.{drop}
use Rattle.question.proofs.LineLaws.{Far, Left}
use Rattle.question.proofs.lines.put_fields.Given as goal

abbrev pub invariant-loop-z : goal.invariant-loop-z
invariant-loop-z l = record {
  far : Far l.at l.fields l.to l.z-index;
  left : Left l.initial.out l.at l.fields l.out l.to (drop l.z-index l.fields);
}
