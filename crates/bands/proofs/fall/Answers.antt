-- `bands::fall` meets its contract: the library tests each threshold with the next. Assumes nothing.
use Rattle.std.proofs.Common.{rules}
use Rattle.std.specs.Int.Signed.{lt_z}
use Rattle.std.proofs.lemmas.List.Sorted.{answers_always}
use Rattle.bands.proofs.Steps.{fall_is}
use Rattle.bands.proofs.fall.Goals as goal

pub returns : goal.returns
returns c = fall_is _ _ (c.is_sorted_by.ensures.cases (λ here next. lt_z next here) (answers_always _ _ _ (λ f a r g p. search rules)))
