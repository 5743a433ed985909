-- `score::fill` meets its contract: a run that is not refused has a capacity. Assumes nothing.
use Rattle.whole.proofs.Signed.{inside}
use Rattle.score.proofs.Run.{run_fit}
use Rattle.score.proofs.fill.Goals as goal

pub inverse-requires : goal.inverse-requires
inverse-requires c = inside (run_fit _ _ _ _ _ _ c.requires).capacity_fits
