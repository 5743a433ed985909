-- The loop's invariant: every second passed fits.
use Rattle.std.proofs.Common.{◌≡◌, true}
use Rattle.whole.specs.Folds.{all_to}
use Rattle.score.specs.Inner.{fit_at}
use Rattle.score.proofs.seconds_fit.Given as goal

abbrev pub invariant-loop-i : goal.invariant-loop-i
invariant-loop-i l = all_to l.i (fit_at l.powers l.frequencies l.transfers) ≡ true
