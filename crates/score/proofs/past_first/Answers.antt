-- `score::past_first` meets its contract: of a frequency and a reference in their ranges both differences fit 64 bits. Assumes nothing.
use Rattle.std.proofs.Common.{SFits, w64, rules}
use Rattle.std.proofs.Math.Facts.{to_z-of_z}
use Rattle.curve.proofs.Limits.{past_fits}
use Rattle.score.proofs.past_first.Goals as goal

pub overflow_sub-result : goal.overflow_sub-result
overflow_sub-result c =
    let r : SFits w64 c.args.reference.0 = search rules in
    rw (to_z-of_z r) (past_fits c.args.reference.0 c.args.frequency.0 c.requires.reference c.requires.frequency).first

pub overflow_sub-result-2 : goal.overflow_sub-result-2
overflow_sub-result-2 c =
    let r : SFits w64 c.args.reference.0 = search rules in
    let f : SFits w64 c.args.frequency.0 = search rules in
    let fit = past_fits c.args.reference.0 c.args.frequency.0 c.requires.reference c.requires.frequency in
    rw (to_z-of_z r, to_z-of_z fit.first, to_z-of_z f) fit.past

pub returns : goal.returns
returns c =
    let r : SFits w64 c.args.reference.0 = search rules in
    let f : SFits w64 c.args.frequency.0 = search rules in
    let fit = past_fits c.args.reference.0 c.args.frequency.0 c.requires.reference c.requires.frequency in
    rw (to_z-of_z r, to_z-of_z fit.first, to_z-of_z f, to_z-of_z fit.past)
