-- `numbers::column` meets its contract. The loop's invariant: the run is filled up to i.
use Rattle.std.proofs.Common.{rules, ◌≡◌, ◌<◌, ℕ, ◌+◌, ◌*◌, length}
use mir.Syntax.{w64}
use Rattle.whole.specs.Choice.{pick}
use Rattle.whole.proofs.Runs.{filled_next}
use Rattle.whole.proofs.Signed.{back}
use Rattle.numbers.specs.Numbers.{number}
use Rattle.numbers.proofs.column.Goals as goal

pub loop-i-preserved : goal.loop-i-preserved
loop-i-preserved c =
    let i = c.loop-i.i in
    let more : i < length c.args.run.now = search rules in
    let start : c.from-start.result ≡ pick c.args.second 1 0 = search rules in
    rw (back w64 c.at.type_inv c.at.ensures, start, c.loop-i.invariant)
    (filled_next (λ (k : ℕ). number c.args.pairs.now (pick c.args.second 1 0 + 2 * k)) c.args.run.now i more)
