-- `numbers::fill_bytes` meets its contract. The loop's invariant: the run is filled up to i.
use Rattle.std.proofs.Common.{rules, ◌<◌, ℕ, length}
use mir.Syntax.{w64}
use Rattle.whole.proofs.Runs.{filled_next}
use Rattle.whole.proofs.Signed.{back}
use Rattle.numbers.specs.Numbers.{number, byte_of}
use Rattle.numbers.proofs.fill_bytes.Goals as goal

pub loop-i-preserved : goal.loop-i-preserved
loop-i-preserved c =
    let i = c.loop-i.i in
    let more : i < length c.args.run.now = search rules in
    rw (c.byte_of.ensures, back w64 c.at.type_inv c.at.ensures, c.loop-i.invariant)
    (filled_next (λ (k : ℕ). byte_of (number c.args.numbers.now k)) c.args.run.now i more)
