-- What is read of the bytes, each number as the library reads it.
use Rattle.std.proofs.Common.{rules, ◌≡◌}
use Rattle.std.specs.Prelude.{Ok}
use Rattle.frame.specs.Frame.{opened_of}
use Rattle.pair_frame.proofs.PairFrames.{sent_read}
use Rattle.pair_frame.proofs.read_pair.Goals as goal

pub returns : goal.returns
returns c =
    let e : opened_of c.args.line.now ≡ Ok c.in_ok-bytes.bytes = search rules in
    rw (c.two.ensures, c.four.ensures, c.four-2.ensures)
    (sent_read c.args.line.now c.in_ok-bytes.bytes e c.if-bytes-ne-KIND.false)
