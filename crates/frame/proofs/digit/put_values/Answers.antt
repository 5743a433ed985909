-- `frame::digit::put_values` meets its contract: the bytes put, and then those of the digits that are left, are the bytes of all.
use Rattle.std.proofs.Common.{rules, ◌≡◌, ◌<◌, length}
use Rattle.frame.proofs.Digits.{two_next, decode_next}
use Rattle.frame.proofs.digit.put_values.Goals as goal

pub loop-i-preserved : goal.loop-i-preserved
loop-i-preserved c =
    let l = c.loop-i in
    let more : l.i < length l.bytes = search rules in
    let same : length l.bytes ≡ length c.args.bytes.now = search rules in (
      (two_next c.args.line.now l.bytes _ _ c.requires.line_len same l.invariant.0 more).2,
      rw c.byte.ensures (decode_next c.args.line.now l.bytes _ _ c.requires.line_len same l.invariant.1 more),
    )
