-- `frame::close_line` meets its contract: the digits of eleven bytes and their sum.
use Rattle.std.proofs.Common.{rules, ◌≡◌, ◌∙◌, ap, length}
use Rattle.frame.specs.Digits.{digits_of}
use Rattle.frame.proofs.Frames.{put_sum, close_length, close_right}
use Rattle.frame.proofs.close_line.Goals as goal

pub returns-then-line-ne-LINE : goal.returns-then-line-ne-LINE
returns-then-line-ne-LINE c = close_length c.args.bytes c.args.line.now c.if-line-ne-LINE.true

pub returns : goal.returns
returns c =
    let bytes = c.args.bytes in
    let twelve : length bytes ≡ 12 = search rules in
    let right = close_right bytes c.args.line.now c.if-line-ne-LINE.false in
    (right.0, c.encode.ensures ∙ ap digits_of (put_sum bytes _ twelve c.sum.ensures) ∙ right.1)
