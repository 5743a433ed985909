-- `lines::end_of` meets its contract: past a block the line ends where it did, and there by the first place that is a line end.
use Rattle.std.proofs.Common.{arith, ◌∙◌, ap, length, take, drop, ◌-◌}
use Rattle.std.specs.Option.{unwrap_or}
use Rattle.lines.specs.Lines.{before_end}
use Rattle.lines.proofs.Lines.{first_or_all, to_the_end}
use Rattle.lines.proofs.end_of.Goals as goal

pub returns : goal.returns
returns c =
    let bytes = c.args.bytes.now in
    let from = c.passed-passed.result in
    let rest = take (length bytes - from) (drop from bytes) in
    let place = c.unwrap_or.ensures ∙ ap (λ o. unwrap_or o (length rest)) c.first_end.ensures ∙ first_or_all rest in
    omega (arith, place, ap (λ r. length (before_end r)) (to_the_end bytes from), c.passed-passed.ensures.end)
