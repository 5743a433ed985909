-- `numbers::byte_of` meets its contract: what a byte holds, or 255.
use Rattle.std.proofs.Common.{◌∙◌}
use mir.Facts.{to_z-of_z}
use Rattle.numbers.proofs.Laws.{byte_read}
use Rattle.numbers.proofs.byte_of.Goals as goal

pub returns : goal.returns
returns c =
    c.unwrap_or.ensures ∙ byte_read c.args.z c.try_from.result (rw (to_z-of_z c.ranges.z) at c.try_from.ensures)
