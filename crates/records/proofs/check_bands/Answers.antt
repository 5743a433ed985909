-- `records::check_bands` meets its contract: columns are refused as the records that were gathered into them.
use Rattle.std.proofs.Common.{ap, ◌∙◌}
use Rattle.records.specs.Inner.{refusal_in}
use Rattle.records.proofs.Gathering.{refusal_in_lem}
use Rattle.records.proofs.check_bands.Goals as goal

pub returns : goal.returns
returns c = c.check_columns.ensures ∙ ap refusal_in c.columns_of.ensures ∙ refusal_in_lem c.args.bands.now
