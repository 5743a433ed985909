-- `records::factor_of` meets its contract: columns answer as the records that were gathered into them.
use Rattle.std.proofs.Common.{ap, ◌∙◌}
use Rattle.records.specs.Inner.{gathered_answer}
use Rattle.records.specs.declared.Columns.{Columns}
use Rattle.records.proofs.Gathering.{answer_in_lem}
use Rattle.records.proofs.factor_of.Goals as goal

pub returns : goal.returns
returns c = c.factor_in.ensures ∙ ap (λ (x : Columns). gathered_answer x c.args.rate) c.columns_of.ensures ∙ answer_in_lem c.args.bands.now c.args.rate
