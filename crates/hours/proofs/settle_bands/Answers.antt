-- `hours::settle_bands` meets its contract: the front of each column and of the earlier scores is lent to the hour. Assumes nothing.
use Rattle.std.proofs.Common.{List, ℤ, length, ap, ap₂, ◌∙◌}
use Rattle.numbers.specs.Numbers.{column}
use Rattle.numbers.specs.Inner.{taken}
use Rattle.numbers.proofs.Columns.{front}
use Rattle.hours.specs.Hours.{service_of, hour_from, ended_by, left_by}
use Rattle.hours.proofs.settle_bands.Goals as goal

pub returns : goal.returns
returns c =
    let a = c.args in
    let bands = a.bands.now in
    let p = c.pairs_in-n.ensures in
    let t = (front _ _ _ _ 100 p.most c.column.ensures).is ∙ ap (column bands 0) p.is in
    let g = (front _ _ _ _ 100 p.most c.column-2.ensures).is ∙ ap (column bands 1) p.is in
    record {
      answers = c.settle_kind.ensures.answers ∙ ap₂ (λ (t g : List ℤ). ended_by a.hour a.state (hour_from a.powers.now a.frequencies.now a.terms a.reference (service_of a.hour a.shift) t g (taken a.before)) (length a.scores.now)) t g;
      leaves = c.settle_kind.ensures.leaves ∙ ap₂ (λ (t g : List ℤ). left_by a.hour a.state (hour_from a.powers.now a.frequencies.now a.terms a.reference (service_of a.hour a.shift) t g (taken a.before)) a.scores.now) t g;
    }
