-- `hours::settle_kind` meets its contract: by the kind of hour. Assumes nothing.
use mathlib.Core.Path.{ap, ◌∙◌}
use borrow.Author.Rules.{rules}
use Rattle.hours.specs.Hours.{stateless}
use Rattle.hours.proofs.settle_kind.Statement.{statement}
use Rattle.hours.proofs.settle_kind.Tie as tie

enum_told : tie.Need-enum_told-1
enum_told c = search rules

dreg_hour_requires : tie.Need-dreg_hour-requires
dreg_hour_requires c κs = search rules

stateless_requires : tie.Need-stateless-requires
stateless_requires c κs = search rules

enum_told_2 : tie.Need-enum_told-in-Edreg
enum_told_2 c = search rules

hour_requires : tie.Need-hour-requires
hour_requires c κs = search rules

stateless_requires_2 : tie.Need-stateless-requires-in-Edreg
stateless_requires_2 c κs = search rules

enum_told_3 : tie.Need-enum_told-in-Sreg
enum_told_3 c = search rules

sreg_hour_requires : tie.Need-sreg_hour-requires
sreg_hour_requires c κs = search rules

same_length : tie.Need-shape_of-scores-in-Dreg
same_length c = search rules

returns : tie.Need-returns-in-Dreg
returns c =
    let w = c in
    rw w.in-Dreg.is (c.stateless.ensures ∙ ap stateless w.dreg_hour.ensures.0, w.dreg_hour.ensures.1)

same_length_2 : tie.Need-shape_of-scores-in-Edreg
same_length_2 c = search rules

returns_2 : tie.Need-returns-in-Edreg
returns_2 c =
    let w = c in
    rw w.in-Edreg.is (c.stateless-in-Edreg.ensures ∙ ap stateless w.hour.ensures.0, w.hour.ensures.1)

same_length_3 : tie.Need-shape_of-scores-in-Sreg
same_length_3 c = search rules

returns_3 : tie.Need-returns-in-Sreg
returns_3 c =
    let w = c in
    rw w.in-Sreg.is (w.sreg_hour.ensures.0, w.sreg_hour.ensures.1)

pub settle_kind_spec : {M : Type 1} → statement M
settle_kind_spec =
    tie.close
    (tie.spec
    enum_told
    dreg_hour_requires
    stateless_requires
    enum_told_2
    hour_requires
    stateless_requires_2
    enum_told_3
    sreg_hour_requires
    same_length
    returns
    same_length_2
    returns_2
    same_length_3
    returns_3)
