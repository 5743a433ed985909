-- `month::standing_on`: a mark more, and at the end how many of the marks there are is the count by their places. Assumes nothing.
use Rattle.std.proofs.Common.{rules, ◌≡◌, ◌∙◌, ap, arith, false, get_or, take, take_all}
use Rattle.std.specs.List.{count_by}
use Rattle.units.specs.Limits.{month_places}
use Rattle.month.proofs.Core.{mark_more, byte_le, marks_counted}
use Rattle.month.proofs.standing_on.Goals as goal

pub loop-mark-init : goal.loop-mark-init
loop-mark-init c = record { most = omega arith; count = search rules }

pub overflow_add-standing : goal.overflow_add-standing
overflow_add-standing c = record { fits = omega (arith, c.loop-mark.invariant.most, byte_le (get_or c.args.marks.now c.loop-mark.mark-index false), c.from-standing.ensures) }

pub loop-mark-preserved : goal.loop-mark-preserved
loop-mark-preserved c =
    let xs = c.args.marks.now in
    let i = c.loop-mark.mark-index in
    let one = c.from-standing.ensures in
    let more = mark_more xs i (omega (arith, c.told-marks)) in
    record { most = omega (arith, c.loop-mark.invariant.most, byte_le (get_or xs i false), one); count = omega (arith, c.loop-mark.invariant.count, one, more) }

pub returns : goal.returns
returns c =
    let xs = c.args.marks.now in
    let i : c.loop-mark.mark-index ≡ month_places = omega arith in
    let all : take c.loop-mark.mark-index xs ≡ xs = take_all _ xs (omega (arith, c.told-marks, i)) in
    c.loop-mark.invariant.count ∙ ap (count_by (λ x. x)) all ∙ marks_counted xs month_places (omega (arith, c.told-marks))
