-- `ramp::fill_hour` meets its contract: each turn puts in one quarter of the plan. Assumes nothing.
use Rattle.std.proofs.Common.{◌≡◌, ℕ, ◌+◌, ◌*◌, ◌-◌, ◌<◌, pos, sym, ap, ◌∙◌, arith, rules, zero-add, SFits, w64}
use Rattle.std.proofs.Math.Facts.{to_z-of_z}
use Rattle.std.proofs.Math.ListN.{get_or}
use borrow.Rule.Slice.PartMut.{mid_len}
use Rattle.whole.specs.Runs.{filled}
use Rattle.whole.specs.Whole.{minus, Within}
use Rattle.whole.proofs.Runs.{filled_part, filled_all}
use Rattle.whole.proofs.Sums.{in_within, all_inside}
use Rattle.units.specs.Limits.{most_transfer, seconds_of_quarter, seconds_of_hour}
use Rattle.ramp.specs.Ramp.{transfer_at}
use Rattle.ramp.proofs.Laws.{plan_fit, plan_quarter, plan_is}
use Rattle.ramp.proofs.fill_hour.Goals as goal

pub slice_bounds-quarter-end : goal.slice_bounds-quarter-end
slice_bounds-quarter-end c = let long = (plan_fit _ _ c.requires).long in omega arith

pub bounds-targets-q : goal.bounds-targets-q
bounds-targets-q c = let five = (plan_fit _ _ c.requires).five in omega arith

pub bounds-targets-q-in-loop-q : goal.bounds-targets-q-in-loop-q
bounds-targets-q-in-loop-q c = let five = (plan_fit _ _ c.requires).five in omega arith

-- a quarter's places
sub_add : (a : ℕ) → a + seconds_of_quarter - a ≡ seconds_of_quarter
sub_add a = omega arith

pub fill-requires : goal.fill-requires
fill-requires c =
    let targets = c.args.targets.now in
    let fit = plan_fit _ _ c.requires in
    let five = fit.five in
    let long = fit.long in
    let a = c.loop-q.q * seconds_of_quarter in
    let last : SFits w64 (get_or targets c.loop-q.q (pos 0)) = search rules in
    let target : SFits w64 (get_or targets (c.loop-q.q + 1) (pos 0)) = search rules in
    let inside : (q : ℕ) → q < 5 → Within most_transfer (get_or targets q (pos 0)) =
    λ q h. in_within (all_inside (minus most_transfer) (pos most_transfer) targets fit.inside q (omega arith)) in
    rw (to_z-of_z last, to_z-of_z target)
    (mid_len _ _ c.loop-q.seconds (omega arith) ∙ sub_add _, (inside c.loop-q.q (omega arith), inside (c.loop-q.q + 1) (omega arith)))

pub loop-q-preserved : goal.loop-q-preserved
loop-q-preserved c =
    let targets = c.args.targets.now in
    let run = c.args.seconds.now in
    let q = c.loop-q.q in
    let fit = plan_fit _ _ c.requires in
    let five = fit.five in
    let long = fit.long in
    let a = q * seconds_of_quarter in
    let f = transfer_at targets in
    let k = a + seconds_of_quarter - a in
    let last : SFits w64 (get_or targets q (pos 0)) = search rules in
    let target : SFits w64 (get_or targets (q + 1) (pos 0)) = search rules in
    let quarter = (rw (to_z-of_z last, to_z-of_z target) at c.fill.ensures) ∙ plan_quarter targets q k (sub_add a) in
    let next : a + k ≡ (q + 1) * seconds_of_quarter = omega arith in
    rw (quarter, c.loop-q.invariant) ((rw (zero-add a) at (filled_part f 0 a k run (omega arith))) ∙ ap (filled f 0 run) next)

pub returns : goal.returns
returns c =
    let l = c.loop-q in
    let n : l.q * seconds_of_quarter ≡ seconds_of_hour = omega arith in
    let long = (plan_fit _ _ c.requires).long in
    l.invariant ∙ filled_all (transfer_at c.args.targets.now) 0 c.args.seconds.now (l.q * seconds_of_quarter) (n ∙ sym long)
    ∙ plan_is c.args.targets.now (l.q * seconds_of_quarter) n
