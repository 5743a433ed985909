-- `series::ramp` meets its contract: the quarter is filled in place, or the refusal leaves it. Assumes nothing.
use Rattle.std.proofs.Common.{rules, arith, ◌≡◌, List, ℤ, pos, length, take, get_or, refl, sym, ap, ◌∙◌, SFits, w64}
use Rattle.std.proofs.Math.Facts.{to_z-of_z}
use lib.Seq.{length-take-le}
use Rattle.units.specs.Limits.{seconds_of_hour}
use Rattle.units.specs.Refusals.{told_number}
use Rattle.units.proofs.Numbered.{no_refusal, answered_ok}
use Rattle.ramp.proofs.Laws.{ramp_number}
use Rattle.series.proofs.Laws.{ramp_none, ramp_all}
use Rattle.series.proofs.ramp.Goals as goal

-- the quarter's places are there
long : (run : List ℤ) → length run ≡ seconds_of_hour → length (take 900 run) ≡ 900
long run h = length-take-le 900 run (omega (arith, h))

pub slice_bounds-ramp-end-2 : goal.slice_bounds-ramp-end-2
slice_bounds-ramp-end-2 c = sym (long c.args.run.now c.requires)

pub returns-in-Ok : goal.returns-in-Ok
returns-in-Ok c =
    let n = c.args.head in
    let n0 : SFits w64 (get_or n 0 (pos 0)) = search rules in
    let n1 : SFits w64 (get_or n 1 (pos 0)) = search rules in
    let e = rw (to_z-of_z n0, to_z-of_z n1) at c.ramp.ensures in
    let known = sym (ap (λ y. told_number y) c.in-Ok.is) ∙ ap (λ y. told_number y) e.0 ∙ ramp_number _ _ _ in
    let both = ramp_all n c.args.run.now _ _ 900 (long c.args.run.now c.requires) refl known e.1 refl in
    record { answers = both.0; leaves = both.1 }

pub returns-in-Err : goal.returns-in-Err
returns-in-Err c =
    let n = c.args.head in
    let n0 : SFits w64 (get_or n 0 (pos 0)) = search rules in
    let n1 : SFits w64 (get_or n 1 (pos 0)) = search rules in
    let e = rw (to_z-of_z n0, to_z-of_z n1) at c.ramp.ensures in
    let known = c.number.ensures ∙ sym (ap (λ y. told_number y) c.in-Err.is) ∙ ap (λ y. told_number y) e.0 ∙ ramp_number _ _ _ in
    let both = ramp_none n c.args.run.now _ _ 900 (long c.args.run.now c.requires) refl known e.1 (λ z. no_refusal (sym c.in-Err.is ∙ e.0 ∙ answered_ok (tt {0}) (sym known ∙ z))) in
    record { answers = both.0; leaves = both.1 }
