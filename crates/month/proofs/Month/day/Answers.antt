-- `Month::day`: 6, and then the day's places, whose sum can be taken. Assumes nothing.
use Prim.Native.Nat.{ℕ}
use mathlib.Core.Path.{◌≡◌, refl, sym, ap, ap₂, ◌∙◌}
use mathlib.Core.Bool.{true}
use native.Mathlib.Omega.{arith}
use lib.Dec.{ltb}
use lib.IntN.{ℤ, pos}
use lib.ListN.{length, take, drop}
use borrow.Author.Rules.{rules}
use borrow.Author.Tests.{lt-ltb, le-ltb}
use Rattle.std.specs.Prelude.{unwrap_or}
use Rattle.whole.specs.Inner.{summed}
use Rattle.units.specs.Limits.{hours_of_day, month_places}
use Rattle.units.specs.declared.Dollars.{Dollars}
use Rattle.history.specs.Rules.{inside, place_in}
use Rattle.head.proofs.HourPlaces.{place_for}
use Rattle.board.specs.Board.{told_of}
use Rattle.board.proofs.Sums.{day_summed}
use Rattle.month.specs.Month.{rules_of, board_of}
use Rattle.month.proofs.Core.{well_days, formed}
use Rattle.month.proofs.Readouts.{day_6, day_told_lem, day_room}
use Rattle.month.proofs.Month.day.Goals as goal

pub returns-then-places-first : goal.returns-then-places-first
returns-then-places-first c =
    let a = c.args in
    let m = a.self in
    let well = sym c.well_formed-2.ensures ∙ c.if-not-well_formed.false in
    let first = ap₂ ltb c.place_of-first.ensures c.places.ensures ∙ (place_for m.days a.day 0).within (well_days m well) in
    day_6 m well a.day (sym first ∙ le-ltb _ _ c.if-places-first.true)

pub day_sum-requires : goal.day_sum-requires
day_sum-requires c =
    let a = c.args in
    let m = a.self in
    let well = sym c.well_formed-2.ensures ∙ c.if-not-well_formed.false in
    let first = ap₂ ltb c.place_of-first.ensures c.places.ensures ∙ (place_for m.days a.day 0).within (well_days m well) in
    let here : inside (rules_of m) a.day 0 ≡ true = sym first ∙ lt-ltb _ _ c.if-places-first.false in
    let l : length m.amounts ≡ month_places = search rules in
    omega (arith, c.place_of-first.ensures, (place_for m.days a.day 0).here here, day_room m well a.day here)

pub returns : goal.returns
returns c =
    let a = c.args in
    let m = a.self in
    let f = formed m (sym c.if-not-well_formed.false ∙ c.well_formed-2.ensures) refl (search rules) (search rules) in
    let first = ap₂ ltb c.place_of-first.ensures c.places.ensures ∙ (place_for m.days a.day 0).within (well_days m f.well) in
    let here : inside (rules_of m) a.day 0 ≡ true = sym first ∙ lt-ltb _ _ c.if-places-first.false in
    let at = place_in (rules_of m) a.day 0 in
    let is = c.place_of-first.ensures ∙ (place_for m.days a.day 0).here here in
    let amount = ap (λ (z : Dollars). z.0) c.day_sum.ensures ∙ ap (λ (i : ℕ). unwrap_or (summed (take hours_of_day (drop i m.amounts))) (pos 0)) is ∙ day_summed m.days (board_of m) f.good at (day_room m f.well a.day here) in
    ap (λ (z : ℤ). told_of (0, z)) amount ∙ day_told_lem m f.well a.day here
