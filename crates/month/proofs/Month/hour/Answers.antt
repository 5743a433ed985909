-- `Month::hour`: 22, and then the read-out in place. Assumes nothing.
use Prim.Native.Nat.{ℕ}
use mathlib.Core.Path.{refl, sym, ap₂, ◌∙◌}
use borrow.Author.Rules.{rules}
use Rattle.history.specs.Inner.{hour_in}
use Rattle.head.specs.Rules.{month_rules}
use Rattle.head.specs.Inner.{board_in}
use Rattle.head.specs.declared.Head.{Head}
use Rattle.board.specs.Board.{told_of}
use Rattle.month.proofs.Core.{formed}
use Rattle.month.proofs.Readouts.{hour_told_lem}
use Rattle.month.proofs.Month.hour.Goals as goal

pub returns : goal.returns
returns c =
    let a = c.args in
    let m = a.self in
    let f = formed m (sym c.if-not-well_formed.false ∙ c.well_formed-2.ensures) refl (search rules) (search rules) in
    c.hour_in.ensures
    ∙ ap₂ (λ (x : Head) (p : ℕ). told_of (hour_in (month_rules x.days) (board_in x m.marks m.amounts) p)) c.head.ensures c.place_of-asked.ensures
    ∙ hour_told_lem m f.well f.good a.day a.hour
