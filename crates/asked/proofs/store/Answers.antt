-- `asked::store`: a number that is kept finds room. Assumes nothing.
use Prim.Native.Nat.{ℕ}
use native.Mathlib.Omega.{arith}
use mathlib.Core.Path.{sym, ap, ◌∙◌}
use mathlib.Core.Bool.{◌&&◌}
use lib.Dec.{eqb}
use borrow.Author.Tests.{eqb-true}
use Rattle.whole.proofs.Choice.{and_both}
use Rattle.asked.specs.Asking.{token_fault}
use Rattle.asked.proofs.Sizes.{kept_room_lem}
use Rattle.asked.proofs.store.Goals as goal

pub offset_bounds-numbers-count : goal.offset_bounds-numbers-count
offset_bounds-numbers-count c =
    let a = c.args in
    let fault = rw c.number-number.ensures at c.fault_in.ensures in
    let found = and_both a.ended (eqb (token_fault a.count a.token) 0) (ap (λ (f : ℕ). a.ended && eqb f 0) (sym fault) ∙ c.if-ended-fault_in.true) in
    record { fits = omega (arith, kept_room_lem a.count a.token (eqb-true (token_fault a.count a.token) 0 found.1)) }

pub bounds-numbers-count : goal.bounds-numbers-count
bounds-numbers-count c =
    let a = c.args in
    let fault = rw c.number-number.ensures at c.fault_in.ensures in
    let found = and_both a.ended (eqb (token_fault a.count a.token) 0) (ap (λ (f : ℕ). a.ended && eqb f 0) (sym fault) ∙ c.if-ended-fault_in.true) in
    omega (arith, c.requires, kept_room_lem a.count a.token (eqb-true (token_fault a.count a.token) 0 found.1))
