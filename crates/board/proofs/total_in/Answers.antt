-- `board::total_in`: 1, 22, and then the sum of every place less both fees, which fits. Assumes nothing.
use mathlib.Core.Path.{◌≡◌, sym, subst, ap, ap₂, ◌∙◌}
use lib.IntN.{ℤ, pos, ◌-ℤ◌}
use mir.Syntax.{w64}
use mir.Val.{SFits}
use mir.Facts.{to_z-of_z}
use Rattle.std.specs.Prelude.{Option, Err, unwrap_or}
use Rattle.units.proofs.Numbered.{let_through}
use Rattle.whole.proofs.Signed.{within_fits}
use Rattle.head.specs.Inner.{board_in}
use Rattle.board.specs.Board.{told_of}
use Rattle.board.proofs.Core.{total_away, total_told_lem}
use Rattle.board.proofs.Sums.{ledger_form, all_summed, less_basic, less_both, total_sum}
use borrow.Author.Rules.{rules}
use Rattle.board.proofs.total_in.Goals as goal

pub returns-in_err-check_in : goal.returns-in_err-check_in
returns-in_err-check_in c =
    let a = c.args in
    let told : c.from_residual.result ≡ Err c.in_err-check_in.field-0.0 = search rules in
    told ∙ total_away a.head.days (board_in a.head a.marks.now a.amounts.now) _ c.in_err-check_in.ensures

pub overflow_sub-result : goal.overflow_sub-result
overflow_sub-result c =
    let a = c.args in
    let b = board_in a.head a.marks.now a.amounts.now in
    let number = let_through _ tt (sym c.in_ok-check_in.ensures) in
    let good = ledger_form a.head.days b number in
    let s : SFits w64 c.unwrap_or-sum.result = search rules in
    let f : SFits w64 a.head.basic.0 = search rules in
    let less = ap₂ ◌-ℤ◌ (to_z-of_z s ∙ c.unwrap_or-sum.ensures ∙ ap (λ (x : Option ℤ). unwrap_or x (pos 0)) c.sum.ensures ∙ all_summed a.head.days b good) (to_z-of_z f) in
    subst (SFits w64) (sym less) (within_fits w64 tt (less_basic a.head.days b good))

pub overflow_sub-result-2 : goal.overflow_sub-result-2
overflow_sub-result-2 c =
    let a = c.args in
    let b = board_in a.head a.marks.now a.amounts.now in
    let number = let_through _ tt (sym c.in_ok-check_in.ensures) in
    let good = ledger_form a.head.days b number in
    let s : SFits w64 c.unwrap_or-sum.result = search rules in
    let f : SFits w64 a.head.basic.0 = search rules in
    let less = ap₂ ◌-ℤ◌ (to_z-of_z s ∙ c.unwrap_or-sum.ensures ∙ ap (λ (x : Option ℤ). unwrap_or x (pos 0)) c.sum.ensures ∙ all_summed a.head.days b good) (to_z-of_z f) in
    let g : SFits w64 a.head.excess.0 = search rules in
    let one = subst (SFits w64) (sym less) (within_fits w64 tt (less_basic a.head.days b good)) in
    let both = ap₂ ◌-ℤ◌ (to_z-of_z one ∙ less) (to_z-of_z g) in
    subst (SFits w64) (sym both) (within_fits w64 tt (less_both a.head.days b good))

pub returns : goal.returns
returns c =
    let a = c.args in
    let b = board_in a.head a.marks.now a.amounts.now in
    let number = let_through _ tt (sym c.in_ok-check_in.ensures) in
    let good = ledger_form a.head.days b number in
    let s : SFits w64 c.unwrap_or-sum.result = search rules in
    let f : SFits w64 a.head.basic.0 = search rules in
    let less = ap₂ ◌-ℤ◌ (to_z-of_z s ∙ c.unwrap_or-sum.ensures ∙ ap (λ (x : Option ℤ). unwrap_or x (pos 0)) c.sum.ensures ∙ all_summed a.head.days b good) (to_z-of_z f) in
    let g : SFits w64 a.head.excess.0 = search rules in
    let one = subst (SFits w64) (sym less) (within_fits w64 tt (less_basic a.head.days b good)) in
    let both = ap₂ ◌-ℤ◌ (to_z-of_z one ∙ less) (to_z-of_z g) in
    let all = subst (SFits w64) (sym both) (within_fits w64 tt (less_both a.head.days b good)) in
    ap (λ (z : ℤ). told_of (0, z)) (to_z-of_z all ∙ both ∙ ap (λ (x : ℤ). x -ℤ a.head.basic.0 -ℤ a.head.excess.0) (sym (all_summed a.head.days b good)) ∙ total_sum a.head.days b good) ∙ total_told_lem a.head.days b number
