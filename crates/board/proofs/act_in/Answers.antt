-- `board::act_in`: by its number; what is let through is put at its place. Assumes nothing.
use mathlib.Core.Logic.{⊎_elim}
use Rattle.board.specs.Inner.{deed_of}
use Rattle.board.proofs.Core.{turned_away, let_through}
use Rattle.board.proofs.act_in.Goals as goal

pub returns-in-Withdraw-clause-leaves : goal.returns-in-Withdraw-clause-leaves
returns-in-Withdraw-clause-leaves c =
    let a = c.args in
    let_through a.head a.marks.now a.amounts.now a.place (deed_of a.act) c.in_ok-place_ruled.ensures _ _
    (rw c.in-Withdraw.is c.put.ensures.marks) (rw c.in-Withdraw.is c.put.ensures.amounts)

pub returns-in-Post-clause-leaves : goal.returns-in-Post-clause-leaves
returns-in-Post-clause-leaves c =
    let a = c.args in
    let put = c.put-in-Post.ensures in
    let_through a.head a.marks.now a.amounts.now a.place (deed_of a.act) c.in_ok-place_ruled.ensures _ _
    (⊎_elim (λ e. rw e put.marks) (λ e. rw e put.marks) c.in-Post.is) (⊎_elim (λ e. rw e put.amounts) (λ e. rw e put.amounts) c.in-Post.is)

pub returns-in_err-place_ruled-clause-leaves : goal.returns-in_err-place_ruled-clause-leaves
returns-in_err-place_ruled-clause-leaves c =
    let a = c.args in
    turned_away a.head a.marks.now a.amounts.now a.place (deed_of a.act) _ c.in_err-place_ruled.ensures
