-- `book::call_place`: by the kind. Assumes nothing.
use Rattle.history.proofs.Board.{post_at, replace_at, withdraw_at}
use Rattle.head.specs.Rules.{amount_item, month_rules}
use Rattle.head.specs.Inner.{board_in}
use Rattle.head.proofs.HourPlaces.{place_for}
use Rattle.board.proofs.Core.{call_at}
use Rattle.book.proofs.call_place.Goals as goal

pub returns-in-1-clause-number : goal.returns-in-1-clause-number
returns-in-1-clause-number c =
    let a = c.args in
    let at = post_at (month_rules a.head.days) (board_in a.head a.marks.now a.amounts.now) a.entry.day a.entry.hour _ (place_for a.head.days a.entry.day a.entry.hour) (amount_item a.entry.amount.0) in
    rw c.in-1.is
    (call_at a.head a.marks.now a.amounts.now a.entry.day a.entry.hour _ _ at _ c.place_of-place.ensures _ _ c.post_in.ensures.answers c.post_in.ensures.leaves).0

pub returns-in-1-clause-board : goal.returns-in-1-clause-board
returns-in-1-clause-board c =
    let a = c.args in
    let at = post_at (month_rules a.head.days) (board_in a.head a.marks.now a.amounts.now) a.entry.day a.entry.hour _ (place_for a.head.days a.entry.day a.entry.hour) (amount_item a.entry.amount.0) in
    rw c.in-1.is
    (call_at a.head a.marks.now a.amounts.now a.entry.day a.entry.hour _ _ at _ c.place_of-place.ensures _ _ c.post_in.ensures.answers c.post_in.ensures.leaves).1

pub returns-in-2-clause-number : goal.returns-in-2-clause-number
returns-in-2-clause-number c =
    let a = c.args in
    let at = replace_at (month_rules a.head.days) (board_in a.head a.marks.now a.amounts.now) a.entry.day a.entry.hour _ (place_for a.head.days a.entry.day a.entry.hour) (amount_item a.entry.amount.0) in
    rw c.in-2.is
    (call_at a.head a.marks.now a.amounts.now a.entry.day a.entry.hour _ _ at _ c.place_of-place.ensures _ _ c.replace_in.ensures.answers c.replace_in.ensures.leaves).0

pub returns-in-2-clause-board : goal.returns-in-2-clause-board
returns-in-2-clause-board c =
    let a = c.args in
    let at = replace_at (month_rules a.head.days) (board_in a.head a.marks.now a.amounts.now) a.entry.day a.entry.hour _ (place_for a.head.days a.entry.day a.entry.hour) (amount_item a.entry.amount.0) in
    rw c.in-2.is
    (call_at a.head a.marks.now a.amounts.now a.entry.day a.entry.hour _ _ at _ c.place_of-place.ensures _ _ c.replace_in.ensures.answers c.replace_in.ensures.leaves).1

pub returns-in-3-clause-number : goal.returns-in-3-clause-number
returns-in-3-clause-number c =
    let a = c.args in
    let at = withdraw_at (month_rules a.head.days) (board_in a.head a.marks.now a.amounts.now) a.entry.day a.entry.hour _ (place_for a.head.days a.entry.day a.entry.hour) in
    rw c.in-3.is
    (call_at a.head a.marks.now a.amounts.now a.entry.day a.entry.hour _ _ at _ c.place_of-place.ensures _ _ c.withdraw_in.ensures.answers c.withdraw_in.ensures.leaves).0

pub returns-in-3-clause-board : goal.returns-in-3-clause-board
returns-in-3-clause-board c =
    let a = c.args in
    let at = withdraw_at (month_rules a.head.days) (board_in a.head a.marks.now a.amounts.now) a.entry.day a.entry.hour _ (place_for a.head.days a.entry.day a.entry.hour) in
    rw c.in-3.is
    (call_at a.head a.marks.now a.amounts.now a.entry.day a.entry.hour _ _ at _ c.place_of-place.ensures _ _ c.withdraw_in.ensures.answers c.withdraw_in.ensures.leaves).1
