-- No frame that is read is without its call: the reader's kinds are an open and the six that `call_of` names, each tested for. From the form that the reader tests. Assumes
-- nothing.
use Prim.Native.Nat.{ℕ, suc, ◌≤◌}
use mathlib.Core.Path.{◌≡◌, refl, sym, ap}
use mathlib.Core.Bool.{Bool, true, false, ◌&&◌, ◌||◌}
use mathlib.Core.List.{List}
use mathlib.Core.Option.{Option, none, some}
use native.Mathlib.Omega.{arith}
use lib.Dec.{eqb}
use borrow.Author.Tests.{leb-true, eqb-false}
use Rattle.whole.specs.Choice.{pick}
use Rattle.whole.proofs.Choice.{clash, and_both}
use Rattle.history.specs.History.{stands}
use Rattle.frame.specs.Kinds.{open_kind, post_kind, replace_kind, withdraw_kind, basic_fee_kind, close_kind, excess_fee_kind, is_kind, uses_day, uses_hour, uses_amount}
use Rattle.frame.specs.Frame.{is_zero, in_form, reading_of}
use Rattle.frame.specs.declared.Entry.{Entry}
use Rattle.std.specs.Prelude.{Ok}
use Rattle.frame.proofs.RoundTrip.{passed}
use Rattle.book.specs.Book.{call_of}

-- a test that names something did not pass, and neither did those after it, where nothing is named
no_test : {X : Type 0} (a : X) (t : Bool) (rest : Option X) → pick t (some a) rest ≡ none → (t ≡ false) × (rest ≡ none)
no_test a true rest n = clash (sym (ap stands n))
no_test a false rest n = (refl, n)

-- a kind that is known is an open's or one of the six
kind_named : (e : Entry) → in_form e ≡ true → e.kind ≤ excess_fee_kind
unfolding in_form
kind_named e f =
    let a = uses_amount e.kind || is_zero e.amount.0 in
    let h = uses_hour e.kind || eqb e.hour 0 in
    let d = uses_day e.kind || eqb e.day 0 in
    let p = (and_both (is_kind e.kind && d && h) a f).0 in
    let q = (and_both (is_kind e.kind && d) h p).0 in
    leb-true e.kind excess_fee_kind (and_both (is_kind e.kind) d q).0

-- one that is not the last is one of those before it
less : (k n : ℕ) → eqb k (suc n) ≡ false → k ≤ suc n → k ≤ n
less k n t l = let f = eqb-false k (suc n) t in omega arith

pub asked_for : (line : List ℕ) (e : Entry) → reading_of line ≡ Ok e → (e.kind ≡ open_kind → ⊥) → call_of e ≡ none → ⊥
unfolding call_of
asked_for line e r o n =
    let kind = kind_named e (passed line e r).form in
    let post = no_test _ (eqb e.kind post_kind) _ n in
    let replace = no_test _ (eqb e.kind replace_kind) _ post.1 in
    let withdraw = no_test _ (eqb e.kind withdraw_kind) _ replace.1 in
    let basic = no_test _ (eqb e.kind basic_fee_kind) _ withdraw.1 in
    let excess = no_test _ (eqb e.kind excess_fee_kind) _ basic.1 in
    let close = no_test _ (eqb e.kind close_kind) _ excess.1 in
    let six = less e.kind 5 excess.0 kind in
    let five = less e.kind 4 close.0 six in
    let four = less e.kind 3 basic.0 five in
    let three = less e.kind 2 withdraw.0 four in
    let two = less e.kind 1 replace.0 three in
    let one = less e.kind 0 post.0 two in
    o (omega arith)
