-- A call on the head, at a head whose runs are the ledger's, is the board's call; and two fees are all that a board has. By the number. Assumes nothing.
use Prim.Native.Nat.{ℕ}
use mathlib.Core.Path.{◌≡◌, refl, sym, ap}
use mathlib.Core.Bool.{Bool, true, false, not, ◌&&◌}
use mathlib.Core.List.{List, [], ◌∷◌}
use lib.Dec.{eqb}
use lib.IntN.{ℤ, pos}
use Rattle.std.specs.Prelude.{Result, Ok, Err}
use Rattle.whole.specs.Choice.{pick, unless, in_order, kept}
use Rattle.whole.proofs.Choice.{by_test}
use Rattle.units.specs.Limits.{is_loss_fee}
use Rattle.units.specs.Refusals.{not_reachable, month_closed, bad_money, told_number, refused_as, result_by}
use Rattle.units.specs.declared.refusal.Refusal.{Refusal}
use Rattle.units.proofs.Numbered.{no_refusal}
use Rattle.history.specs.Rules.{Call, own}
use Rattle.history.specs.Board.{Board, fresh, ruling_on, next_on}
use Rattle.history.specs.Inner.{runs_fit, ruled_in, handed_in}
use Rattle.units.specs.Units.{dollars}
use Rattle.units.specs.declared.Dollars.{Dollars}
use Rattle.head.specs.Rules.{Fee, basic, excess, same_fee, fees_of, loss_fee_refusal, Item, month_rules}
use Rattle.head.specs.Inner.{board_in, head_on, fresh_head, head_fits, headed_of, head_refusal, standing_after, with_fees}
use Rattle.head.specs.declared.Head.{Head}

-- a call that touches no place, at a head whose runs are the ledger's: what it answers, and what stands after it
pub record Heads (head : Head) (fs : List Bool) (xs : List ℤ) (c : Call Fee Item) : Type 0 where
  pub granted : headed_of head c ≡ result_by (ruled_in (month_rules head.days) (board_in head fs xs) c) (head_on head.days (next_on (month_rules head.days) (board_in head fs xs) c))
  pub marks : (next_on (month_rules head.days) (board_in head fs xs) c).marks ≡ fs
  pub amounts : (next_on (month_rules head.days) (board_in head fs xs) c).amounts ≡ xs
  pub number : told_number (headed_of head c) ≡ ruled_in (month_rules head.days) (board_in head fs xs) c
  pub board : board_in (standing_after head (headed_of head c)) fs xs ≡ handed_in (month_rules head.days) (board_in head fs xs) c
  pub days : (standing_after head (headed_of head c)).days ≡ head.days

-- a board's fees are the two
pub fees_all : (fee : Fee → ℤ) → fees_of (fee basic) (fee excess) ≡ fee
fees_all fee i f = at f i
  where
    at : (f : Fee) → fees_of (fee basic) (fee excess) f ≡ fee f
    at basic = refl
    at excess = refl

-- a fresh month's board has no fee
pub fresh_in : (days : ℕ) → let b = fresh (month_rules days) in board_in (fresh_head days) b.marks b.amounts ≡ b
unfolding fresh
fresh_in days i = let b = fresh (month_rules days) in record { closed = false; fee = fees_all (λ _. pos 0) i; marks = b.marks; amounts = b.amounts }

-- a refusal by these numbers is told by its number
fee_number : {A : Type 0} (t o l : Bool) (a : A) → let k = unless t not_reachable (in_order ((o, month_closed) ∷ own (unless l bad_money 0) ∷ [])) in told_number (result_by k a) ≡ k
fee_number true true true a = refl
fee_number true true false a = refl
fee_number true false l a = refl
fee_number false o l a = refl

close_number : {A : Type 0} (t o : Bool) (a : A) → let k = unless t not_reachable (in_order ((o, month_closed) ∷ [])) in told_number (result_by k a) ≡ k
close_number true true a = refl
close_number true false a = refl
close_number false o a = refl

-- what stands after an answer by a number
module _ (head : Head) (k : ℕ) (closed : Bool) (fee : Fee → ℤ) (fs : List Bool) (xs : List ℤ) where
  abbrev new_head : Head
  new_head = head_on head.days (record { closed = closed; fee = fee; marks = fs; amounts = xs })

  head_kept : board_in (standing_after head (result_by k new_head)) fs xs ≡ kept k (record { closed = closed; fee = fee; marks = fs; amounts = xs }) (board_in head fs xs)
  head_kept = go (eqb k 0)
    where
      go : (t : Bool) → board_in (standing_after head (pick t (Ok new_head) (refused_as k))) fs xs ≡ pick t (record { closed = closed; fee = fee; marks = fs; amounts = xs }) (board_in head fs xs)
      go true = λ i. record { closed = closed; fee = fees_all fee i; marks = fs; amounts = xs }
      go false = refl

  head_days : (standing_after head (result_by k new_head)).days ≡ head.days
  head_days = go (eqb k 0)
    where
      go : (t : Bool) → (standing_after head (pick t (Ok new_head) (refused_as k))).days ≡ head.days
      go true = refl
      go false = refl

module _ (head : Head) (fs : List Bool) (xs : List ℤ) (runs : runs_fit (month_rules head.days) (board_in head fs xs) ≡ true) where
  pub heads_fee : (f : Fee) (z : ℤ) → Heads head fs xs (Call.loss_fee f z)
  unfolding headed_of ruling_on next_on ruled_in handed_in
  heads_fee f z =
      let later : Fee → ℤ = λ g. pick (same_fee f g) z (fees_of head.basic.0 head.excess.0 g) in
      let k = head_refusal head (Call.loss_fee f z) in
      record {
        granted = rw runs;
        marks = refl;
        amounts = refl;
        number = rw runs (fee_number (head_fits head) (not head.closed) (is_loss_fee z) (head_on head.days (next_on (month_rules head.days) (board_in head [] []) (Call.loss_fee f z))));
        board = rw runs (head_kept head k head.closed later fs xs);
        days = head_days head k head.closed later fs xs;
      }

  pub heads_close : Heads head fs xs Call.close
  unfolding headed_of ruling_on next_on ruled_in handed_in
  heads_close =
      let fees = fees_of head.basic.0 head.excess.0 in
      let k = head_refusal head Call.close in
      record {
        granted = rw runs;
        marks = refl;
        amounts = refl;
        number = rw runs (close_number (head_fits head) (not head.closed) (head_on head.days (next_on (month_rules head.days) (board_in head [] []) Call.close)));
        board = rw runs (head_kept head k true fees fs xs);
        days = head_days head k true fees fs xs;
      }

-- a fee that is set: the other stays
pub fee_set_lem : (head : Head) (f : Fee) (z : ℤ) →
    headed_of head (Call.loss_fee f z) ≡ with_fees head z (dollars (pick (same_fee f basic) z head.basic.0)) (dollars (pick (same_fee f excess) z head.excess.0))
unfolding headed_of with_fees ruling_on next_on
fee_set_lem head f z = refl

-- a refusal of one answer by a number is that of any other
pub err_moves : {A B : Type 0} (k : ℕ) (a : A) (b : B) (r : Refusal) → Err r ≡ result_by k a → Err r ≡ result_by k b
err_moves {A = A} {B = B} k a b r = go (eqb k 0)
  where
    moved : Result A Refusal → Result B Refusal
    moved (Ok a) = Ok b
    moved (Err r) = Err r

    go : (t : Bool) → ◌≡◌ {A = Result A Refusal} (Err r) (pick t (Ok a) (refused_as k)) → ◌≡◌ {A = Result B Refusal} (Err r) (pick t (Ok b) (refused_as k))
    go true e = no_refusal e
    go false e = ap moved e

-- what refuses every change refuses a fee
pub fee_refused : (head : Head) (z : ℤ) (b e : Dollars) (r : Refusal) → Err r ≡ result_by {A = Unit {0}} (head_refusal head Call.close) tt → with_fees head z b e ≡ Err r
unfolding with_fees ruling_on
fee_refused head z b e r = go (head_fits head) (not head.closed)
  where
    moved : Result (Unit {0}) Refusal → Result Head Refusal
    moved (Ok a) = Ok head
    moved (Err r) = Err r

    go : (t o : Bool) → Err r ≡ result_by {A = Unit {0}} (unless t not_reachable (in_order ((o, month_closed) ∷ []))) tt
        → result_by {A = Head} (unless t not_reachable (in_order ((o, month_closed) ∷ own (loss_fee_refusal z) ∷ []))) (record { days = head.days; closed = head.closed; basic = b; excess = e }) ≡ Err r
    go true true e = no_refusal e
    go true false e = ap moved (sym e)
    go false o e = ap moved (sym e)
