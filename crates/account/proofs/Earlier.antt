-- An input in which no line reads as kind 06 prints what it printed while there was one loss fee: each line reads and is ruled as it was, and the excess fee is never set and takes nothing away. By
-- induction on the lines, and on the history. Assumes nothing.
use Prim.Native.Nat.{ℕ, suc, ◌+◌}
use mathlib.Core.Path.{◌≡◌, refl, sym, ap, ap₂, ◌∙◌}
use mathlib.Core.Bool.{Bool, true, false}
use mathlib.Core.List.{List, [], ◌∷◌, ◌++◌}
use mathlib.Core.Option.{Option, none, some}
use lib.Dec.{eqb}
use lib.IntN.{ℤ, pos, ◌-ℤ◌, +ℤ_idr}
use lib.ListN.{replicate}
use borrow.Author.Tests.{ne_eqb}
use Rattle.whole.specs.Choice.{pick, kept}
use Rattle.whole.specs.Folds.{sum_to}
use Rattle.whole.proofs.Choice.{by_test, kept_any}
use Rattle.units.specs.Limits.{month_places}
use Rattle.history.specs.Rules.{Call, post, replace, withdraw, loss_fee, close, ruling}
use Rattle.history.specs.History.{Recorded, stands, read_as, is_closed, leaves, last_item, fee_after, last_fee, ruling_after, earned_is}
use Rattle.head.specs.Rules.{Fee, basic, excess, Item, amount_item, month_rules}
use Rattle.frame.specs.Kinds.{open_kind, post_kind, replace_kind, withdraw_kind, basic_fee_kind, close_kind, excess_fee_kind}
use Rattle.frame.specs.Frame.{reading_of}
use Rattle.frame.specs.declared.Entry.{Entry}
use Rattle.std.specs.Prelude.{Result, Ok, Err}
use Rattle.units.specs.declared.refusal.Refusal.{Refusal}
use Rattle.intake.specs.Text.{verdict_text, total_text}
use Rattle.intake.specs.Inner.{first_progress}
use Rattle.book.specs.Book.{call_of}
use Rattle.account.specs.Account.{Account, first_account, open_number, call_history, asked_number, asked_history, line_number, account_in, account_after, lines_told, total_after, lines_read, printed_of}
use Rattle.account.specs.Earlier.{earlier_rules, earlier_of, earlier_reading, earlier_printed, NotExcess, WithoutExcess}
use Rattle.account.specs.Prints.{Prints, input_of}
use Rattle.account.proofs.Contracts.{prints_history}

-- ---- a history tells the same by both rules, but for the fees that are taken away

module _ (days : ℕ) where
  leaves_same : (c : Call Fee Item) (d x : ℕ) (old : Option Item) → leaves (earlier_rules days) c d x old ≡ leaves (month_rules days) c d x old
  leaves_same (post _ _ _) d x old = refl
  leaves_same (replace _ _ _) d x old = refl
  leaves_same (withdraw _ _) d x old = refl
  leaves_same (loss_fee _ _) d x old = refl
  leaves_same close d x old = refl

  items_same : (h : List (Recorded Fee Item)) (d x : ℕ) → last_item (earlier_rules days) h d x ≡ last_item (month_rules days) h d x
  unfolding last_item
  items_same [] d x = refl
  items_same (e ∷ h) d x =
      let before = items_same h d x in
      ap₂ (kept e.answer) (leaves_same e.call d x (last_item (earlier_rules days) h d x) ∙ ap (leaves (month_rules days) e.call d x) before) before

  fee_same : (c : Call Fee Item) (f : Fee) (old : ℤ) → fee_after (earlier_rules days) c f old ≡ fee_after (month_rules days) c f old
  fee_same (post _ _ _) f old = refl
  fee_same (replace _ _ _) f old = refl
  fee_same (withdraw _ _) f old = refl
  fee_same (loss_fee _ _) f old = refl
  fee_same close f old = refl

  fees_same : (h : List (Recorded Fee Item)) (f : Fee) → last_fee (earlier_rules days) h f ≡ last_fee (month_rules days) h f
  unfolding last_fee
  fees_same [] f = refl
  fees_same (e ∷ h) f =
      let before = fees_same h f in
      ap₂ (kept e.answer) (fee_same e.call f (last_fee (earlier_rules days) h f) ∙ ap (fee_after (month_rules days) e.call f) before) before

  ruling_same : (closed : Bool) (filled : ℕ → ℕ → Bool) (c : Call Fee Item) → ruling (earlier_rules days) closed filled c ≡ ruling (month_rules days) closed filled c
  ruling_same closed filled (post _ _ _) = refl
  ruling_same closed filled (replace _ _ _) = refl
  ruling_same closed filled (withdraw _ _) = refl
  ruling_same closed filled (loss_fee _ _) = refl
  ruling_same closed filled close = refl

  ruled_same : (h : List (Recorded Fee Item)) (c : Call Fee Item) → ruling_after (earlier_rules days) h c ≡ ruling_after (month_rules days) h c
  ruled_same h c = ruling_same (is_closed h) _ c ∙ ap (λ (filled : ℕ → ℕ → Bool). ruling (month_rules days) (is_closed h) filled c) (λ i d x. stands (items_same h d x i))

  earned_same : (h : List (Recorded Fee Item)) → earned_is (earlier_rules days) h ≡ earned_is (month_rules days) h
  earned_same h i = sum_to (month_rules days).days (λ k. sum_to ((month_rules days).hours_of (suc k)) (λ x. read_as (month_rules days).worth (items_same h (suc k) x i)))

-- ---- a line

asked_same : (month : Option ℕ) (h : List (Recorded Fee Item)) (c : Option (Call Fee Item))
    → (asked_number earlier_rules month h c ≡ asked_number month_rules month h c) × (asked_history earlier_rules month h c ≡ asked_history month_rules month h c)
asked_same none h none = (refl, refl)
asked_same (some days) h none = (refl, refl)
asked_same none h (some c) = (refl, refl)
asked_same (some days) h (some c) = (ruled_same days h c, λ i. record { call = c; answer = ruled_same days h c i } ∷ h)

line_same : (a : Account) (r : Result Entry Refusal) → (line_number earlier_rules a r ≡ line_number month_rules a r) × (account_in earlier_rules a r ≡ account_in month_rules a r)
line_same a (Ok e) =
    let s = asked_same a.month a.history (call_of e) in
    let open_first = eqb e.kind open_kind in (
      ap (pick open_first (open_number a.month e.day)) s.0,
      ap (λ (h : List (Recorded Fee Item)). pick open_first (kept (open_number a.month e.day) (record { month = some e.day; history = [] }) a) (record { month = a.month; history = h })) s.1,
    )
line_same a (Err r) = (refl, refl)

reading_same : (r : Result Entry Refusal) → NotExcess r → earlier_of r ≡ r
reading_same (Ok e) f = rw (ne_eqb e.kind excess_fee_kind (f e refl))
reading_same (Err r) f = refl

-- what a line is answered, and the account that it leaves
one_same : (a : Account) (l : List ℕ) → NotExcess (reading_of l) →
    (line_number earlier_rules a (earlier_reading l) ≡ line_number month_rules a (reading_of l)) × (account_in earlier_rules a (earlier_reading l) ≡ account_in month_rules a (reading_of l))
one_same a l f =
    let r = reading_same (reading_of l) f in
    let s = line_same a (reading_of l) in
    (ap (line_number earlier_rules a) r ∙ s.0, ap (account_in earlier_rules a) r ∙ s.1)

lines_same : (n : ℕ) (a : Account) (ls : List (List ℕ)) → WithoutExcess ls →
    (lines_told earlier_rules earlier_reading n a ls ≡ lines_told month_rules reading_of n a ls) × (account_after earlier_rules earlier_reading a ls ≡ account_after month_rules reading_of a ls)
lines_same n a [] w = (refl, refl)
lines_same n a (l ∷ ls) w =
    let s = one_same a l w.0 in
    let rest = lines_same (n + 1) (account_in month_rules a (reading_of l)) ls w.1 in (
      ap₂ (λ (k : ℕ) (b : Account). verdict_text (n + 1) k ++ lines_told earlier_rules earlier_reading (n + 1) b ls) s.0 s.1
          ∙ ap (λ (t : List ℕ). verdict_text (n + 1) (line_number month_rules a (reading_of l)) ++ t) rest.0,
      ap (λ (b : Account). account_after earlier_rules earlier_reading b ls) s.1 ∙ rest.1,
    )

-- ---- the excess fee is never set

-- a call that leaves it as it is
abbrev Spares : Option (Call Fee Item) → Type 0
Spares none = Unit {0}
Spares (some c) = (days : ℕ) (old : ℤ) → fee_after (month_rules days) c excess old ≡ old

spares : (e : Entry) → (e.kind ≡ excess_fee_kind → ⊥) → Spares (call_of e)
unfolding call_of
spares e f = rw (ne_eqb e.kind excess_fee_kind f) (go (eqb e.kind post_kind) (eqb e.kind replace_kind) (eqb e.kind withdraw_kind) (eqb e.kind basic_fee_kind) (eqb e.kind close_kind))
  where
    go : (p r w b s : Bool) → Spares (
        pick p (some (post e.day e.hour (amount_item e.amount.0)))
        (pick r (some (replace e.day e.hour (amount_item e.amount.0)))
        (pick w (some (withdraw e.day e.hour))
        (pick b (some (loss_fee basic e.amount.0)) (pick s (some close) none)))))
    go true r w b s = λ _ _. refl
    go false true w b s = λ _ _. refl
    go false false true b s = λ _ _. refl
    go false false false true s = λ _ _. refl
    go false false false false true = λ _ _. refl
    go false false false false false = tt

abbrev Unset : Option ℕ → List (Recorded Fee Item) → Type 0
Unset none h = Unit {0}
Unset (some days) h = last_fee (month_rules days) h excess ≡ pos 0

asked_unset : (month : Option ℕ) (h : List (Recorded Fee Item)) (c : Option (Call Fee Item)) → Spares c → Unset month h → Unset month (asked_history month_rules month h c)
unfolding last_fee
asked_unset month h none s u = u
asked_unset none h (some c) s u = tt
asked_unset (some days) h (some c) s u = kept_any (λ (z : ℤ). z ≡ pos 0) (ruling_after (month_rules days) h c) (λ _. s days (last_fee (month_rules days) h excess) ∙ u) u

line_unset : (a : Account) (r : Result Entry Refusal) → NotExcess r → Unset a.month a.history → Unset (account_in month_rules a r).month (account_in month_rules a r).history
unfolding last_fee
line_unset a (Ok e) f u =
    by_test (eqb e.kind open_kind)
    (λ (t : eqb e.kind open_kind ≡ true). rw t (kept_any (λ (n : Account). Unset n.month n.history) (open_number a.month e.day) (λ _. refl) u))
    (λ (t : eqb e.kind open_kind ≡ false). rw t (asked_unset a.month a.history (call_of e) (spares e (f e refl)) u))
line_unset a (Err r) f u = u

lines_unset : (a : Account) (ls : List (List ℕ)) → WithoutExcess ls → Unset a.month a.history →
    let end = account_after month_rules reading_of a ls in
    Unset end.month end.history
lines_unset a [] w u = u
lines_unset a (l ∷ ls) w u = lines_unset (account_in month_rules a (reading_of l)) ls w.1 (line_unset a (reading_of l) w.0 u)

total_same : (month : Option ℕ) (h : List (Recorded Fee Item)) → Unset month h → total_after month_rules month h ≡ total_after earlier_rules month h
total_same none h u = refl
total_same (some days) h u =
    ap (λ (z : ℤ). earned_is (month_rules days) h -ℤ last_fee (month_rules days) h basic -ℤ z) u
    ∙ +ℤ_idr _
    ∙ sym (ap₂ ◌-ℤ◌ (earned_same days h) (fees_same days h basic))

-- ---- all of it

pub prints_as_before : (input : List ℕ) → WithoutExcess (lines_read input) → printed_of input ≡ earlier_printed input
unfolding printed_of earlier_printed
prints_as_before input w =
    let s = lines_same 0 first_account (lines_read input) w in
    let end = account_after month_rules reading_of first_account (lines_read input) in
    ap (λ (z : ℤ). lines_told month_rules reading_of 0 first_account (lines_read input) ++ total_text z)
    (total_same end.month end.history (lines_unset first_account (lines_read input) w tt))
    ∙ sym (ap₂ (λ (t : List ℕ) (b : Account). t ++ total_text (total_after earlier_rules b.month b.history)) s.0 s.1)

-- and so does whatever meets the contracts of `feed` and `finish`
pub feeds_as_before : (cs : List (List ℕ)) (text : List ℕ) → Prints first_progress (replicate month_places false) (replicate month_places (pos 0)) cs text → WithoutExcess (lines_read (input_of cs))
    → text ≡ earlier_printed (input_of cs)
feeds_as_before cs text p w = prints_history cs text p ∙ prints_as_before (input_of cs) w
