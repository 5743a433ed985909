-- DEMAND 3 of the month ledger, over the calls' contracts as the source states them: whatever meets those contracts loses no hour, doubles none and
-- invents none. From the theory of any ledger (crates/history): the month is an instance. Assumes nothing.
use Prim.Native.Nat.{ℕ}
use mathlib.Core.Path.{◌≡◌, refl, sym, ap, ◌∙◌}
use mathlib.Core.Bool.{Bool, true, false, ◌&&◌}
use mathlib.Core.List.{List}
use native.Mathlib.Omega.{arith}
use lib.Dec.{leb, eqb}
use lib.IntN.{ℤ, pos}
use Rattle.std.specs.Prelude.{Result, Ok}
use Rattle.whole.specs.Choice.{pick, unless}
use Rattle.whole.proofs.Choice.{by_test}
use Rattle.units.specs.Limits.{is_days}
use Rattle.units.specs.Refusals.{not_in_month, told_number, refused_as, result_by}
use Rattle.units.specs.Units.{dollars}
use Rattle.units.specs.declared.Dollars.{Dollars}
use Rattle.units.specs.declared.refusal.Refusal.{Refusal}
use Rattle.units.proofs.Numbered.{let_through}
use Rattle.units.proofs.Numbered.{answer_is as granted_is}
use Rattle.history.specs.Rules.{Call, inside, hour_tests}
use Rattle.history.specs.Board.{told, well_formed, filled_at, fresh, ruling_on, next_on, hour_on, day_on, total_on, standing_on, or_reachable, refusal_of, next_of}
use Rattle.history.specs.History.{Recorded}
use Rattle.history.specs.Demand.{Run, Demand3, OpensEmpty}
use Rattle.history.proofs.Demand.{Lawful}
use Rattle.history.proofs.Demand.{demand3 as any-demand3}
use Rattle.history.proofs.Demand.{opens_empty as any-opens-empty}
use Rattle.head.specs.Rules.{Fee, Item, month_rules}
use Rattle.head.specs.Inner.{standing_after}
use Rattle.head.proofs.Sound.{month_sound}
use Rattle.board.specs.Board.{told_of}
use Rattle.board.proofs.Core.{Known, known_unless, known_in_order, known_number}
use Rattle.month.specs.Month.{rules_of, board_of, read_out, fresh_month, open_of, month_answer, hour_told, day_told, fee_told, total_told, standing_told}
use Rattle.month.specs.declared.Month.{Month}
use Rattle.month.proofs.Core.{board_all, answer_number, answer_left}
use Rattle.month.proofs.Month.«open».Reads as open_reads
use Rattle.demand.specs.Ledger.{figure_of, Answers, FeeAnswers, month_ledger}

-- ---- the laws: the contracts say what the definitions on the board say

booked_is : (m : Month) {y z : Result Month Refusal} {k : ℕ} {n : Month} → y ≡ z → k ≡ told_number y → n ≡ standing_after m y → (k ≡ told_number z) × (n ≡ standing_after m z)
booked_is m post number left = (number ∙ ap told_number post, left ∙ ap (standing_after m) post)

-- each call's contract is the same equation
pub answer_is : (m : Month) (c : Call Fee Item) (k : ℕ) (n : Month) → Answers m c k n → (k ≡ told_number (month_answer m c)) × (n ≡ standing_after m (month_answer m c))
unfolding month_answer refusal_of ruling_on next_on
answer_is m (Call.post d x a) k n e = booked_is m e.post e.number e.left
answer_is m (Call.replace d x a) k n e = booked_is m e.post e.number e.left
answer_is m (Call.withdraw d x) k n e = booked_is m e.post e.number e.left
answer_is m (Call.loss_fee Fee.basic z) k n e = booked_is m e.post e.number e.left
answer_is m (Call.loss_fee Fee.excess z) k n e = booked_is m e.post e.number e.left
answer_is m Call.close k n e = booked_is m e.post e.number e.left

-- and so is each fee's
pub fee_answer_is : (m : Month) (f : Fee) (r : ℕ × ℤ) → FeeAnswers m f r → r ≡ figure_of (λ (a : Dollars). a.0) (pos 0) (fee_told m f)
fee_answer_is m Fee.basic r e = e.told ∙ ap (figure_of (λ (a : Dollars). a.0) (pos 0)) e.post
fee_answer_is m Fee.excess r e = e.told ∙ ap (figure_of (λ (a : Dollars). a.0) (pos 0)) e.post

pub step : (m : Month) (c : Call Fee Item) (k : ℕ) (n : Month) → (k ≡ told_number (month_answer m c)) × (n ≡ standing_after m (month_answer m c))
    → (k ≡ refusal_of (rules_of m) (board_of m) c) × (n.days ≡ m.days) × (board_of n ≡ next_of (rules_of m) (board_of m) c)
step m c k n e = let left = answer_left m c in (
  e.0 ∙ answer_number m c,
  ap (λ (b : Month). b.days) e.1 ∙ left.0,
  ap board_of e.1 ∙ left.1,
)

pub opens_fresh : (days : ℕ) (m : Month) → Ok m ≡ open_of days → (is_days days ≡ true) × (m.days ≡ days) × (board_of m ≡ fresh (month_rules days))
unfolding open_of fresh_month fresh
opens_fresh days m e =
    by_test (is_days days)
    (λ (t : is_days days ≡ true).
    let f : m ≡ fresh_month days = sym (granted_is (unless (is_days days) not_in_month 0) (fresh_month days) (sym e)) in
    (t, ap (λ (n : Month). n.days) f, ap board_of f ∙ board_all days (fresh (month_rules days))))
    (λ (t : is_days days ≡ false).
    let z : not_in_month ≡ 0 = ap (λ b. unless b not_in_month 0) (sym t) ∙ let_through (unless (is_days days) not_in_month 0) (fresh_month days) (sym e) in
    absurd (omega arith))

-- a read-out as its number and its figure: that of nothing where it is refused
abbrev pub figured : Result Dollars Refusal → ℕ × ℤ
figured = figure_of (λ (a : Dollars). a.0) (pos 0)

told_is : (k : ℕ) (z : ℤ) → Known k → figured (told_of (told k z)) ≡ told k z
told_is k z known = go (eqb k 0) (known_number k (dollars z) known)
  where
    go : (t : Bool) → told_number (pick t (Ok (dollars z)) (refused_as k)) ≡ k → figured (pick t (Ok (dollars (pick t z (pos 0)))) (refused_as k)) ≡ (k, pick t z (pos 0))
    go true e = λ i. (e i, z)
    go false e = λ i. (e i, pos 0)

pub reads : (m : Month) (k : ℕ) (z : ℤ) → Known k → figured (read_out m (told k z)) ≡ or_reachable (rules_of m) (pos 0) (board_of m) (told k z)
reads m k z known =
    by_test (well_formed (rules_of m) (board_of m))
    (λ (w : well_formed (rules_of m) (board_of m) ≡ true). rw w (told_is k z known))
    (λ (w : well_formed (rules_of m) (board_of m) ≡ false). rw w)

pub counts : (m : Month) (n : ℕ) → let r = or_reachable (rules_of m) 0 (board_of m) (0, n) in figure_of (λ (n : ℕ). n) 0 (result_by r.0 r.1) ≡ r
counts m n =
    by_test (well_formed (rules_of m) (board_of m))
    (λ (w : well_formed (rules_of m) (board_of m) ≡ true). rw w)
    (λ (w : well_formed (rules_of m) (board_of m) ≡ false). rw w)

unfoldable pub month_laws : Lawful month_ledger
unfolding hour_told day_told fee_told total_told standing_told hour_on day_on
month_laws =
    record {
      plan = λ m. m.days;
      board = board_of;
      sound = month_sound;
      opens = opens_fresh;
      answers = λ m c k n a. step m c k n (answer_is m c k n a);
      hour = λ m d x r e. e.told ∙ ap figured e.post ∙ reads m _ _ (known_in_order (hour_tests (inside (rules_of m) d x) (filled_at (rules_of m) (board_of m) d x)) (refl, (refl, tt)));
      day = λ m d r e. e.told ∙ ap figured e.post ∙ reads m _ _ (known_unless (leb 1 d && leb d m.days) not_in_month 0 refl refl);
      part = λ m q r e. absurd e;
      fee = λ m f r e. fee_answer_is m f r e ∙ reads m 0 ((board_of m).fee f) refl;
      total = λ m r e. e.told ∙ ap figured e.post ∙ reads m 0 (total_on (rules_of m) (board_of m)) refl;
      standing = λ m r e. e.told ∙ ap (figure_of (λ (n : ℕ). n) 0) e.post ∙ counts m (standing_on (rules_of m) (board_of m));
    }

-- ---- the demand

-- "Every month of 28 to 31 days that the papers allow opens, fresh and with no hour standing."
pub opens : (days : ℕ) → is_days days ≡ true → (r : Result Month Refusal) → open_reads.Post tt (days, tt) r (days, tt) → r ≡ Ok (fresh_month days)
unfolding open_of
opens days d r e = e ∙ rw d

-- with no hour standing: every hour of it is 8, every day's sum, the total and the count are 0
pub opens_empty : (days : ℕ) → is_days days ≡ true → (m : Month) → open_reads.Post tt (days, tt) (Ok m) (days, tt) → OpensEmpty month_ledger days m
opens_empty days d m e = any-opens-empty month_ledger month_laws days m e

-- and whatever is called then, the ledger tells what its history tells
pub demand3 : (days : ℕ) (h : List (Recorded Fee Item)) (m : Month) → Run month_ledger days h m → Demand3 month_ledger days h m
demand3 = any-demand3 month_ledger month_laws
