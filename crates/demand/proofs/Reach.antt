-- Refusal 22 is exact: a call or a read-out is refused with 22 just where no run of calls from a fresh month hands the ledger back. From the theory
-- of any ledger (crates/history, Reach): the month's calls can be made, and its days and its board are all of it. Assumes nothing.
use Prim.Native.Nat.{ℕ}
use mathlib.Core.Path.{◌≡◌, refl, sym, ap, ◌∙◌}
use native.Mathlib.Omega.{arith}
use lib.Dec.{eqb}
use lib.ListN.{length}
use contract.Lifetimes.{Lfts}
use denote.Triple.Clauses.{AtExit}
use borrow.Author.Tests.{eqb-true}
use Rattle.whole.specs.Choice.{unless}
use Rattle.whole.proofs.Choice.{and_both, by_test}
use Rattle.std.specs.Prelude.{Result}
use Rattle.units.specs.Refusals.{not_reachable, told_number}
use Rattle.units.specs.declared.refusal.Refusal.{Refusal}
use Rattle.head.specs.Inner.{standing_after}
use Rattle.board.proofs.Core.{ledger_number}
use mathlib.Core.Logic.{◌↔◌}
use mathlib.Core.Bool.{Bool, true, false}
use lib.IntN.{ℤ}
use Rattle.history.specs.Rules.{Call}
use Rattle.history.specs.Board.{well_formed, refusal_of, ruling_on, next_on}
use Rattle.history.specs.Inner.{runs_fit, ledger_refusal}
use Rattle.history.specs.Demand.{Reachable, Just22, Exact22}
use Rattle.history.proofs.Board.{Held}
use Rattle.history.proofs.Reach.{Able, exact_22}
use Rattle.history.proofs.Reach.{reachable_iff as any-reachable-iff}
use Rattle.units.specs.Limits.{month_places}
use Rattle.head.specs.Rules.{Fee, Item}
use Rattle.month.specs.Month.{rules_of, board_of, month_of, fresh_month, open_of, month_answer}
use Rattle.month.specs.Inner.{month_in}
use Rattle.month.specs.declared.Month.{Month}
use Rattle.head.proofs.Sound.{month_small}
use Rattle.demand.specs.Ledger.{Answers, month_ledger}
use Rattle.demand.proofs.Demand.{month_laws}
use denote.Struct.Laws.{owed}
use borrow.Fn.Kinds.{Dens, GoodsP, ended_of}
use Rattle.board.specs.Calls.{lent_marks, lent_amounts}
use Rattle.board.proofs.check_in.Reads as check_in_reads
use Rattle.board.proofs.check_in.Kinds as check_in_kinds
use Rattle.month.specs.contracts.Month as month
use Rattle.month.proofs.Month.TheLaws as month_type_laws
use Rattle.month.proofs.Month.total.Kinds as total_kinds

able : Able month_ledger month_laws
unfolding open_of month_laws month_answer refusal_of ruling_on next_on
able =
    record {
      first = fresh_month;
      opens = λ days d. rw d;
      number = λ m c. told_number (month_answer m c);
      next = λ m c. standing_after m (month_answer m c);
      answers = met;
      same = λ m n d b i. month_of (d i) (b i);
    }
  where
    met : (m : Month) (c : Call Fee Item) → Answers m c (told_number (month_answer m c)) (standing_after m (month_answer m c))
    met m (Call.post d x a) = record { answer = month_answer m (Call.post d x a); post = refl; number = refl; left = refl }
    met m (Call.replace d x a) = record { answer = month_answer m (Call.replace d x a); post = refl; number = refl; left = refl }
    met m (Call.withdraw d x) = record { answer = month_answer m (Call.withdraw d x); post = refl; number = refl; left = refl }
    met m (Call.loss_fee Fee.basic z) = record { answer = month_answer m (Call.loss_fee Fee.basic z); post = refl; number = refl; left = refl }
    met m (Call.loss_fee Fee.excess z) = record { answer = month_answer m (Call.loss_fee Fee.excess z); post = refl; number = refl; left = refl }
    met m Call.close = record { answer = month_answer m Call.close; post = refl; number = refl; left = refl }

-- what the type holds, as the toolchain says it of a month that is handed in: a mark and an amount for each place
held : (m : Month) → GoodsP tt total_kinds.ps (m, tt) → Held (rules_of m) (board_of m)
held m g =
    let f = owed month.the_type month_type_laws.the_laws m _ g.0 in
    record { marks = f.1.1.1.1.0.1.0.1; amounts = f.1.1.1.1.1.0.1.0.1 }

-- of a month that lies in its type, which is what the toolchain holds of every one that is handed in
module _ (m : Month) (typed : GoodsP tt total_kinds.ps (m, tt)) where
  pub reachable_iff : (well_formed (rules_of m) (board_of m) ≡ true) ↔ Reachable month_ledger m
  unfolding month_laws
  reachable_iff = any-reachable-iff month_ledger month_laws able m (held m typed)

  pub month_22 : Exact22 month_ledger m
  unfolding month_laws
  month_22 = exact_22 month_ledger month_laws able month_small m (held m typed)

-- ---- the test in place: on runs that are the ledger's, `board::check_in` answers 22 just where no run of calls hands the month of that head and those runs back

pub check_in_22 : (κs : Lfts 1) (a : Dens κs check_in_kinds.ps) (y : Result (Unit {0}) Refusal) (s : AtExit (ended_of 1 check_in_kinds.ps check_in_kinds.r) κs) → check_in_reads.Post κs a y s →
    let m = month_in a.0 a.1.0.now a.1.1.0.now in
    runs_fit (rules_of m) (board_of m) ≡ true → Just22 month_ledger m (told_number y)
unfolding month_laws ledger_refusal
check_in_22 κs a y s p runs =
    let m = month_in a.0 a.1.0.now a.1.1.0.now in
    let long = and_both (eqb (length m.marks) month_places) (eqb (length m.amounts) month_places) runs in
    let reach = any-reachable-iff month_ledger month_laws able m (record { marks = eqb-true (length m.marks) month_places long.0; amounts = eqb-true (length m.amounts) month_places long.1 }) in
    let number : told_number y ≡ unless (well_formed (rules_of m) (board_of m)) not_reachable 0 = ap told_number p ∙ ledger_number m.days (board_of m) ∙ rw runs in (
      (λ e r. let z : ◌≡◌ {A = ℕ} 22 0 = sym e ∙ number ∙ rw (reach.1 r) in absurd (omega arith)),
      λ f.
          by_test (well_formed (rules_of m) (board_of m))
          (λ (w : well_formed (rules_of m) (board_of m) ≡ true). absurd (f (reach.0 w)))
          (λ (w : well_formed (rules_of m) (board_of m) ≡ false). number ∙ rw w),
    )
