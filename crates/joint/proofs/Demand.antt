-- DEMAND 3 with the joint call: "any run of posts, by hand or by the joint call". A joint call whose hour is accepted with an amount in range is a post by hand of the amount that
-- it worked out, and any other leaves the ledger as it was; so a run with joint calls is a run of the ledger's own calls with
-- the same history. Over any hours worked out; `joint_called`, and SReg `sreg_joint_called`, make any answer that meets a joint call's contract such a call. Assumes nothing.
use Prim.Native.Nat.{ℕ}
use mathlib.Core.Path.{◌≡◌, refl, sym, ap, ◌∙◌, subst}
use mathlib.Core.Bool.{Bool, true, false}
use mathlib.Core.List.{List, [], ◌∷◌}
use lib.Dec.{eqb}
use lib.IntN.{ℤ}
use contract.Lifetimes.{Lfts}
use borrow.Fn.Kinds.{Dens, ended_of}
use borrow.Author.Tests.{eqb-true, eqb-false}
use denote.Triple.Clauses.{AtExit}
use denote.Ref.{Bor}
use Rattle.whole.proofs.Choice.{by_test, passed, both_passed}
use Rattle.units.specs.Limits.{is_amount}
use Rattle.units.specs.declared.Millihertz.{Millihertz}
use Rattle.std.specs.Prelude.{Result, Ok, Err}
use Rattle.units.specs.Refusals.{paper_number, refusal_numbered, told_number}
use Rattle.units.specs.declared.refusal.Refusal.{Refusal}
use Rattle.head.specs.Inner.{standing_after}
use Rattle.units.proofs.Numbered.{numbered_number}
use native.Mathlib.Omega.{arith}
use Rattle.history.specs.Rules.{Call}
use Rattle.history.specs.Demand.{Run, opened, called, Demand3}
use Rattle.history.proofs.Orders.{own_last}
use Rattle.head.specs.Rules.{amount_item}
use Rattle.month.specs.Month.{month_answer}
use Rattle.month.specs.declared.Month.{Month}
use Rattle.demand.specs.Ledger.{month_ledger}
use Rattle.demand.proofs.Demand.{demand3}
use Rattle.hour.specs.Hour.{edreg_hour, refused_hour}
use Rattle.joint.specs.Joint.{joined, joint_refusal, posted_of, worked_by, joint_of}
use Rattle.joint.specs.Runs.{JointCalled, kept_from, Event, calls_of, TurnedAway, post_of, JointRun, opens, by_hand, by_joint, by_refused, WorkedHour, joint_answer, month_after, events_after}
use Rattle.hour.specs.declared.Terms.{Terms}
use Rattle.hour.specs.declared.Shift.{Shift}
use Rattle.hour.specs.declared.Settlement.{Settlement}
use Rattle.joint.specs.declared.Joined.{Joined}
use Rattle.joint.specs.Calls.{joint_handed, month_given, day_given, hour_given}
use Rattle.joint.proofs.SameNumbers.{joint_posts, kept_is}
use Rattle.joint.proofs.joint.Reads as joint_reads
use Rattle.joint.proofs.joint.Kinds as joint_kinds

-- ---- one joint call

-- a refusal of the papers has a number
some_number : (r : Refusal) → paper_number r ≡ 0 → ⊥
some_number r z = let n : ◌≡◌ {A = ℕ} 22 0 = ap paper_number (ap refusal_numbered (sym z) ∙ numbered_number r) ∙ z in absurd (omega arith)

-- the amount of an hour that nothing keeps from the ledger, posted, is answered as by hand
pub posted_is : (worked : Settlement) (m : Month) (d x : ℕ) → kept_from worked ≡ 0 →
    let answer = month_answer m (Call.post d x (amount_item worked.amount.0)) in
    let j = posted_of worked m d x in
    (j.hour.refusal ≡ told_number answer) × (j.month ≡ standing_after m answer)
unfolding posted_of joined refused_hour
posted_is worked m d x fine =
    let number : joint_refusal worked (told_number answer) ≡ told_number answer = rw (accepted, (passed (is_amount worked.amount.0) _ 0 (both_passed worked.refusal _ fine).1).0) (own_last (told_number answer)) in
    subst (λ (k : ℕ). let j = joined k worked (standing_after m answer) m in (j.hour.refusal ≡ told_number answer) × (j.month ≡ standing_after m answer)) (sym number) (go answer)
  where
    accepted : worked.refusal ≡ 0
    accepted = (both_passed worked.refusal _ fine).0

    answer : Result Month Refusal
    answer = month_answer m (Call.post d x (amount_item worked.amount.0))

    go : (y : Result Month Refusal) → ((joined (told_number y) worked (standing_after m y) m).hour.refusal ≡ told_number y) × ((joined (told_number y) worked (standing_after m y) m).month ≡ standing_after m y)
    go (Ok n) = (accepted, refl)
    go (Err r) = by_test (eqb (paper_number r) 0) (λ (t : eqb (paper_number r) 0 ≡ true). absurd (some_number r (eqb-true (paper_number r) 0 t))) (λ (t : eqb (paper_number r) 0 ≡ false). rw t (refl, refl))

-- ---- runs with joint calls

-- any answer that meets `joint`'s contract is one
pub joint_called : (κs : Lfts 5) (b : Dens κs joint_kinds.ps) (j : Joined) (e : AtExit (ended_of 5 joint_kinds.ps joint_kinds.r) κs) → joint_reads.Post κs b j e
    → JointCalled (worked_by (joint_handed b)) (month_given b) (day_given b) (hour_given b) j
joint_called = joint_posts

-- and there is one for anything that is handed in: the definitions' own answer
abbrev pub lend : {X : Type 0} → X → Bor X
lend x = record { ref_ptr = (0, 0); now = x }

pub joint_made : (powers frequencies : List ℤ) (t : Terms) (r : Millihertz) (shift : Shift) (thresholds factors : List ℤ) (earlier : List ℕ) (m : Month) (d x : ℕ) →
    let h = edreg_hour powers frequencies t r shift thresholds factors earlier in
    JointCalled (worked_by h) m d x (joint_of h m d x)
joint_made powers frequencies t r shift ts fs es m d x =
    let κs : Lfts 5 = ([], ([], ([], ([], ([], tt))))) in
    let given : Dens κs joint_kinds.ps = (lend powers, (lend frequencies, (t, (r, (shift, (lend ts, (lend fs, (lend es, (m, (d, (x, tt))))))))))) in
    joint_called κs given (joint_of (edreg_hour powers frequencies t r shift ts fs es) m d x) given refl

pub by_posts : (days : ℕ) (es : List Event) (m : Month) → JointRun month_ledger days es m → Run month_ledger days (calls_of es) m
by_posts days _ m (opens _ o) = opened m o
by_posts days _ n (by_hand es m c k _ run a) = called (calls_of es) m c k n (by_posts days es m run) a
by_posts days _ _ (by_joint es worked m d x j run c z) =
    called (calls_of es) m (post_of worked d x) j.hour.refusal j.month (by_posts days es m run)
    (record {
      answer = month_answer m (post_of worked d x);
      post = refl;
      number = ap (λ (y : Joined). y.hour.refusal) c ∙ (posted_is worked m d x z).0;
      left = ap (λ (y : Joined). y.month) c ∙ (posted_is worked m d x z).1;
    })
by_posts days _ _ (by_refused es worked m d x j run c f) =
    subst (Run month_ledger days (calls_of es)) (sym (ap (λ (y : Joined). y.month) (c ∙ kept_is worked m d x f))) (by_posts days es m run)

turned_away : (days : ℕ) (es : List Event) (m : Month) → JointRun month_ledger days es m → TurnedAway es
turned_away days _ m (opens _ o) = tt
turned_away days _ n (by_hand es m c k _ run a) = turned_away days es m run
turned_away days _ _ (by_joint es worked m d x j run c z) = turned_away days es m run
turned_away days _ _ (by_refused es worked m d x j run c f) = (f, c ∙ kept_is worked m d x f, turned_away days es m run)

-- the demand, over runs that mix the joint call with calls by hand
pub joint_demand3 : (days : ℕ) (es : List Event) (m : Month) → JointRun month_ledger days es m → Demand3 month_ledger days (calls_of es) m × TurnedAway es
joint_demand3 days es m run = (demand3 days (calls_of es) m (by_posts days es m run), turned_away days es m run)

-- ---- there are such runs: from every month that opens, for every list of hours worked out, each with the day and the hour to post it on

pub joint_able : (days : ℕ) (m : Month) → month_ledger.Opens days m → (asked : List WorkedHour) → JointRun month_ledger days (events_after m asked) (month_after m asked)
joint_able days m o [] = opens m o
joint_able days m o (a ∷ before) =
    let w = a.worked in
    let n = month_after m before in
    let run = joint_able days m o before in
    by_test (eqb (kept_from w) 0)
    (λ (t : eqb (kept_from w) 0 ≡ true). rw t (by_joint (events_after m before) w n a.day a.hour (joint_answer a n) run refl (eqb-true (kept_from w) 0 t)))
    (λ (t : eqb (kept_from w) 0 ≡ false). rw t (by_refused (events_after m before) w n a.day a.hour (joint_answer a n) run refl (eqb-false (kept_from w) 0 t)))
