-- A ramp that is accepted is formula 1, second by second, and an hour's plan the ramps of its quarters; and what fits is accepted. Over the contracts of
-- `ramp` and `plan` as the source states them: they are equations, and an answer that is no refusal has let every test through. Assumes nothing.
use Prim.Native.Nat.{ℕ}
use mathlib.Core.Path.{◌≡◌, sym, ap, ◌∙◌, subst}
use mathlib.Core.List.{List}
use native.Mathlib.Omega.{arith}
use lib.IntN.{ℤ, pos}
use lib.ListN.{length}
use contract.Lifetimes.{Lfts}
use denote.Ref.{Bor, MutBor}
use denote.Triple.Clauses.{AtExit}
use borrow.Fn.Kinds.{ended_of}
use borrow.Author.Tests.{eq-eqb}
use Rattle.whole.specs.Whole.{Within}
use Rattle.whole.proofs.Choice.{kept_new}
use Rattle.whole.proofs.Runs.{length_listed, get_d_listed}
use Rattle.units.specs.Limits.{most_transfer, seconds_of_quarter, seconds_of_hour}
use Rattle.std.specs.Prelude.{Result, Ok}
use Rattle.units.specs.declared.refusal.Refusal.{Refusal}
use Rattle.units.proofs.Numbered.{let_through, answered_ok}
use Rattle.units.specs.declared.Kilowatts.{Kilowatts}
use Rattle.ramp.specs.Ramp.{ramp_at, ramp_of, ramp_refusal, ramp_left, plan_of, plan_refusal, plan_left}
use Rattle.ramp.proofs.Laws.{within_target, plan_at, length_plan}
use Rattle.ramp.specs.Accepted.{PlanFits, Ramped, Planned}
use Rattle.ramp.specs.Calls.{ramp_run, plan_run}
use Rattle.ramp.proofs.ramp.Reads as ramp
use Rattle.ramp.proofs.ramp.Kinds as ramp_kinds
use Rattle.ramp.proofs.plan.Reads as plan
use Rattle.ramp.proofs.plan.Kinds as plan_kinds

-- ---- a quarter

pub ramp_ramped : (last target : ℤ) → Ramped last target (ramp_of last target)
unfolding ramp_of
ramp_ramped last target =
    record {
      seconds = length_listed (ramp_at last target) 1 seconds_of_quarter;
      second = λ i h. get_d_listed (ramp_at last target) 1 seconds_of_quarter i (pos 0) h ∙ ap (ramp_at last target) (omega arith);
    }

-- what fits is not refused
pub ramp_none : (last target : Kilowatts) (places : ℕ) → places ≡ seconds_of_quarter → Within most_transfer last.0 → Within most_transfer target.0 → ramp_refusal last target places ≡ 0
unfolding ramp_refusal
ramp_none last target places long l t = rw (eq-eqb places seconds_of_quarter long, within_target last.0 l, within_target target.0 t)

module _ (κs : Lfts 1) (last target : Kilowatts) (seconds : MutBor (List ℤ)) (r : Result (Unit {0}) Refusal) (s : AtExit (ended_of 1 ramp_kinds.ps ramp_kinds.r) κs)
    (met : ramp.Post κs (last, (target, (seconds, tt))) r s) where
  pub ramp_accepted : r ≡ Ok tt → Ramped last.0 target.0 (ramp_run κs s)
  unfolding ramp_left
  ramp_accepted none = subst (Ramped last.0 target.0) (sym (met.1 ∙ kept_new _ _ (let_through _ tt (sym met.0 ∙ none)))) (ramp_ramped last.0 target.0)

  pub ramp_fit_accepted : length seconds.now ≡ seconds_of_quarter → Within most_transfer last.0 → Within most_transfer target.0
      → (r ≡ Ok tt) × Ramped last.0 target.0 (ramp_run κs s)
  ramp_fit_accepted long l t =
      let none = met.0 ∙ answered_ok tt (ramp_none last target (length seconds.now) long l t) in
      (none, ramp_accepted none)

-- ---- an hour

pub plan_planned : (targets : List ℤ) → Planned targets (plan_of targets)
plan_planned targets = record { seconds = length_plan targets; second = plan_at targets }

pub plan_none : (targets : List ℤ) (places : ℕ) → PlanFits targets places → plan_refusal targets places ≡ 0
unfolding plan_refusal
plan_none targets places f = rw (eq-eqb (length targets) 5 f.five, eq-eqb places seconds_of_hour f.long, f.inside)

module _ (κs : Lfts 2) (targets : Bor (List ℤ)) (seconds : MutBor (List ℤ)) (r : Result (Unit {0}) Refusal) (s : AtExit (ended_of 2 plan_kinds.ps plan_kinds.r) κs)
    (met : plan.Post κs (targets, (seconds, tt)) r s) where
  pub plan_accepted : r ≡ Ok tt → Planned targets.now (plan_run κs s)
  unfolding plan_left
  plan_accepted none = subst (Planned targets.now) (sym (met.1 ∙ kept_new _ _ (let_through _ tt (sym met.0 ∙ none)))) (plan_planned targets.now)

  pub plan_fit_accepted : PlanFits targets.now (length seconds.now) → (r ≡ Ok tt) × Planned targets.now (plan_run κs s)
  plan_fit_accepted f = let none = met.0 ∙ answered_ok tt (plan_none targets.now (length seconds.now) f) in (none, plan_accepted none)
