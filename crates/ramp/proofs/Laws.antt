-- What a ramp answers, for the crates above: it stays between its targets, reaches the new one with second 300, and an hour's plan is the ramps of
-- its quarters. By the sign of the difference. Assumes nothing.
use mathlib.Core.Path.{◌≡◌, refl, sym, ap, ap₂, ◌∙◌}
use mathlib.Core.Bool.{Bool, true, false}
use mathlib.Core.List.{List, [], ◌∷◌}
use Prim.Native.Nat.{ℕ, zero, suc, ◌+◌, ◌*◌, ◌/◌, ◌%◌, ◌≤◌, ◌<◌}
use native.Mathlib.Nat.{mul-le-mul_left, zero-add}
use native.Mathlib.Omega.{arith}
use lib.Dec.{eqb, leb, lit<}
use lib.IntN.{ℤ, pos, negsuc, nat_abs, ◌+ℤ◌, ◌-ℤ◌, ◌*ℤ◌, +ℤ_comm, +ℤ_idr, +ℤ_invr, -ℤ-+ℤ_cancel, zero-*ℤ}
use lib.ListN.{length, get_or, get_or-eq_default}
use borrow.Author.Tests.{eqb-true, eq-eqb, leb-true, leb-false}
use Rattle.whole.specs.Choice.{in_order}
use Rattle.whole.specs.Runs.{listed}
use Rattle.whole.specs.Whole.{minus, up, down, Within, away, with_sign, round_up}
use Rattle.whole.proofs.Choice.{by_test, all_passed}
use Rattle.whole.proofs.Signed.{sum, difference, opposite, times, size_product}
use Rattle.whole.proofs.Runs.{length_listed, listed_same, get_d_listed}
use Rattle.whole.proofs.Rounding.{away_within, away_only, sign_up, sign_down}
use Rattle.whole.proofs.Sums.{in_within, within_in, all_inside, inside_all}
use Rattle.units.specs.Limits.{most_transfer, is_transfer, are_transfers, seconds_of_quarter, seconds_of_hour, seconds_of_ramp}
use Rattle.units.specs.Refusals.{wrong_length, bad_transfer, told_number, result_by}
use Rattle.units.specs.declared.Kilowatts.{Kilowatts}
use Rattle.ramp.specs.Ramp.{ramp_at, ramp_of, ramp_refusal, transfer_at, plan_of, plan_refusal, plan_left}
use Rattle.ramp.specs.Accepted.{PlanFits}

-- the ramp, without writing its 900 seconds out
pub ramp_is : (last target : ℤ) (n : ℕ) → n ≡ seconds_of_quarter → listed (ramp_at last target) 1 n ≡ ramp_of last target
unfolding ramp_of
ramp_is last target n e = ap (listed (ramp_at last target) 1) e

pub within_target : (z : ℤ) → Within most_transfer z → is_transfer z ≡ true
within_target z w = within_in w

-- a ramp that is not refused
pub ramp_fit : (last target : Kilowatts) (places : ℕ) → ramp_refusal last target places ≡ 0
    → (places ≡ seconds_of_quarter) × (Within most_transfer last.0 × Within most_transfer target.0)
unfolding ramp_refusal
ramp_fit last target places e =
    let p = all_passed ((eqb places seconds_of_quarter, wrong_length) ∷ (is_transfer last.0, bad_transfer) ∷ (is_transfer target.0, bad_transfer) ∷ []) refl e in
    (eqb-true places seconds_of_quarter p.0, (in_within p.1.0, in_within p.1.1.0))

-- the number of a ramp's answer is that of its tests
pub ramp_number : (last target : Kilowatts) (places : ℕ) → told_number (result_by (ramp_refusal last target places) (tt {0})) ≡ ramp_refusal last target places
unfolding ramp_refusal
ramp_number last target places = by (eqb places seconds_of_quarter) (is_transfer last.0) (is_transfer target.0)
  where
    by : (a b c : Bool) → let k = in_order ((a, wrong_length) ∷ (b, bad_transfer) ∷ (c, bad_transfer) ∷ []) in told_number (result_by k (tt {0})) ≡ k
    by false b c = refl
    by true false c = refl
    by true true false = refl
    by true true true = refl

-- ---- a ramp stays between its targets

grown : (d n : ℕ) → n ≤ seconds_of_ramp → round_up (d * n) seconds_of_ramp ≤ d
unfolding away with_sign
grown d n h =
    let w : Within d (pos (round_up (d * n) seconds_of_ramp)) = away_within (pos (d * n)) seconds_of_ramp d (lit< tt) (mul-le-mul_left d h) in
    omega arith

away_minus : (m : ℕ) → away (minus m) seconds_of_ramp ≡ minus (round_up m seconds_of_ramp)
unfolding away with_sign round_up
away_minus zero = refl
away_minus (suc m) = refl

-- on the way from last to target, `way` their difference
between : (last target way : ℤ) (n : ℕ) → n ≤ seconds_of_ramp → Within most_transfer last → Within most_transfer target
    → up way + (down target + up last) ≡ (up target + down last) + down way → Within most_transfer (last +ℤ away (way *ℤ pos n) seconds_of_ramp)
unfolding away with_sign
between last target (pos d) n h l t e = omega (arith, sum last (pos (round_up (d * n) seconds_of_ramp)), grown d n h)
between last target (negsuc d) n h l t e =
    let x = round_up (suc d * n) seconds_of_ramp in
    rw (away_minus (suc d * n)) (omega (arith, sum last (minus x), opposite (pos x), grown (suc d) n h))

pub ramp_within : (last target : ℤ) (n : ℕ) → Within most_transfer last → Within most_transfer target → Within most_transfer (ramp_at last target n)
unfolding ramp_at
ramp_within last target n l t =
    by_test (leb n seconds_of_ramp)
    (λ (e : leb n seconds_of_ramp ≡ true). rw e (between last target (target -ℤ last) n (leb-true n seconds_of_ramp e) l t (difference target last)))
    (λ (e : leb n seconds_of_ramp ≡ false). rw e t)

-- ---- where the ramp leads: second 300 is the target, and a ramp from a target to itself stays there

same_sign : (d : ℤ) → d ≡ with_sign (d *ℤ pos seconds_of_ramp) (nat_abs d)
same_sign (pos n) = sym (sign_up (pos n *ℤ pos seconds_of_ramp) n (omega arith))
same_sign (negsuc n) = sym (sign_down (negsuc n *ℤ pos seconds_of_ramp) (suc n) (omega (arith, times seconds_of_ramp (negsuc n))))

whole_part : (d : ℤ) → away (d *ℤ pos seconds_of_ramp) seconds_of_ramp ≡ d
whole_part d =
    let n : nat_abs (d *ℤ pos seconds_of_ramp) ≡ nat_abs d * seconds_of_ramp = size_product d (pos seconds_of_ramp) in
    sym (away_only (d *ℤ pos seconds_of_ramp) d seconds_of_ramp (lit< tt) (record { sign = same_sign d; reaches = omega arith; least = omega arith }))

pub ramp_reaches : (last target : ℤ) → ramp_at last target seconds_of_ramp ≡ target
unfolding ramp_at
ramp_reaches last target = rw (whole_part (target -ℤ last)) (+ℤ_comm last (target -ℤ last) ∙ -ℤ-+ℤ_cancel target last)

pub ramp_level : (z : ℤ) (n : ℕ) → ramp_at z z n ≡ z
unfolding ramp_at
ramp_level z n =
    by_test (leb n seconds_of_ramp)
    (λ (e : leb n seconds_of_ramp ≡ true). rw (e, +ℤ_invr z, zero-*ℤ (pos n), whole_part (pos 0)) (+ℤ_idr z))
    (λ (e : leb n seconds_of_ramp ≡ false). rw e)

-- ---- an hour's plan

-- a target past the list's end is 0
at_target : (targets : List ℤ) (q : ℕ) → are_transfers targets ≡ true → is_transfer (get_or targets q (pos 0)) ≡ true
at_target targets q e =
    by_test (leb (length targets) q)
    (λ (t : leb (length targets) q ≡ true). rw (get_or-eq_default targets (pos 0) (leb-true (length targets) q t)) (within_target (pos 0) (omega arith)))
    (λ (t : leb (length targets) q ≡ false). all_inside (minus most_transfer) (pos most_transfer) targets e q (omega (arith, leb-false (length targets) q t)))

pub transfer_within : (targets : List ℤ) (i : ℕ) → are_transfers targets ≡ true → Within most_transfer (transfer_at targets i)
unfolding transfer_at
transfer_within targets i e =
    ramp_within (get_or targets (i / seconds_of_quarter) (pos 0)) (get_or targets (i / seconds_of_quarter + 1) (pos 0)) (i % seconds_of_quarter + 1)
    (in_within (at_target targets (i / seconds_of_quarter) e)) (in_within (at_target targets (i / seconds_of_quarter + 1) e))

pub plan_fit : (targets : List ℤ) (places : ℕ) → plan_refusal targets places ≡ 0 → PlanFits targets places
unfolding plan_refusal
plan_fit targets places e =
    let p = all_passed ((eqb (length targets) 5, wrong_length) ∷ (eqb places seconds_of_hour, wrong_length) ∷ (are_transfers targets, bad_transfer) ∷ []) refl e in
    record { five = eqb-true (length targets) 5 p.0; long = eqb-true places seconds_of_hour p.1.0; inside = p.1.1.0 }

-- each quarter's ramp is its part of the plan, without writing its 900 seconds out
pub plan_quarter : (targets : List ℤ) (q n : ℕ) → n ≡ seconds_of_quarter
    → ramp_of (get_or targets q (pos 0)) (get_or targets (q + 1) (pos 0)) ≡ listed (transfer_at targets) (q * seconds_of_quarter) n
unfolding transfer_at
plan_quarter targets q n long =
    sym (ramp_is (get_or targets q (pos 0)) (get_or targets (q + 1) (pos 0)) n long)
    ∙ listed_same (ramp_at (get_or targets q (pos 0)) (get_or targets (q + 1) (pos 0))) (transfer_at targets) 1 (q * seconds_of_quarter) n
    (λ k l.
    let d : (q * seconds_of_quarter + k) / seconds_of_quarter ≡ q = omega arith in
    let m : (q * seconds_of_quarter + k) % seconds_of_quarter + 1 ≡ 1 + k = omega arith in
    rw (d, m))

-- the whole plan, without writing its 3,600 seconds out
pub plan_is : (targets : List ℤ) (n : ℕ) → n ≡ seconds_of_hour → listed (transfer_at targets) 0 n ≡ plan_of targets
unfolding plan_of
plan_is targets n e = ap (listed (transfer_at targets) 0) e

pub plan_at : (targets : List ℤ) (i : ℕ) → i < seconds_of_hour → get_or (plan_of targets) i (pos 0) ≡ transfer_at targets i
unfolding plan_of
plan_at targets i h = get_d_listed (transfer_at targets) 0 seconds_of_hour i (pos 0) h ∙ ap (transfer_at targets) (zero-add i)

pub length_plan : (targets : List ℤ) → length (plan_of targets) ≡ seconds_of_hour
unfolding plan_of
length_plan targets = length_listed (transfer_at targets) 0 seconds_of_hour

pub plan_inside : (targets : List ℤ) → are_transfers targets ≡ true → are_transfers (plan_of targets) ≡ true
plan_inside targets e =
    let n = length_plan targets in
    inside_all (minus most_transfer) (pos most_transfer) (plan_of targets)
    (λ i h. let at = plan_at targets i (omega arith) in rw at (within_in (transfer_within targets i e)))

-- a plan of five targets in their range is not refused
pub plan_granted : (targets run : List ℤ) → PlanFits targets (length run) → plan_left targets run ≡ plan_of targets
unfolding plan_left plan_refusal
plan_granted targets run f = rw (eq-eqb (length targets) 5 f.five, eq-eqb (length run) seconds_of_hour f.long, f.inside)

-- an hour whose targets are all 0 transfers nothing
pub transfer_none : (targets : List ℤ) (i : ℕ) → ((q : ℕ) → get_or targets q (pos 0) ≡ pos 0) → transfer_at targets i ≡ pos 0
unfolding transfer_at
transfer_none targets i zeros = ap₂ (λ (last target : ℤ). ramp_at last target (i % seconds_of_quarter + 1)) (zeros (i / seconds_of_quarter)) (zeros (i / seconds_of_quarter + 1)) ∙ ramp_level (pos 0) (i % seconds_of_quarter + 1)
