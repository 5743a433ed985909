-- A dReg hour is the E-dReg hour that shifts nothing, in its answer and in the run that it leaves: targets of 0 plan no transfer, and prices of 0 bring no energy
-- service fee. Assumes nothing.
use Prim.Native.Nat.{ℕ, zero, suc}
use mathlib.Core.Path.{◌≡◌, refl, sym, ◌∙◌}
use mathlib.Core.Bool.{true}
use mathlib.Core.List.{List}
use lib.IntN.{ℤ, pos}
use lib.ListN.{length, get_or, replicate}
use Rattle.whole.specs.Folds.{fold_to}
use Rattle.whole.specs.Runs.{listed}
use Rattle.whole.specs.Whole.{in_range, all_in_range}
use Rattle.units.specs.Limits.{seconds_of_hour}
use Rattle.units.specs.declared.Millihertz.{Millihertz}
use Rattle.ramp.specs.Ramp.{transfer_at, plan_of}
use Rattle.ramp.proofs.Laws.{plan_is, transfer_none}
use Rattle.fees.proofs.Laws.{free_energy}
use Rattle.hour.specs.Hour.{dreg, edreg, dreg_hour, edreg_hour, no_shift, quarters, transfers_of, energy_prices_fit, targets_fit, hour_refusal, scores_of, scores_left, rate_of, hour_answer}
use Rattle.hour.specs.declared.Terms.{Terms}

-- a rule that is one value lists it over and over
listed_one : {A : Type 0} (f : ℕ → A) (z : A) → ((i : ℕ) → f i ≡ z) → (i n : ℕ) → listed f i n ≡ replicate n z
listed_one f z h i zero = refl
listed_one f z h i (suc n) = rw (h i, listed_one f z h (suc i) n)

zeros_at : (n q : ℕ) → get_or (replicate n (pos 0)) q (pos 0) ≡ pos 0
zeros_at zero q = refl
zeros_at (suc n) zero = refl
zeros_at (suc n) (suc q) = zeros_at n q

plan_none : (n : ℕ) → n ≡ seconds_of_hour → plan_of no_shift.targets ≡ replicate n (pos 0)
plan_none n e = sym (plan_is no_shift.targets n e) ∙ listed_one (transfer_at no_shift.targets) (pos 0) (λ i. transfer_none no_shift.targets i (zeros_at 5)) 0 n

no_transfers : transfers_of (edreg no_shift) ≡ transfers_of dreg
unfolding transfers_of
no_transfers = plan_none seconds_of_hour refl

no_prices : energy_prices_fit (edreg no_shift) ≡ true
unfolding in_range
no_prices = refl

no_targets : targets_fit (edreg no_shift) ≡ true
unfolding all_in_range in_range fold_to
no_targets = refl

module _ (powers frequencies : List ℤ) (terms : Terms) (reference : Millihertz) (thresholds factors : List ℤ) (earlier : List ℕ) where
  same_refusal : (places : ℕ) → hour_refusal (edreg_hour powers frequencies terms reference no_shift thresholds factors earlier) places ≡ hour_refusal (dreg_hour powers frequencies terms reference thresholds factors earlier) places
  unfolding hour_refusal
  same_refusal places = rw (no_prices, no_targets)

  same_scores : scores_of (edreg_hour powers frequencies terms reference no_shift thresholds factors earlier) ≡ scores_of (dreg_hour powers frequencies terms reference thresholds factors earlier)
  unfolding scores_of
  same_scores = rw no_transfers

  pub dreg_without : (places : ℕ) → hour_answer (dreg_hour powers frequencies terms reference thresholds factors earlier) places ≡ hour_answer (edreg_hour powers frequencies terms reference no_shift thresholds factors earlier) places
  unfolding hour_answer
  dreg_without places = sym (rw (same_refusal places, rate_of, same_scores, free_energy powers (quarters no_shift)))

  pub dreg_without_left : (run : List ℕ) → scores_left (dreg_hour powers frequencies terms reference thresholds factors earlier) run ≡ scores_left (edreg_hour powers frequencies terms reference no_shift thresholds factors earlier) run
  unfolding scores_left
  dreg_without_left run = sym (rw (same_refusal (length run), same_scores))
