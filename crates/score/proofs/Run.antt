-- A run of seconds that is not refused, test by test, and each of its seconds. By the tests of its refusal. Assumes nothing.
use Prim.Native.Nat.{ℕ, ◌<◌}
use mathlib.Core.Path.{◌≡◌, refl, sym, ap, ◌∙◌}
use mathlib.Core.Bool.{Bool, true, false, ◌&&◌}
use mathlib.Core.List.{List}
use native.Mathlib.Omega.{arith}
use lib.Dec.{eqb}
use lib.IntN.{ℤ, pos}
use lib.ListN.{length, get_or}
use borrow.Author.Tests.{eqb-true, eq-eqb}
use Rattle.whole.specs.Choice.{unless}
use Rattle.whole.specs.Folds.{all_to}
use Rattle.whole.specs.Whole.{minus, all_in_range}
use Rattle.whole.specs.Runs.{listed}
use Rattle.whole.proofs.Choice.{and_both, all_passed}
use Rattle.whole.proofs.Folds.{all_and}
use Rattle.whole.proofs.Sums.{all_inside}
use Rattle.units.specs.Refusals.{bad_transfer, bad_reading}
use Rattle.units.specs.Limits.{most_power, is_power, are_powers, least_frequency, most_frequency, is_frequency, are_frequencies, most_transfer, is_transfer, are_transfers}
use Rattle.units.specs.Units.{kilowatts, millihertz}
use Rattle.units.specs.declared.Kilowatts.{Kilowatts}
use Rattle.units.specs.declared.Millihertz.{Millihertz}
use Rattle.score.specs.Score.{second_refusal}
use Rattle.score.specs.Run.{run_tests, run_refusal, run_score_at, run_scores}
use Rattle.score.specs.Inner.{second_fits, fit_at, seconds_refusal}
use Rattle.score.specs.Accepted.{RunFits}
use Rattle.score.proofs.Laws.{fit_second}

module _ (powers frequencies transfers : List ℤ) (capacity : Kilowatts) (reference : Millihertz) (places : ℕ) where
  pub run_fit : run_refusal powers frequencies transfers capacity reference places ≡ 0 → RunFits powers frequencies transfers capacity reference places
  unfolding run_refusal
  run_fit e =
      let f = eqb (length frequencies) (length powers) in
      let t = eqb (length transfers) (length powers) in
      let s = eqb places (length powers) in
      let p = all_passed (run_tests powers frequencies transfers capacity reference places) refl e in
      let all = and_both (f && t) s p.0 in
      let two = and_both f t all.0 in
      let readings = and_both (are_powers powers) (are_frequencies frequencies) p.1.1.1.1.0 in
      record {
        as_frequencies = eqb-true (length frequencies) (length powers) two.0;
        as_transfers = eqb-true (length transfers) (length powers) two.1;
        as_places = eqb-true places (length powers) all.1;
        capacity_fits = p.1.0;
        reference_fits = p.1.1.0;
        transfers_fit = p.1.1.1.0;
        powers_fit = readings.0;
        frequencies_fit = readings.1;
      }

  pub fit_run : RunFits powers frequencies transfers capacity reference places → run_refusal powers frequencies transfers capacity reference places ≡ 0
  unfolding run_refusal
  fit_run f =
      let n = length powers in
      rw (eq-eqb (length frequencies) n f.as_frequencies, eq-eqb (length transfers) n f.as_transfers, eq-eqb places n f.as_places, f.capacity_fits, f.reference_fits, f.transfers_fit, f.powers_fit, f.frequencies_fit)

  -- each second of it
  pub run_second : RunFits powers frequencies transfers capacity reference places → (i : ℕ) → i < length powers
      → second_refusal (kilowatts (get_or powers i (pos 0))) (kilowatts (get_or transfers i (pos 0))) capacity (millihertz (get_or frequencies i (pos 0))) reference ≡ 0
  run_second f i h =
      let n = f.as_frequencies in
      let t = f.as_transfers in
      fit_second _ _ _ _ _
      (record {
        capacity = f.capacity_fits;
        reference = f.reference_fits;
        transfer = all_inside (minus most_transfer) (pos most_transfer) transfers f.transfers_fit i (omega arith);
        power = all_inside (minus most_power) (pos most_power) powers f.powers_fit i h;
        frequency = all_inside (pos least_frequency) (pos most_frequency) frequencies f.frequencies_fit i (omega arith);
      })

  -- the scores, without writing them out
  pub run_scores_is : (n : ℕ) → n ≡ length powers → listed (run_score_at powers frequencies transfers capacity reference) 0 n ≡ run_scores powers frequencies transfers capacity reference
  unfolding run_scores
  run_scores_is n e = ap (listed (run_score_at powers frequencies transfers capacity reference) 0) e

-- ---- the seconds, looked at once

-- where every test passed, and where one failed
none : (t r : Bool) → (t && r) ≡ true → unless t bad_transfer (unless r bad_reading 0) ≡ 0
none t r e = let b = and_both t r e in rw (b.0, b.1)

which : (t r : Bool) → (t && r) ≡ false → unless t bad_transfer bad_reading ≡ unless t bad_transfer (unless r bad_reading 0)
which true r e = rw e
which false r e = refl

module _ (powers frequencies transfers : List ℤ) (f : length frequencies ≡ length powers) (t : length transfers ≡ length powers) where
  abbrev planned : Bool
  planned = are_transfers transfers

  abbrev read : Bool
  read = are_powers powers && are_frequencies frequencies

  all_fit : all_to (length powers) (fit_at powers frequencies transfers) ≡ (planned && read)
  unfolding second_fits all_in_range
  all_fit =
      let n = length powers in
      let p : ℕ → Bool = λ (i : ℕ). is_power (get_or powers i (pos 0)) in
      let q : ℕ → Bool = λ (i : ℕ). is_frequency (get_or frequencies i (pos 0)) in
      let r : ℕ → Bool = λ (i : ℕ). is_transfer (get_or transfers i (pos 0)) in
      rw (f, t) (all_and n r (λ k. p k && q k) ∙ ap (λ b. all_to n r && b) (all_and n p q))

  pub fit_none : all_to (length powers) (fit_at powers frequencies transfers) ≡ true → seconds_refusal powers frequencies transfers ≡ 0
  fit_none e = none planned read (sym all_fit ∙ e)

  pub fit_which : all_to (length powers) (fit_at powers frequencies transfers) ≡ false → unless planned bad_transfer bad_reading ≡ seconds_refusal powers frequencies transfers
  fit_which e = which planned read (sym all_fit ∙ e)
