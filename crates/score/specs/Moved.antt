-- What the theorems of document 02, #107 (proofs/Moved.antt) are stated in: a second's score and a run's as document 01 has them, with no reference; and frequencies, each moved.
use Rattle.std.specs.Prelude.{ℕ, ◌≡◌, true, ◌&&◌, List, [], ◌∷◌, map, eqb, ℤ, pos, ◌+ℤ◌, length, get_or}
use Rattle.whole.specs.Choice.{in_order, kept}
use Rattle.whole.specs.Runs.{listed}
use Rattle.units.specs.Refusals.{wrong_length, bad_capacity, bad_reading, bad_transfer}
use Rattle.units.specs.Limits.{is_capacity, is_reference, is_transfer, are_powers, are_frequencies, are_transfers}
use Rattle.units.specs.Units.{kilowatts, millihertz}
use Rattle.units.specs.declared.Kilowatts.{Kilowatts}
use Rattle.units.specs.declared.Millihertz.{Millihertz}
use Rattle.curve.specs.Curve.{upper_at, lower_at}
use Rattle.curve.specs.Moved.{moved_by}
use Rattle.score.specs.Score.{percent_output, score_of, is_reading, no_score}
use Rattle.score.specs.Calls.{ScoresArguments}
use Rattle.score.specs.declared.Scored.{Scored}

-- 2, 10, 4
abbrev pub second_unmoved_refusal : Kilowatts → Kilowatts → Kilowatts → Millihertz → ℕ
second_unmoved_refusal power transfer capacity frequency =
    in_order ((is_capacity capacity.0, bad_capacity) ∷ (is_transfer transfer.0, bad_transfer) ∷ (is_reading power.0 frequency.0, bad_reading) ∷ [])

unfoldable pub second_unmoved : Kilowatts → Kilowatts → Kilowatts → Millihertz → Scored
second_unmoved power transfer capacity frequency =
    let k = second_unmoved_refusal power transfer capacity frequency in
    kept k
    (record { refusal = 0; score = score_of (percent_output power.0 transfer.0 capacity.0) (upper_at frequency.0) (lower_at frequency.0) })
    (no_score k)

abbrev pub run_unmoved_at : List ℤ → List ℤ → List ℤ → Kilowatts → ℕ → ℕ
run_unmoved_at powers frequencies transfers capacity i =
    (second_unmoved (kilowatts (get_or powers i (pos 0))) (kilowatts (get_or transfers i (pos 0))) capacity (millihertz (get_or frequencies i (pos 0)))).score

unfoldable pub run_unmoved : List ℤ → List ℤ → List ℤ → Kilowatts → List ℕ
run_unmoved powers frequencies transfers capacity = listed (run_unmoved_at powers frequencies transfers capacity) 0 (length powers)

-- 1, 2, 10, 4
unfoldable pub run_unmoved_refusal : List ℤ → List ℤ → List ℤ → Kilowatts → ℕ → ℕ
run_unmoved_refusal powers frequencies transfers capacity places =
    in_order (
    (eqb (length frequencies) (length powers) && eqb (length transfers) (length powers) && eqb places (length powers), wrong_length)
    ∷ (is_capacity capacity.0, bad_capacity)
    ∷ (are_transfers transfers, bad_transfer)
    ∷ (are_powers powers && are_frequencies frequencies, bad_reading)
    ∷ [])

unfoldable pub run_unmoved_left : List ℤ → List ℤ → List ℤ → Kilowatts → List ℕ → List ℕ
run_unmoved_left powers frequencies transfers capacity run =
    kept (run_unmoved_refusal powers frequencies transfers capacity (length run)) (run_unmoved powers frequencies transfers capacity) run

-- frequencies, each moved by d
abbrev pub all_moved_by : ℤ → List ℤ → List ℤ
all_moved_by d = map (λ (f : ℤ). f +ℤ d)

-- reference and frequencies are in their ranges, as they are and moved together by d
pub record MoveFits (d : ℤ) (frequencies : List ℤ) (reference : Millihertz) : Type 0 where
  pub reference_fits : is_reference reference.0 ≡ true
  pub frequencies_fit : are_frequencies frequencies ≡ true
  pub reference_moved : is_reference (moved_by d reference).0 ≡ true
  pub frequencies_moved : are_frequencies (all_moved_by d frequencies) ≡ true

-- what a second call of `run_scores` is handed: the same run, every frequency and the reference moved by d; all in their ranges before and after
pub record RunsMoved (d : ℤ) (a b : ScoresArguments) : Type 0 where
  pub powers : b.0.now ≡ a.0.now
  pub frequencies : b.1.0.now ≡ all_moved_by d a.1.0.now
  pub transfers : b.1.1.0.now ≡ a.1.1.0.now
  pub capacity : b.1.1.1.0 ≡ a.1.1.1.0
  pub reference : b.1.1.1.1.0 ≡ moved_by d a.1.1.1.1.0
  pub lent : b.1.1.1.1.1.0.now ≡ a.1.1.1.1.1.0.now
  pub fits : MoveFits d a.1.0.now a.1.1.1.1.0
