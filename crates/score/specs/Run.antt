-- The scores of a run of seconds, each of them as document 01, "A second's score", says, by one reference (document 02, #107).
use Rattle.std.specs.Prelude.{ℕ, Bool, ◌&&◌, List, [], ◌∷◌, eqb, ℤ, pos, length, get_or}
use Rattle.whole.specs.Choice.{in_order, kept}
use Rattle.whole.specs.Runs.{listed}
use Rattle.units.specs.Refusals.{wrong_length, bad_capacity, bad_reference, bad_reading, bad_transfer}
use Rattle.units.specs.Limits.{is_capacity, is_reference, are_powers, are_frequencies, are_transfers}
use Rattle.units.specs.Units.{kilowatts, millihertz}
use Rattle.units.specs.declared.Kilowatts.{Kilowatts}
use Rattle.units.specs.declared.Millihertz.{Millihertz}
use Rattle.score.specs.Score.{second_score}

-- the second at place i: its power, its planned transfer, and the frequency of the second before
unfoldable pub run_score_at : List ℤ → List ℤ → List ℤ → Kilowatts → Millihertz → ℕ → ℕ
run_score_at powers frequencies transfers capacity reference i =
    (second_score (kilowatts (get_or powers i (pos 0))) (kilowatts (get_or transfers i (pos 0))) capacity (millihertz (get_or frequencies i (pos 0))) reference).score

unfoldable pub run_scores : List ℤ → List ℤ → List ℤ → Kilowatts → Millihertz → List ℕ
run_scores powers frequencies transfers capacity reference = listed (run_score_at powers frequencies transfers capacity reference) 0 (length powers)

-- "Order. Hour, and calls for a part of its work", and "19 .. directly after 2" (document 02, #107): 1 where the four runs are not as long as each other, 2, 19, 10, 4
abbrev pub run_tests : List ℤ → List ℤ → List ℤ → Kilowatts → Millihertz → ℕ → List (Bool × ℕ)
run_tests powers frequencies transfers capacity reference places =
    (eqb (length frequencies) (length powers) && eqb (length transfers) (length powers) && eqb places (length powers), wrong_length)
    ∷ (is_capacity capacity.0, bad_capacity)
    ∷ (is_reference reference.0, bad_reference)
    ∷ (are_transfers transfers, bad_transfer)
    ∷ (are_powers powers && are_frequencies frequencies, bad_reading)
    ∷ []

unfoldable pub run_refusal : List ℤ → List ℤ → List ℤ → Kilowatts → Millihertz → ℕ → ℕ
run_refusal powers frequencies transfers capacity reference places = in_order (run_tests powers frequencies transfers capacity reference places)

-- what the call leaves in the lent run
unfoldable pub run_left : List ℤ → List ℤ → List ℤ → Kilowatts → Millihertz → List ℕ → List ℕ
run_left powers frequencies transfers capacity reference run =
    kept (run_refusal powers frequencies transfers capacity reference (length run)) (run_scores powers frequencies transfers capacity reference) run
