-- Document 02, #106, "did the hour reach 95?": the first second whose whole window stays below a threshold, how many seconds are judged and how many scores are read to find it. The
-- windows are the hourly rate's (#102), newest score first.
use Rattle.std.specs.Prelude.{ℕ, ◌+◌, Bool, true, false, ◌&&◌, List, [], ◌∷◌, reverse, eqb, leb, ltb, length, get_or}
use Rattle.whole.specs.Choice.{pick, in_order, kept}
use Rattle.whole.specs.Folds.{add_to}
use Rattle.units.specs.Refusals.{wrong_length, bad_reading, bad_bands}
use Rattle.units.specs.Limits.{most_score, seconds_of_hour}
use Rattle.rate.specs.Rolling.{windows, rate_lengths_fit, are_scores}
use Rattle.reached.specs.declared.Verdict.{Verdict}

-- the windows of an hour's seconds; the earlier scores are handed in oldest first
abbrev pub hour_windows : List ℕ → List ℕ → List (List ℕ)
hour_windows earlier scores = windows (reverse earlier) scores

-- that of the second at place i, second i + 1
abbrev pub window_at : List ℕ → List ℕ → ℕ → List ℕ
window_at earlier scores i = get_or (hour_windows earlier scores) i []

-- "whose whole window stays below the threshold"
abbrev pub stays_below : ℕ → List ℕ → Bool
stays_below threshold [] = true
stays_below threshold (x ∷ window) = ltb x threshold && stays_below threshold window

-- the first of the seconds t, t + 1, .., by their windows, whose whole window stays below; 0 where there is none
abbrev pub first_below : ℕ → ℕ → List (List ℕ) → ℕ
first_below threshold t [] = 0
first_below threshold t (w ∷ ws) = pick (stays_below threshold w) t (first_below threshold (t + 1) ws)

-- "the first second whose whole window stays below the threshold": 1 to 3,600, or 0
abbrev pub named_second : List ℕ → List ℕ → ℕ → ℕ
named_second earlier scores threshold = first_below threshold 1 (hour_windows earlier scores)

-- "how many seconds it judged: the named second, or 3,600 where none is named"
abbrev pub seconds_judged : List ℕ → List ℕ → ℕ → ℕ
seconds_judged earlier scores threshold = let t = named_second earlier scores threshold in pick (eqb t 0) seconds_of_hour t

-- "A window is read from its newest score back and left at the first score at or above the threshold": how many of its scores are read
abbrev pub read_in : ℕ → List ℕ → ℕ
read_in threshold [] = 0
read_in threshold (x ∷ window) = 1 + pick (leb threshold x) 0 (read_in threshold window)

-- "The scores so read are counted too": those of the windows of the seconds judged
abbrev pub scores_read : List ℕ → List ℕ → ℕ → ℕ
scores_read earlier scores threshold = add_to (seconds_judged earlier scores threshold) (λ i. read_in threshold (window_at earlier scores i))

-- "Refusals: 1, then 4 for a score above 100, then 5 for the threshold"
abbrev pub verdict_tests : List ℕ → List ℕ → ℕ → List (Bool × ℕ)
verdict_tests earlier scores threshold =
    (rate_lengths_fit (length earlier) (length scores), wrong_length) ∷ (are_scores earlier && are_scores scores, bad_reading) ∷ (leb threshold most_score, bad_bands) ∷ []

unfoldable pub verdict_refusal : List ℕ → List ℕ → ℕ → ℕ
verdict_refusal earlier scores threshold = in_order (verdict_tests earlier scores threshold)

-- an hour that is judged: reached exactly where no second is named
abbrev pub verdict_of : List ℕ → List ℕ → ℕ → Verdict
verdict_of earlier scores threshold =
    let t = named_second earlier scores threshold in
    record { refusal = 0; reached = eqb t 0; second = t; judged = seconds_judged earlier scores threshold; read = scores_read earlier scores threshold }

-- one that is refused: every field 0, and the answer no
abbrev pub no_verdict : ℕ → Verdict
no_verdict k = record { refusal = k; reached = false; second = 0; judged = 0; read = 0 }

-- the answer
unfoldable pub hour_reached : List ℕ → List ℕ → ℕ → Verdict
hour_reached earlier scores threshold = let k = verdict_refusal earlier scores threshold in kept k (verdict_of earlier scores threshold) (no_verdict k)
