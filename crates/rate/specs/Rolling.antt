-- Document 01, "an hour's rate" (document 001, section 2.3), with document 02, #102: rolling rates and the hourly rate.
use Rattle.std.specs.Prelude.{ℕ, min, max, Bool, ◌&&◌, ◌||◌, List, [], ◌∷◌, map, reverse, eqb, leb, length, take, get_or}
use Rattle.whole.specs.Choice.{in_order, kept}
use Rattle.whole.specs.Folds.{all_to}
use Rattle.units.specs.Refusals.{wrong_length, bad_reading}
use Rattle.units.specs.Limits.{most_score, earlier_scores, seconds_of_hour}
use Rattle.rate.specs.declared.Rated.{Rated}

-- the window of each second: its score and the three before it, newest first, as many as there are. `back` is what came before, newest first.
abbrev pub windows : List ℕ → List ℕ → List (List ℕ)
windows back [] = []
windows back (x ∷ xs) = take 4 (x ∷ back) ∷ windows (x ∷ back) xs

abbrev pub largest : List ℕ → ℕ
largest [] = 0
largest (x ∷ xs) = max x (largest xs)

-- the smallest of m and the list
abbrev pub smallest_from : ℕ → List ℕ → ℕ
smallest_from m [] = m
smallest_from m (x ∷ xs) = smallest_from (min m x) xs

abbrev pub smallest : List ℕ → ℕ
smallest [] = 0
smallest (x ∷ xs) = smallest_from x xs

-- the rolling rates of an hour's scores. "If the hour before was awarded to the same battery and product, its last three scores now belong to the first
-- three windows" (document 02, #102): the earlier scores, oldest first
unfoldable pub rolling : List ℕ → List ℕ → List ℕ
rolling earlier scores = map largest (windows (reverse earlier) scores)

-- "The hour takes these 3 earlier scores or 0, which leaves the windows short" (document 02, #102)
abbrev pub earlier_fit : ℕ → Bool
earlier_fit count = eqb count 0 || eqb count earlier_scores

-- 3,600 scores, after none or three
abbrev pub rate_lengths_fit : ℕ → ℕ → Bool
rate_lengths_fit earlier seconds = eqb seconds seconds_of_hour && earlier_fit earlier

-- a score handed in is one
abbrev pub is_score_at : List ℕ → ℕ → Bool
is_score_at scores i = leb (get_or scores i 0) most_score

unfoldable pub are_scores : List ℕ → Bool
are_scores scores = all_to (length scores) (is_score_at scores)

-- 1, 4. "any other number of scores is 1, a score above 100 is 4, both in their old places" (document 02, #102)
unfoldable pub scores_refusal : List ℕ → List ℕ → ℕ
scores_refusal earlier scores =
    in_order ((rate_lengths_fit (length earlier) (length scores), wrong_length) ∷ (are_scores earlier && are_scores scores, bad_reading) ∷ [])

abbrev pub no_rate : ℕ → Rated
no_rate k = record { refusal = k; rate = 0 }

-- the smallest of the 3,600 rolling rates
unfoldable pub hourly_rate : List ℕ → List ℕ → Rated
hourly_rate earlier scores =
    let k = scores_refusal earlier scores in
    kept k (record { refusal = 0; rate = smallest (rolling earlier scores) }) (no_rate k)
