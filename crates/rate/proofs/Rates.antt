-- What an hour's rate is, for the crates above: at most 100 whatever was handed in, and the smallest rolling rate where it is not refused. The
-- rolling rates are those of one pass that carries three scores, a missing one as 0; by induction on the scores. Assumes nothing.
use Prim.Native.Nat.{ℕ, zero, suc, ◌+◌, ◌≤◌, ◌<◌, min, max, zero-le}
use mathlib.Core.Path.{◌≡◌, refl, sym, ap, ap₂, ◌∙◌}
use mathlib.Core.Bool.{Bool, true, false, ◌&&◌}
use mathlib.Core.List.{List, [], ◌∷◌, map, reverse}
use native.Mathlib.Nat.{max-zero, not-suc-le-zero}
use native.Mathlib.Omega.{arith}
use lib.Dec.{eqb}
use lib.ListN.{length, take, get_or}
use borrow.Author.Tests.{eqb-true, eq-eqb, ne_eqb, leb-true, le-leb}
use Rattle.whole.proofs.Choice.{clash, both, and_both, by_test, all_passed, passed_all}
use Rattle.whole.proofs.Folds.{all_at, all_of}
use Rattle.units.specs.Refusals.{wrong_length, bad_reading}
use Rattle.units.specs.Limits.{most_score, earlier_scores, seconds_of_hour}
use Rattle.rate.specs.Rolling.{windows, largest, smallest, smallest_from, rolling, earlier_fit, rate_lengths_fit, is_score_at, are_scores, scores_refusal, no_rate, hourly_rate}
use Rattle.rate.specs.Inner.{carried, rate_after, earlier_refusal}
use Rattle.rate.specs.declared.Rated.{Rated}
use Rattle.rate.specs.Accepted.{ScoresFit}
use Rattle.rate.specs.Earlier.{Windows}

-- ---- one pass finds the rolling rates

four : (x : ℕ) (back : List ℕ) → largest (take 4 (x ∷ back)) ≡ max x (max (get_or back 0 0) (max (get_or back 1 0) (get_or back 2 0)))
four x [] = refl
four x (a ∷ []) = refl
four x (a ∷ b ∷ []) = refl
four x (a ∷ b ∷ c ∷ back) = rw max-zero

pass : (back xs : List ℕ) → map largest (windows back xs) ≡ carried (get_or back 0 0) (get_or back 1 0) (get_or back 2 0) xs
pass back [] = refl
pass back (x ∷ xs) = ap₂ ◌∷◌ (four x back) (pass (x ∷ back) xs)

pub rolling_carried : (earlier scores : List ℕ) → rolling earlier scores
    ≡ carried (get_or (reverse earlier) 0 0) (get_or (reverse earlier) 1 0) (get_or (reverse earlier) 2 0) scores
unfolding rolling
rolling_carried earlier scores = pass (reverse earlier) scores

-- the rolling rate of second t is the largest score of seconds t-3 to t, from the hour's fourth second on
fourth : (a b c : ℕ) (xs : List ℕ) (t : ℕ) → suc (suc (suc t)) < length xs
    → get_or (carried a b c xs) (suc (suc (suc t))) 0 ≡ max (get_or xs (suc (suc (suc t))) 0) (max (get_or xs (suc (suc t)) 0) (max (get_or xs (suc t) 0) (get_or xs t 0)))
fourth a b c [] t h = absurd (not-suc-le-zero h)
fourth a b c (x ∷ []) t h = absurd (omega arith)
fourth a b c (x ∷ y ∷ []) t h = absurd (omega arith)
fourth a b c (x ∷ y ∷ z ∷ []) t h = absurd (omega arith)
fourth a b c (x ∷ y ∷ z ∷ w ∷ xs) zero h = refl
fourth a b c (x ∷ y ∷ z ∷ w ∷ xs) (suc t) h = fourth x a b (y ∷ z ∷ w ∷ xs) t (omega arith)

pub rolling_at : (earlier scores : List ℕ) (t : ℕ) → t + 3 < length scores
    → get_or (rolling earlier scores) (t + 3) 0 ≡ max (get_or scores (t + 3) 0) (max (get_or scores (t + 2) 0) (max (get_or scores (t + 1) 0) (get_or scores t 0)))
rolling_at earlier scores t h =
    let three : t + 3 ≡ suc (suc (suc t)) = omega arith in
    let two : t + 2 ≡ suc (suc t) = omega arith in
    let one : t + 1 ≡ suc t = omega arith in
    rw (rolling_carried earlier scores, three, two, one) (fourth _ _ _ scores t (omega arith))

pub hour_windows_lem : (x₁ x₂ x₃ : ℕ) (later : List ℕ) → Windows x₁ x₂ x₃ (x₁ ∷ x₂ ∷ x₃ ∷ later)
hour_windows_lem x₁ x₂ x₃ later =
    let scores = x₁ ∷ x₂ ∷ x₃ ∷ later in
    record {
      second_1 = rw (rolling_carried [] scores) (omega arith);
      second_2 = rw (rolling_carried [] scores) (omega arith);
      second_3 = rw (rolling_carried [] scores) (omega arith);
      from_4 = rolling_at [] scores;
    }

pub length_rolling : (earlier scores : List ℕ) → length (rolling earlier scores) ≡ length scores
length_rolling earlier scores = rw (rolling_carried earlier scores) (as_many _ _ _ scores)
  where
    as_many : (a b c : ℕ) (xs : List ℕ) → length (carried a b c xs) ≡ length xs
    as_many a b c [] = refl
    as_many a b c (x ∷ xs) = ap suc (as_many x a b xs)

-- ---- the smallest of a list is: none is less, and what is at most each of them is at most it

smallest_le : (m : ℕ) (xs : List ℕ) → smallest_from m xs ≤ m
smallest_le m [] = omega arith
smallest_le m (x ∷ xs) = omega (arith, smallest_le (min m x) xs)

least : (m : ℕ) (xs : List ℕ) (i : ℕ) → i < length xs → smallest_from m xs ≤ get_or xs i 0
least m [] i h = absurd (not-suc-le-zero h)
least m (x ∷ xs) zero h = omega (arith, smallest_le (min m x) xs)
least m (x ∷ xs) (suc i) h = least (min m x) xs i (omega arith)

pub smallest_least : (xs : List ℕ) (i : ℕ) → i < length xs → smallest xs ≤ get_or xs i 0
smallest_least [] i h = absurd (not-suc-le-zero h)
smallest_least (x ∷ xs) zero h = smallest_le x xs
smallest_least (x ∷ xs) (suc i) h = least x xs i (omega arith)

most : (k m : ℕ) (xs : List ℕ) → k ≤ m → ((i : ℕ) → i < length xs → k ≤ get_or xs i 0) → k ≤ smallest_from m xs
most k m [] h f = h
most k m (x ∷ xs) h f = most k (min m x) xs (omega (arith, f 0 (omega arith))) (λ i l. f (suc i) (omega arith))

pub smallest_most : (k : ℕ) (xs : List ℕ) → 0 < length xs → ((i : ℕ) → i < length xs → k ≤ get_or xs i 0) → k ≤ smallest xs
smallest_most k [] h f = absurd (not-suc-le-zero h)
smallest_most k (x ∷ xs) h f = most k x xs (f 0 (omega arith)) (λ i l. f (suc i) (omega arith))

-- ---- the largest of a list is: none is above, and where all are below a number it is

pub largest_most : (xs : List ℕ) (i : ℕ) → i < length xs → get_or xs i 0 ≤ largest xs
largest_most [] i h = absurd (not-suc-le-zero h)
largest_most (x ∷ xs) zero h = omega arith
largest_most (x ∷ xs) (suc i) h = omega (arith, largest_most xs i (omega arith))

pub largest_below : (k : ℕ) (xs : List ℕ) → 0 < length xs → ((i : ℕ) → i < length xs → get_or xs i 0 < k) → largest xs < k
largest_below k [] l h = absurd (not-suc-le-zero l)
largest_below k (x ∷ []) l h = omega (arith, h 0 (omega arith))
largest_below k (x ∷ y ∷ xs) l h = omega (arith, h 0 (omega arith), largest_below k (y ∷ xs) (omega arith) (λ i g. h (suc i) (omega arith)))

-- ---- each score is at most 100, and so a pass may begin at 100

pub score_at : (scores : List ℕ) (i : ℕ) → are_scores scores ≡ true → i < length scores → get_or scores i 0 ≤ most_score
unfolding are_scores
score_at scores i e h = leb-true _ most_score (all_at (length scores) (is_score_at scores) e i h)

pub are_scores_lem : (scores : List ℕ) → ((i : ℕ) → i < length scores → get_or scores i 0 ≤ most_score) → are_scores scores ≡ true
unfolding are_scores
are_scores_lem scores h = all_of (length scores) (is_score_at scores) (λ i l. le-leb (get_or scores i 0) most_score (h i l))

pub from_100 : (a b c : ℕ) (scores : List ℕ) → a ≤ most_score → b ≤ most_score → c ≤ most_score → 0 < length scores → are_scores scores ≡ true
    → smallest_from most_score (carried a b c scores) ≡ smallest (carried a b c scores)
from_100 a b c [] ha hb hc l e = absurd (not-suc-le-zero l)
from_100 a b c (x ∷ xs) ha hb hc l e =
    let hx : x ≤ most_score = score_at (x ∷ xs) 0 e l in
    let same : min most_score (max x (max a (max b c))) ≡ max x (max a (max b c)) = omega arith in
    ap (λ (m : ℕ). smallest_from m (carried x a b xs)) same

-- ---- the earlier scores

-- none, or three, oldest first
pub data NoneOrThree : List ℕ → Type 0 where
  no_score_lem : NoneOrThree []
  three_scores : (a b c : ℕ) → NoneOrThree (a ∷ b ∷ c ∷ [])

-- an hour takes no more than three
pub more_unfit : (n : ℕ) → earlier_scores < n → earlier_fit n ≡ false
more_unfit n h = rw (ne_eqb n 0 (λ z. absurd (omega arith)), ne_eqb n earlier_scores (λ z. absurd (omega arith)))

pub none_or_three : (earlier : List ℕ) → earlier_fit (length earlier) ≡ true → NoneOrThree earlier
none_or_three [] e = no_score_lem
none_or_three (a ∷ []) e = clash e
none_or_three (a ∷ b ∷ []) e = clash e
none_or_three (a ∷ b ∷ c ∷ []) e = three_scores a b c
none_or_three (a ∷ b ∷ c ∷ d ∷ rest) e = clash (sym (more_unfit (length (a ∷ b ∷ c ∷ d ∷ rest)) (omega arith)) ∙ e)

-- what a pass over the scores begins with: the three before, newest first, a missing one as 0
abbrev pub last_of : List ℕ → ℕ
last_of earlier = get_or (reverse earlier) 0 0

abbrev pub second_of : List ℕ → ℕ
second_of earlier = get_or (reverse earlier) 1 0

abbrev pub third_of : List ℕ → ℕ
third_of earlier = get_or (reverse earlier) 2 0

-- read from the run as it stands, oldest first
pub read_back : (earlier scores : List ℕ) → NoneOrThree earlier
    → rate_after (get_or earlier 2 0) (get_or earlier 1 0) (get_or earlier 0 0) scores ≡ rate_after (last_of earlier) (second_of earlier) (third_of earlier) scores
read_back _ scores no_score_lem = refl
read_back _ scores (three_scores a b c) = refl

-- as a pass begins, so it may begin at 100
begins : (earlier scores : List ℕ) → NoneOrThree earlier → are_scores earlier ≡ true → 0 < length scores → are_scores scores ≡ true
    → smallest_from most_score (carried (last_of earlier) (second_of earlier) (third_of earlier) scores) ≡ smallest (carried (last_of earlier) (second_of earlier) (third_of earlier) scores)
begins _ scores no_score_lem before l small = from_100 0 0 0 scores zero-le zero-le zero-le l small
begins _ scores (three_scores a b c) before l small =
    let at = score_at (a ∷ b ∷ c ∷ []) in from_100 c b a scores (at 2 before (omega arith)) (at 1 before (omega arith)) (at 0 before (omega arith)) l small

-- ---- the hourly rate

module _ (earlier scores : List ℕ) where
  abbrev tests : List (Bool × ℕ)
  tests = (rate_lengths_fit (length earlier) (length scores), wrong_length) ∷ (are_scores earlier && are_scores scores, bad_reading) ∷ []

  -- both tests, as facts
  pub fit_by : rate_lengths_fit (length earlier) (length scores) ≡ true → (are_scores earlier && are_scores scores) ≡ true → ScoresFit earlier scores
  fit_by p q =
      let l = and_both (eqb (length scores) seconds_of_hour) (earlier_fit (length earlier)) p in
      let b = and_both (are_scores earlier) (are_scores scores) q in
      record { long = eqb-true (length scores) seconds_of_hour l.0; of_earlier = l.1; before = b.0; small = b.1 }

  pub by_fit : ScoresFit earlier scores → (rate_lengths_fit (length earlier) (length scores) ≡ true) × ((are_scores earlier && are_scores scores) ≡ true)
  by_fit f = (both (eq-eqb (length scores) seconds_of_hour f.long) f.of_earlier, both f.before f.small)

  pub scores_fit : scores_refusal earlier scores ≡ 0 → ScoresFit earlier scores
  unfolding scores_refusal
  scores_fit e = let p = all_passed tests refl e in fit_by p.0 p.1.0

  pub fit_scores : ScoresFit earlier scores → scores_refusal earlier scores ≡ 0
  unfolding scores_refusal
  fit_scores f = let p = by_fit f in passed_all tests (p.0, (p.1, tt))

  -- the smallest rolling rate, as one pass finds it
  pub rate_carried : ScoresFit earlier scores → smallest_from most_score (carried (last_of earlier) (second_of earlier) (third_of earlier) scores) ≡ smallest (rolling earlier scores)
  rate_carried f =
      let l = f.long in
      rw (rolling_carried earlier scores) (begins earlier scores (none_or_three earlier f.of_earlier) f.before (omega arith) f.small)

  pub rate_granted : ScoresFit earlier scores → hourly_rate earlier scores ≡ record { refusal = 0; rate = smallest (rolling earlier scores) }
  unfolding hourly_rate
  rate_granted f = rw (eq-eqb _ 0 (fit_scores f))

  pub rate_refusal : (hourly_rate earlier scores).refusal ≡ scores_refusal earlier scores
  unfolding hourly_rate
  rate_refusal =
      let k = scores_refusal earlier scores in
      by_test (eqb k 0) (λ (t : eqb k 0 ≡ true). rw t (sym (eqb-true k 0 t))) (λ (t : eqb k 0 ≡ false). rw t)

  pub rate_is : (hourly_rate earlier scores).refusal ≡ 0 → (hourly_rate earlier scores).rate ≡ smallest (rolling earlier scores)
  rate_is e = ap (λ (r : Rated). r.rate) (rate_granted (scores_fit (sym rate_refusal ∙ e)))

  pub rate_within : (hourly_rate earlier scores).rate ≤ most_score
  unfolding hourly_rate
  rate_within =
      let k = scores_refusal earlier scores in
      by_test (eqb k 0)
      (λ (t : eqb k 0 ≡ true). rw (t, sym (rate_carried (scores_fit (eqb-true k 0 t)))) (smallest_le most_score (carried (last_of earlier) (second_of earlier) (third_of earlier) scores)))
      (λ (t : eqb k 0 ≡ false). rw t (omega arith))

  -- what is refused before the pass
  abbrev before : List (Bool × ℕ)
  before = (rate_lengths_fit (length earlier) (length scores), wrong_length) ∷ (are_scores earlier, bad_reading) ∷ []

  pub before_refused : (earlier_refusal earlier (length scores) ≡ 0 → ⊥) → no_rate (earlier_refusal earlier (length scores)) ≡ hourly_rate earlier scores
  unfolding hourly_rate scores_refusal earlier_refusal
  before_refused n =
      let lengths = rate_lengths_fit (length earlier) (length scores) in
      by_test lengths
      (λ (t : lengths ≡ true). by_test (are_scores earlier) (λ (a : are_scores earlier ≡ true). absurd (n (rw (t, a)))) (λ (a : are_scores earlier ≡ false). rw (t, a)))
      (λ (t : lengths ≡ false). rw t)

  pub before_fine : earlier_refusal earlier (length scores) ≡ 0 → NoneOrThree earlier
  unfolding earlier_refusal
  before_fine e = none_or_three earlier (and_both (eqb (length scores) seconds_of_hour) (earlier_fit (length earlier)) (all_passed before refl e).0).1

  -- and what the pass answers where nothing is, for scores that fit or not
  pub rate_after_is : earlier_refusal earlier (length scores) ≡ 0 → rate_after (last_of earlier) (second_of earlier) (third_of earlier) scores ≡ hourly_rate earlier scores
  unfolding rate_after hourly_rate scores_refusal earlier_refusal
  rate_after_is e =
      let p = all_passed before refl e in
      let l = and_both (eqb (length scores) seconds_of_hour) (earlier_fit (length earlier)) p.0 in
      by_test (are_scores scores)
      (λ (t : are_scores scores ≡ true).
      rw (t, p.0, p.1.0, rate_carried (record { long = eqb-true (length scores) seconds_of_hour l.0; of_earlier = l.1; before = p.1.0; small = t })))
      (λ (t : are_scores scores ≡ false). rw (t, p.0, p.1.0))
