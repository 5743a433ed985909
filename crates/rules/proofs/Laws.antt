-- Bands and scores that are refused whatever they say, so that the first four earlier scores stand for all; and a lookup that asks the bands alone. By cases.
-- Assumes nothing.
use Prim.Native.Nat.{ℕ, ◌≤◌, ◌<◌, ◌%◌}
use mathlib.Core.Path.{◌≡◌, refl, sym, ap, ◌∙◌}
use mathlib.Core.Bool.{Bool, true, false, ◌&&◌, and-false}
use mathlib.Core.List.{List, [], ◌∷◌}
use native.Mathlib.Omega.{arith}
use lib.Dec.{eqb}
use lib.IntN.{ℤ, pos}
use lib.ListN.{length, replicate, length-replicate}
use borrow.Author.Tests.{eqb-true, eq-eqb, ne_eqb}
use Rattle.whole.specs.Choice.{pick, in_order}
use Rattle.whole.proofs.Choice.{clash, and_both, by_test}
use Rattle.units.specs.Limits.{is_pattern, earlier_scores, seconds_of_hour}
use Rattle.std.specs.Prelude.{Result, Ok, Err}
use Rattle.units.specs.Refusals.{wrong_length, bad_bands, told_number, refused_as}
use Rattle.units.specs.declared.refusal.Refusal.{Refusal}
use Rattle.units.specs.Units.{megawatts, millihertz, in_kilowatts}
use Rattle.curve.specs.Curve.{curve_at}
use Rattle.loss.specs.Loss.{loss_answer}
use Rattle.pair.specs.Pair.{rounded_bits}
use Rattle.whole.specs.Whole.{up}
use Rattle.rate.specs.Rolling.{rate_lengths_fit, scores_refusal, no_rate, hourly_rate}
use Rattle.rate.proofs.Rates.{more_unfit}
use Rattle.reached.specs.Reached.{verdict_refusal, no_verdict, hour_reached}
use Rattle.bands.specs.Bands.{bands_fit, factor_refusal, factor_answer}
use Rattle.bands.proofs.Laws.{bands_fit_lem}
use Rattle.numbers.specs.Numbers.{number, byte_of, as_bytes, scores_in, column}
use Rattle.numbers.specs.Inner.{first_four, taken}
use Rattle.numbers.proofs.Bytes.{length_bytes, four_same}
use Rattle.words.specs.declared.Rule.{Rule}
use Rattle.words.specs.declared.Rule.TheVariants.{Kilowatts, Curve, Score, Rate, Reached, Bands, Factor, Fee, Quality, Energy, Loss, Pair}
use Rattle.rules.specs.Rules.{pairs, are_pairs, factor_in, kilowatts_reply, curve_reply, score_reply, rate_reply, reached_reply, bands_reply, factor_reply, fee_reply, quality_reply, energy_reply, loss_reply, pair_reply, rule_reply, result_reply}

-- more than 16 records are refused, whatever they say
pub too_many_lem : (thresholds factors : List ℤ) (rate : ℕ) → 16 < length thresholds → factor_answer thresholds factors rate ≡ refused_as 5
unfolding factor_answer factor_refusal
too_many_lem ts fs rate h =
    by_test (bands_fit ts fs) (λ (t : bands_fit ts fs ≡ true). let b = bands_fit_lem ts fs t in absurd (omega arith)) (λ (t : bands_fit ts fs ≡ false). rw t)

-- a lookup of the rate 0 is refused for the bands alone
by_columns : (thresholds factors : List ℤ) → told_number (factor_answer thresholds factors 0) ≡ in_order ((bands_fit thresholds factors, bad_bands) ∷ [])
unfolding factor_answer factor_refusal
by_columns ts fs = by_test (bands_fit ts fs) (λ (t : bands_fit ts fs ≡ true). rw t) (λ (t : bands_fit ts fs ≡ false). rw t)

pub by_bands : (n : List ℤ) → told_number (factor_in n 0) ≡ in_order ((are_pairs n, wrong_length) ∷ (bands_fit (column n 0 (pairs n)) (column n 1 (pairs n)), bad_bands) ∷ [])
unfolding factor_in
by_bands n = by_test (are_pairs n) (λ (t : are_pairs n ≡ true). rw t (by_columns _ _)) (λ (t : are_pairs n ≡ false). rw t)

-- the scores of a question as bytes; over any number, so that no list is written out
pub scores_filled : (tail : List ℤ) (m : ℕ) (scores : List ℕ) → length tail ≡ m → scores ≡ as_bytes tail (length {A = ℕ} (replicate m 0)) → scores ≡ scores_in tail
scores_filled tail m scores l e = e ∙ ap (as_bytes tail) (length-replicate m 0 ∙ sym l)

-- an answer that refuses scores of the wrong number: it refuses another number of seconds, and more than three earlier scores, so that the first four of these stand for all
module _ {A : Type 0} (answer : List ℕ → List ℕ → A) (bare : A) (unfit : (earlier scores : List ℕ) → rate_lengths_fit (length earlier) (length scores) ≡ false → answer earlier scores ≡ bare) where
  wrong_count : (earlier scores : List ℕ) → (length scores ≡ seconds_of_hour → ⊥) → answer earlier scores ≡ bare
  wrong_count earlier scores h = unfit earlier scores (rw (ne_eqb (length scores) seconds_of_hour h))

  -- a question whose earlier scores are not counted, or whose scores are not as many as an hour's seconds
  pub not_asked : (counted : Bool) (earlier t : List ℤ) → (counted && eqb (length t) seconds_of_hour) ≡ false → pick counted (answer (scores_in earlier) (scores_in t)) bare ≡ bare
  not_asked true earlier t e = wrong_count (scores_in earlier) (scores_in t) (λ z. clash (sym e ∙ eq-eqb (length t) seconds_of_hour (sym (length_bytes t (length t)) ∙ z)))
  not_asked false earlier t e = refl

  wrong_earlier : (earlier scores : List ℕ) → earlier_scores < length earlier → answer earlier scores ≡ bare
  wrong_earlier earlier scores h = unfit earlier scores (rw (more_unfit (length earlier) h) (and-false (eqb (length scores) seconds_of_hour)))

  pub four_stand : (scores : List ℕ) (n : List ℤ) → answer (taken (first_four n)) scores ≡ answer (scores_in n) scores
  four_stand scores = four_same (λ (l : List ℕ). answer l scores) (λ a b h k. wrong_earlier a scores h ∙ sym (wrong_earlier b scores k))

-- so the rate, and whether an hour reached a threshold
pub rate_unfit : (earlier scores : List ℕ) → rate_lengths_fit (length earlier) (length scores) ≡ false → hourly_rate earlier scores ≡ no_rate wrong_length
unfolding hourly_rate scores_refusal
rate_unfit earlier scores t = rw t

pub reached_unfit : (threshold : ℕ) (earlier scores : List ℕ) → rate_lengths_fit (length earlier) (length scores) ≡ false → hour_reached earlier scores threshold ≡ no_verdict wrong_length
unfolding hour_reached verdict_refusal
reached_unfit threshold earlier scores t = rw t

-- one that is asked: its earlier scores are counted, and its scores are as many as an hour's seconds
pub asked_whole : (counted : Bool) (n : ℕ) → (counted && eqb n seconds_of_hour) ≡ true → (counted ≡ true) × (n ≡ seconds_of_hour)
asked_whole counted n e = let b = and_both counted (eqb n seconds_of_hour) e in (b.0, eqb-true n seconds_of_hour b.1)

-- numbers that are pairs, by what is left of their count
pub pairs_by : (n : List ℤ) → length n % 2 ≡ 0 → are_pairs n ≡ true
pairs_by n e = rw e

pub no_pairs : (n : List ℤ) → (length n % 2 ≡ 0 → ⊥) → are_pairs n ≡ false
no_pairs n h = ne_eqb (length n % 2) 0 h

-- an answer has at most twelve fields; of a result it is seen by the result alone
result_few : {A : Type 0} (zeros : List ℤ) (fields : A → List ℤ) (a : Result A Refusal) → length zeros ≤ 12 → ((x : A) → length (fields x) ≤ 12)
    → length (result_reply zeros fields a).fields ≤ 12
result_few zeros fields (Ok x) h k = k x
result_few zeros fields (Err r) h k = h

pub rule_few : (rule : Rule) (n : List ℤ) (counted : Bool) (earlier t : List ℤ) → length (rule_reply rule n counted earlier t).fields ≤ 12
unfolding kilowatts_reply curve_reply score_reply rate_reply reached_reply bands_reply factor_reply fee_reply quality_reply energy_reply loss_reply pair_reply
rule_few Kilowatts n counted earlier t = result_few (pos 0 ∷ []) (λ p. p.0 ∷ []) (in_kilowatts (megawatts (number n 0))) (omega arith) (λ p. omega arith)
rule_few Curve n counted earlier t =
    result_few (pos 0 ∷ pos 0 ∷ []) (λ b. b.upper ∷ b.lower ∷ []) (curve_at (millihertz (number n 0)) (millihertz (number n 1))) (omega arith) (λ b. omega arith)
rule_few Score n counted earlier t = omega arith
rule_few Rate n counted earlier t = omega arith
rule_few Reached n counted earlier t = omega arith
rule_few Bands n counted earlier t = omega arith
rule_few Factor n counted earlier t = result_few (pos 0 ∷ []) (λ f. f ∷ []) (factor_in t (byte_of (number n 0))) (omega arith) (λ f. omega arith)
rule_few Fee n counted earlier t = omega arith
rule_few Quality n counted earlier t = omega arith
rule_few Energy n counted earlier t = omega arith
rule_few Loss n counted earlier t =
    result_few (pos 0 ∷ pos 0 ∷ pos 0 ∷ []) (λ l. l.basic.0 ∷ l.excess.0 ∷ l.total.0 ∷ []) (loss_answer (number n 0) (number n 1) (number n 2) (number n 3)) (omega arith) (λ l. omega arith)
rule_few Pair n counted earlier t =
    by_test (is_pattern (number n 0) && is_pattern (number n 1))
    (λ (e : is_pattern (number n 0) && is_pattern (number n 1) ≡ true).
    rw e (result_few (pos 0 ∷ pos 0 ∷ []) (λ r. r.frequency.0 ∷ r.power.0 ∷ []) (rounded_bits (up (number n 0)) (up (number n 1))) (omega arith) (λ r. omega arith)))
    (λ (e : is_pattern (number n 0) && is_pattern (number n 1) ≡ false). rw e (omega arith))
