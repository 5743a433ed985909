-- The questions about one rule: each is the answer of the library that has it. Their numbers are given as single ones, in order.
use Rattle.std.specs.Prelude.{ℕ, ◌/◌, ◌%◌, Bool, ◌&&◌, List, [], ◌∷◌, Result, Ok, Err, eqb, ℤ, pos, length, take, drop}
use Rattle.whole.specs.Choice.{pick, in_order}
use Rattle.whole.specs.Whole.{up}
use Rattle.units.specs.Refusals.{wrong_length, bad_bands, not_finite, paper_number, refused_as}
use Rattle.units.specs.declared.refusal.Refusal.{Refusal}
use Rattle.units.specs.Limits.{is_pattern}
use Rattle.units.specs.Units.{kilowatts, megawatts, millihertz, dollars, in_kilowatts}
use Rattle.curve.specs.Curve.{curve_at}
use Rattle.score.specs.Score.{second_score}
use Rattle.rate.specs.Rolling.{hourly_rate, no_rate}
use Rattle.rate.specs.declared.Rated.{Rated}
use Rattle.reached.specs.Reached.{hour_reached, no_verdict}
use Rattle.reached.specs.declared.Verdict.{Verdict}
use Rattle.bands.specs.Bands.{bands_fit, factor_answer}
use Rattle.fees.specs.Fees.{fee_answer, quality_answer, energy_answer}
use Rattle.fees.specs.declared.Charged.{Charged}
use Rattle.loss.specs.Loss.{loss_answer}
use Rattle.pair.specs.Pair.{rounded_bits}
use Rattle.numbers.specs.Numbers.{number, byte_of, scores_in, column}
use Rattle.words.specs.Replies.{Reply, reply}
use Rattle.words.specs.declared.Rule.{Rule}
use Rattle.words.specs.declared.Rule.TheVariants.{Kilowatts, Curve, Score, Rate, Reached, Bands, Factor, Fee, Quality, Energy, Loss, Pair}

-- a library's answer: 0 and its fields; or the number of its refusal, and zeros in their place
abbrev pub result_reply : {A : Type 0} → List ℤ → (A → List ℤ) → Result A Refusal → Reply
result_reply zeros fields (Ok a) = reply 0 (fields a)
result_reply zeros fields (Err r) = reply (paper_number r) zeros

-- MEGAWATTS: refusal, kilowatts
unfoldable pub kilowatts_reply : List ℤ → Reply
kilowatts_reply n = result_reply (pos 0 ∷ []) (λ p. p.0 ∷ []) (in_kilowatts (megawatts (number n 0)))

-- FREQUENCY REFERENCE (document 02, #107): refusal, upper, lower
unfoldable pub curve_reply : List ℤ → Reply
curve_reply n = result_reply (pos 0 ∷ pos 0 ∷ []) (λ b. b.upper ∷ b.lower ∷ []) (curve_at (millihertz (number n 0)) (millihertz (number n 1)))

-- POWER TRANSFER CAPACITY FREQUENCY REFERENCE (document 02, #107): refusal, score
unfoldable pub score_reply : List ℤ → Reply
score_reply n =
    let a = second_score (kilowatts (number n 0)) (kilowatts (number n 1)) (kilowatts (number n 2)) (millihertz (number n 3)) (millihertz (number n 4)) in
    reply a.refusal (pos a.score ∷ [])

-- E, then E earlier scores, then 3,600 scores: refusal, rate (document 02, #102). An E outside 0 to 100 is refused with 1
abbrev pub rate_asked : Bool → List ℤ → List ℤ → Rated
rate_asked counted earlier t = pick counted (hourly_rate (scores_in earlier) (scores_in t)) (no_rate wrong_length)

unfoldable pub rate_reply : Bool → List ℤ → List ℤ → Reply
rate_reply counted earlier t = let a = rate_asked counted earlier t in reply a.refusal (pos a.rate ∷ [])

-- THRESHOLD E, then E earlier scores, then 3,600 scores: refusal, reached (1 yes, 0 no), second, seconds judged, scores read (document 02, #106). A THRESHOLD outside 0 to 255 is taken as 255; E as above
abbrev pub reached_asked : List ℤ → Bool → List ℤ → List ℤ → Verdict
reached_asked n counted earlier t = pick counted (hour_reached (scores_in earlier) (scores_in t) (byte_of (number n 0))) (no_verdict wrong_length)

abbrev pub verdict_reply : Verdict → Reply
verdict_reply a = reply a.refusal (pos (pick a.reached 1 0) ∷ pos a.second ∷ pos a.judged ∷ pos a.read ∷ [])

unfoldable pub reached_reply : List ℤ → Bool → List ℤ → List ℤ → Reply
reached_reply n counted earlier t = verdict_reply (reached_asked n counted earlier t)

-- how many pairs there are
abbrev pub pairs : List ℤ → ℕ
pairs n = length n / 2

-- whether each number has its other
abbrev pub are_pairs : List ℤ → Bool
are_pairs n = eqb (length n % 2) 0

-- pairs THRESHOLD FACTOR: refusal
unfoldable pub bands_reply : List ℤ → Reply
bands_reply n = reply (in_order ((are_pairs n, wrong_length) ∷ (bands_fit (column n 0 (pairs n)) (column n 1 (pairs n)), bad_bands) ∷ [])) []

-- the factor of a rate by pairs
unfoldable pub factor_in : List ℤ → ℕ → Result ℤ Refusal
factor_in n rate =
    pick (are_pairs n) (factor_answer (column n 0 (pairs n)) (column n 1 (pairs n)) rate) (refused_as wrong_length)

-- RATE, pairs THRESHOLD FACTOR: refusal, factor
unfoldable pub factor_reply : List ℤ → List ℤ → Reply
factor_reply n t = result_reply (pos 0 ∷ []) (λ f. f ∷ []) (factor_in t (byte_of (number n 0)))

-- a fee's answer: refusal, dollars
abbrev pub charge_reply : Charged → Reply
charge_reply a = reply a.refusal (a.dollars.0 ∷ [])

-- PRICE CAPACITY
unfoldable pub fee_reply : List ℤ → Reply
fee_reply n = charge_reply (fee_answer (number n 0) (kilowatts (number n 1)))

-- CAPACITY-FEE PERFORMANCE-FEE FACTOR
unfoldable pub quality_reply : List ℤ → Reply
quality_reply n = charge_reply (quality_answer (dollars (number n 0)) (dollars (number n 1)) (number n 2))

-- DISCHARGE CHARGE, the 4 quarter targets, 3,600 powers
unfoldable pub energy_reply : List ℤ → List ℤ → Reply
energy_reply n t = charge_reply (energy_answer t (take 4 (drop 2 n)) (number n 0) (number n 1))

-- CHARGED DISCHARGED VOLTAGE COST: refusal, basic, excess, total
unfoldable pub loss_reply : List ℤ → Reply
loss_reply n =
    result_reply (pos 0 ∷ pos 0 ∷ pos 0 ∷ []) (λ l. l.basic.0 ∷ l.excess.0 ∷ l.total.0 ∷ []) (loss_answer (number n 0) (number n 1) (number n 2) (number n 3))

-- FREQUENCY-BITS POWER-BITS: refusal, millihertz, kilowatts (document 02, #105). A number that is no pattern of 32 bits is no single: 17
abbrev pub pair_bits_reply : ℕ → ℕ → Reply
pair_bits_reply f p = result_reply (pos 0 ∷ pos 0 ∷ []) (λ r. r.frequency.0 ∷ r.power.0 ∷ []) (rounded_bits f p)

unfoldable pub pair_reply : List ℤ → Reply
pair_reply n =
    pick (is_pattern (number n 0) && is_pattern (number n 1)) (pair_bits_reply (up (number n 0)) (up (number n 1))) (reply not_finite (pos 0 ∷ pos 0 ∷ []))

-- the answer to a rule's question, by its single numbers, by its earlier scores and whether they are counted, and by the numbers after them
abbrev pub rule_reply : Rule → List ℤ → Bool → List ℤ → List ℤ → Reply
rule_reply Kilowatts n counted earlier t = kilowatts_reply n
rule_reply Curve n counted earlier t = curve_reply n
rule_reply Score n counted earlier t = score_reply n
rule_reply Rate n counted earlier t = rate_reply counted earlier t
rule_reply Reached n counted earlier t = reached_reply n counted earlier t
rule_reply Bands n counted earlier t = bands_reply t
rule_reply Factor n counted earlier t = factor_reply n t
rule_reply Fee n counted earlier t = fee_reply n
rule_reply Quality n counted earlier t = quality_reply n
rule_reply Energy n counted earlier t = energy_reply n t
rule_reply Loss n counted earlier t = loss_reply n
rule_reply Pair n counted earlier t = pair_reply n
