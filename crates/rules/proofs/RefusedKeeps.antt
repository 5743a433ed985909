-- A refused question has its number, and zeros in its fields. By the tests of each rule's definition. Assumes nothing.
use Prim.Native.Nat.{ℕ}
use mathlib.Core.Path.{◌≡◌, refl, sym, ap, ◌∙◌}
use mathlib.Core.Bool.{Bool, true, false, ◌&&◌}
use mathlib.Core.List.{List, [], ◌∷◌}
use lib.Dec.{eqb}
use lib.IntN.{ℤ, pos}
use lib.ListN.{replicate, take, drop}
use Rattle.whole.specs.Whole.{up}
use Rattle.whole.specs.Refused.{RefusedBare}
use Rattle.whole.proofs.Choice.{by_test}
use Rattle.units.specs.Units.{kilowatts, megawatts, millihertz, dollars, in_kilowatts}
use Rattle.units.specs.Limits.{is_pattern}
use Rattle.curve.specs.Curve.{curve_at}
use Rattle.score.specs.Score.{second_refusal, second_score}
use Rattle.rate.specs.Rolling.{scores_refusal, hourly_rate}
use Rattle.reached.specs.Reached.{verdict_refusal, hour_reached}
use Rattle.fees.specs.Fees.{charge_refusal, fee_answer, quality_refusal, quality_answer, energy_refusal, energy_answer, charge_of, no_charge}
use Rattle.std.specs.Prelude.{Result, Ok, Err}
use Rattle.units.specs.declared.refusal.Refusal.{Refusal}
use Rattle.loss.specs.Loss.{loss_answer}
use Rattle.pair.specs.Pair.{rounded_bits}
use Rattle.numbers.specs.Numbers.{number, byte_of, scores_in}
use Rattle.words.specs.Replies.{Reply, reply}
use Rattle.words.specs.Inner.{boxed}
use Rattle.words.specs.declared.Few.{Few}
use Rattle.words.specs.declared.Rule.{Rule}
use Rattle.words.specs.declared.Rule.TheVariants.{Kilowatts, Curve, Score, Rate, Reached, Bands, Factor, Fee, Quality, Energy, Loss, Pair}
use Rattle.rules.specs.Rules.{factor_in, kilowatts_reply, curve_reply, score_reply, rate_reply, reached_reply, bands_reply, factor_reply, fee_reply, quality_reply, energy_reply, loss_reply, pair_reply, rule_reply, result_reply}
use Rattle.rules.specs.Inner.{field_count}
use Rattle.rules.proofs.answer.Reads as answer
use Rattle.rules.proofs.answer.Kinds as answer_kinds

-- a number, and zeros
abbrev zeros : Rule → ℕ → Reply
zeros rule k = reply k (replicate (field_count rule) (pos 0))

-- of a result it is seen by the result alone
result_bare : {A : Type 0} (none : List ℤ) (fields : A → List ℤ) (a : Result A Refusal) → ((result_reply none fields a).refusal ≡ 0 → ⊥)
    → result_reply none fields a ≡ reply (result_reply none fields a).refusal none
result_bare none fields (Ok x) f = absurd (f refl)
result_bare none fields (Err r) f = refl

converted : (n : List ℤ) → is_pattern (number n 0) && is_pattern (number n 1) ≡ true → ((pair_reply n).refusal ≡ 0 → ⊥) → pair_reply n ≡ zeros Pair (pair_reply n).refusal
unfolding pair_reply
converted n e f =
    let g = rw e at f in
    rw e (result_bare (pos 0 ∷ pos 0 ∷ []) (λ r. r.frequency.0 ∷ r.power.0 ∷ []) (rounded_bits (up (number n 0)) (up (number n 1))) g)

refused : (rule : Rule) (n : List ℤ) (counted : Bool) (earlier t : List ℤ) → ((rule_reply rule n counted earlier t).refusal ≡ 0 → ⊥)
    → rule_reply rule n counted earlier t ≡ zeros rule (rule_reply rule n counted earlier t).refusal
unfolding kilowatts_reply curve_reply score_reply rate_reply reached_reply bands_reply factor_reply fee_reply quality_reply energy_reply loss_reply pair_reply second_score hourly_rate hour_reached fee_answer quality_answer energy_answer charge_of no_charge
refused Kilowatts n counted earlier t f = result_bare (pos 0 ∷ []) (λ p. p.0 ∷ []) (in_kilowatts (megawatts (number n 0))) f
refused Curve n counted earlier t f = result_bare (pos 0 ∷ pos 0 ∷ []) (λ b. b.upper ∷ b.lower ∷ []) (curve_at (millihertz (number n 0)) (millihertz (number n 1))) f
refused Score n counted earlier t f = by_test (eqb (second_refusal (kilowatts (number n 0)) (kilowatts (number n 1)) (kilowatts (number n 2)) (millihertz (number n 3)) (millihertz (number n 4))) 0) (λ e. absurd (f (rw e))) (λ e. rw e)
refused Rate n true earlier t f = by_test (eqb (scores_refusal (scores_in earlier) (scores_in t)) 0) (λ e. absurd (f (rw e))) (λ e. rw e)
refused Rate n false earlier t f = refl
refused Reached n true earlier t f = by_test (eqb (verdict_refusal (scores_in earlier) (scores_in t) (byte_of (number n 0))) 0) (λ e. absurd (f (rw e))) (λ e. rw e)
refused Reached n false earlier t f = refl
refused Bands n counted earlier t f = refl
refused Factor n counted earlier t f = result_bare (pos 0 ∷ []) (λ f. f ∷ []) (factor_in t (byte_of (number n 0))) f
refused Fee n counted earlier t f = by_test (eqb (charge_refusal (number n 0) (kilowatts (number n 1))) 0) (λ e. absurd (f (rw e))) (λ e. rw e)
refused Quality n counted earlier t f = by_test (eqb (quality_refusal (dollars (number n 0)) (dollars (number n 1)) (number n 2)) 0) (λ e. absurd (f (rw e))) (λ e. rw e)
refused Energy n counted earlier t f = by_test (eqb (energy_refusal t (take 4 (drop 2 n)) (number n 0) (number n 1)) 0) (λ e. absurd (f (rw e))) (λ e. rw e)
refused Loss n counted earlier t f =
    result_bare (pos 0 ∷ pos 0 ∷ pos 0 ∷ []) (λ l. l.basic.0 ∷ l.excess.0 ∷ l.total.0 ∷ []) (loss_answer (number n 0) (number n 1) (number n 2) (number n 3)) f
refused Pair n counted earlier t f = by_test (is_pattern (number n 0) && is_pattern (number n 1)) (λ e. converted n e f) (λ e. rw e)

answer_refused_keeps : RefusedBare 2 answer_kinds.ps answer_kinds.r (λ κs x. x.refusal) (λ κs a k. boxed (zeros a.0 k)) answer.Post
answer_refused_keeps κs a x s p f =
    let k = ap (λ (y : Few). y.refusal) p in
    p ∙ ap boxed (refused a.0 _ _ _ _ (λ z. f (k ∙ z))) ∙ sym (ap (λ n. boxed (zeros a.0 n)) k)
