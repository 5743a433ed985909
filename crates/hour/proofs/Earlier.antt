-- THE THREE SECONDS BEFORE THE HOUR (document 02, #102), of the hour: with no earlier score the answer, and the run that is left, are the old ones; earlier scores raise an accepted
-- hour's rate or leave it; and two accepted hours, the second handed the last three scores of the first, are rated as one run of seconds, so that nothing depends on where the hour is cut. By
-- the laws of the rate; over the contracts of `hour` and `dreg_hour` as the source states them. Assumes nothing.
use Prim.Native.Nat.{ℕ, ◌≤◌}
use mathlib.Core.Path.{◌≡◌, refl, sym, ap, ◌∙◌}
use mathlib.Core.Bool.{true, and-true}
use mathlib.Core.List.{List, [], ◌∷◌}
use native.Mathlib.Omega.{arith}
use lib.ListN.{length}
use contract.Lifetimes.{Lfts}
use borrow.Fn.Kinds.{Dens, GoodsP, ended_of}
use denote.Triple.Clauses.{AtExit}
use borrow.Author.Tests.{eq-eqb}
use Rattle.whole.proofs.Choice.{and_both, passed_all}
use Rattle.units.specs.Limits.{earlier_scores}
use Rattle.score.proofs.Laws.{score_most}
use Rattle.rate.specs.Rolling.{earlier_fit, are_scores, rolling, smallest, hourly_rate}
use Rattle.rate.specs.Earlier.{rate_alone, last_three}
use Rattle.rate.specs.declared.Rated.{Rated}
use Rattle.rate.proofs.Rates.{rate_granted}
use Rattle.rate.proofs.Earlier.{none_are, none_alone, alone_granted, none_least, larger_more, first_hour, second_hour, handed_on}
use Rattle.hour.specs.Hour.{WholeHour, seconds_fit, readings_fit, hour_refusal, scores_of, scores_left, granted_hour, settled_of, rate_of, hour_answer}
use Rattle.hour.specs.Accepted.{Accepted, HourFits}
use Rattle.hour.specs.Calls.{hour_handed, hour_run, dreg_handed, dreg_run}
use Rattle.hour.specs.Earlier.{hour_alone_tests, hour_alone_refusal, hour_alone, left_alone, OneRun}
use Rattle.hour.specs.declared.Settlement.{Settlement}
use Rattle.hour.proofs.Laws.{fit, refusal_is, hour_granted}
use Rattle.hour.proofs.Accepted.{Five, five_targets, scored_small, hour_scores_fit, hour_accepted, dreg_hour_accepted}
use Rattle.hour.proofs.hour.Reads as hour_reads
use Rattle.hour.proofs.hour.Kinds as hour_kinds
use Rattle.hour.proofs.dreg_hour.Reads as dreg_reads
use Rattle.hour.proofs.dreg_hour.Kinds as dreg_kinds

-- ---- with none, the old answer

module _ (h : WholeHour) (none : h.earlier ≡ []) where
  none_refusal : (places : ℕ) → hour_refusal h places ≡ hour_alone_refusal h places
  unfolding hour_refusal
  none_refusal places = rw (none, and-true (seconds_fit (length h.powers) (length h.frequencies) places), none_are)

  none_rate : rate_of h ≡ (rate_alone (scores_of h)).rate
  none_rate = ap (λ (l : List ℕ). (hourly_rate l (scores_of h)).rate) none ∙ ap (λ (r : Rated). r.rate) (none_alone (scores_of h))

  pub hour_alone_lem : (places : ℕ) → hour_answer h places ≡ hour_alone h places
  unfolding hour_answer hour_alone
  hour_alone_lem places = rw (none_refusal places, none_rate)

  left_alone_lem : (run : List ℕ) → scores_left h run ≡ left_alone h run
  unfolding scores_left left_alone
  left_alone_lem run = rw (none_refusal (length run))

-- ---- earlier scores raise the rate, or leave it

-- an accepted hour is accepted without them too
alone_none : (h : WholeHour) (places : ℕ) → HourFits h places → hour_alone_refusal h places ≡ 0
alone_none h places f =
    let lengths = (and_both (seconds_fit (length h.powers) (length h.frequencies) places) (earlier_fit (length h.earlier)) f.lengths).0 in
    let readings = (and_both (are_scores h.earlier) (readings_fit h.powers h.frequencies) f.readings).1 in
    passed_all (hour_alone_tests h places) (lengths, (f.capacity, (f.reference, (f.prices, (f.bands, (f.targets, (readings, tt)))))))

-- and rated no higher
pub hour_raised : (h : WholeHour) (places : ℕ) → Five h.service → hour_refusal h places ≡ 0
    → ((hour_alone h places).refusal ≡ 0) × ((hour_alone h places).rate ≤ (hour_answer h places).rate)
unfolding hour_alone settled_of granted_hour
hour_raised h places five accepted =
    let f = fit h places accepted in
    let scores = hour_scores_fit h places f five in
    let alone = ap (λ (r : Rated). r.rate) (alone_granted h.earlier (scores_of h) scores) in
    let rate = ap (λ (r : Rated). r.rate) (rate_granted h.earlier (scores_of h) scores) in
    rw (eq-eqb _ 0 (alone_none h places f), hour_granted h places accepted) (refl, rw (alone, rate) (none_least h.earlier (scores_of h)))

-- ---- nothing depends on where the hour is cut

module _ {h : WholeHour} {scores : List ℕ} {r : Settlement} (a : Accepted h scores r) where
  enough : earlier_scores ≤ length scores
  enough = omega (arith, a.seconds)

  -- what an accepted hour leaves may always be handed on
  pub hands_on : (earlier_fit (length (last_three scores)) ≡ true) × (are_scores (last_three scores) ≡ true)
  hands_on = handed_on scores enough (scored_small scores a.seconds a.score (λ i. score_most _ _ _))

-- of two accepted hours with the same scores, the one after larger scores is rated no lower
pub larger_rate : {g h : WholeHour} {scores : List ℕ} {x y : Settlement} → Accepted g scores x → Accepted h scores y
    → {a b c p q r : ℕ} → g.earlier ≡ a ∷ b ∷ c ∷ [] → h.earlier ≡ p ∷ q ∷ r ∷ [] → a ≤ p → b ≤ q → c ≤ r → x.rate ≤ y.rate
larger_rate {scores = scores} s t {a} {b} {c} {p} {q} {r} e f i j k =
    let one = s.rate ∙ ap (λ (v : List ℕ). smallest (rolling v scores)) e in
    let other = t.rate ∙ ap (λ (v : List ℕ). smallest (rolling v scores)) f in
    rw (one, other) (larger_more a b c p q r scores i j k)

-- rates by the rolling rule, the second after the last three scores of the first: as one run of seconds is rated
pub by_rates : (earlier first second : List ℕ) {x y : Settlement} → earlier_scores ≤ length first → x.rate ≡ smallest (rolling earlier first) → y.rate ≡ smallest (rolling (last_three first) second)
    → OneRun earlier first second x y
by_rates earlier first second enough a b =
    record { first_rate = a ∙ ap smallest (first_hour earlier first second enough); second_rate = b ∙ ap smallest (second_hour earlier first second enough) }

-- two accepted hours, of any service, the second handed the last three scores of the first
pub one_run : {g h : WholeHour} {first second : List ℕ} {x y : Settlement} → Accepted g first x → Accepted h second y → h.earlier ≡ last_three first
    → OneRun g.earlier first second x y
one_run {g} {h} {first} {second} a b e = by_rates g.earlier first second (enough a) a.rate (b.rate ∙ ap (λ (l : List ℕ). smallest (rolling l second)) e)

-- ---- over the contracts

answer_raised : (h : WholeHour) (places : ℕ) (r : Settlement) → Five h.service → r ≡ hour_answer h places → r.refusal ≡ 0
    → ((hour_alone h places).refusal ≡ 0) × ((hour_alone h places).rate ≤ r.rate)
answer_raised h places r five answer accepted =
    rw answer (hour_raised h places five (sym (refusal_is h places) ∙ sym (ap (λ (x : Settlement). x.refusal) answer) ∙ accepted))

-- an E-dReg hour
module _ (κs : Lfts 6) (a : Dens κs hour_kinds.ps) (r : Settlement) (s : AtExit (ended_of 6 hour_kinds.ps hour_kinds.r) κs) (met : hour_reads.Post κs a r s) where
  pub hour_as_before : (hour_handed κs a).earlier ≡ [] → (r ≡ hour_alone (hour_handed κs a) (length (hour_run κs a))) × (hour_run κs s ≡ left_alone (hour_handed κs a) (hour_run κs a))
  hour_as_before none = (met.0 ∙ hour_alone_lem (hour_handed κs a) none (length (hour_run κs a)), met.1 ∙ left_alone_lem (hour_handed κs a) none (hour_run κs a))

  pub hour_rate_raised : GoodsP κs hour_kinds.ps a → r.refusal ≡ 0 → let alone = hour_alone (hour_handed κs a) (length (hour_run κs a)) in (alone.refusal ≡ 0) × (alone.rate ≤ r.rate)
  hour_rate_raised good = answer_raised (hour_handed κs a) (length (hour_run κs a)) r (five_targets a.1.1.1.1.0 _ good.1.1.1.1.0) met.0

  -- and the one after it, handed the last three scores that the first left
  module _ (good : GoodsP κs hour_kinds.ps a) (ηs : Lfts 6) (b : Dens ηs hour_kinds.ps) (also : GoodsP ηs hour_kinds.ps b) (x : Settlement) (t : AtExit (ended_of 6 hour_kinds.ps hour_kinds.r) ηs)
      (next : hour_reads.Post ηs b x t) (handed : (hour_handed ηs b).earlier ≡ last_three (hour_run κs s)) where
    pub hours_one_run : r.refusal ≡ 0 → x.refusal ≡ 0 → OneRun (hour_handed κs a).earlier (hour_run κs s) (hour_run ηs t) r x
    hours_one_run first second = one_run (hour_accepted κs a good r s met first) (hour_accepted ηs b also x t next second) handed

-- a dReg hour
module _ (κs : Lfts 6) (a : Dens κs dreg_kinds.ps) (r : Settlement) (s : AtExit (ended_of 6 dreg_kinds.ps dreg_kinds.r) κs) (met : dreg_reads.Post κs a r s) where
  pub dreg_hour_as_before : (dreg_handed κs a).earlier ≡ [] → (r ≡ hour_alone (dreg_handed κs a) (length (dreg_run κs a))) × (dreg_run κs s ≡ left_alone (dreg_handed κs a) (dreg_run κs a))
  dreg_hour_as_before none = (met.0 ∙ hour_alone_lem (dreg_handed κs a) none (length (dreg_run κs a)), met.1 ∙ left_alone_lem (dreg_handed κs a) none (dreg_run κs a))

  pub dreg_hour_rate_raised : r.refusal ≡ 0 → let alone = hour_alone (dreg_handed κs a) (length (dreg_run κs a)) in (alone.refusal ≡ 0) × (alone.rate ≤ r.rate)
  dreg_hour_rate_raised = answer_raised (dreg_handed κs a) (length (dreg_run κs a)) r tt met.0

  module _ (ηs : Lfts 6) (b : Dens ηs dreg_kinds.ps) (x : Settlement) (t : AtExit (ended_of 6 dreg_kinds.ps dreg_kinds.r) ηs) (next : dreg_reads.Post ηs b x t)
      (handed : (dreg_handed ηs b).earlier ≡ last_three (dreg_run κs s)) where
    pub dreg_hours_one_run : r.refusal ≡ 0 → x.refusal ≡ 0 → OneRun (dreg_handed κs a).earlier (dreg_run κs s) (dreg_run ηs t) r x
    dreg_hours_one_run first second = one_run (dreg_hour_accepted κs a r s met first) (dreg_hour_accepted ηs b x t next second) handed
