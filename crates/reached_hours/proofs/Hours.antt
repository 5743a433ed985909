-- DID THE HOUR REACH 95 (document 02, #106): an hour that is not refused, dReg, E-dReg or sReg, asked about by the scores that it leaves and the earlier ones that it was handed, is judged for
-- every threshold up to 100, and the answer is yes exactly when its rate is at least the threshold. Over the contracts of `reached` and of the three hour calls as the toolchain reads them; by
-- the rate of an accepted hour. Assumes nothing.
use Prim.Native.Nat.{ℕ, ◌≤◌}
use mathlib.Core.Path.{◌≡◌, sym, ap, ◌∙◌, subst}
use mathlib.Core.List.{List}
use lib.Dec.{leb}
use lib.ListN.{length}
use contract.Lifetimes.{Lfts}
use denote.Ref.{Bor}
use denote.Triple.Clauses.{AtExit}
use borrow.Fn.Kinds.{Dens, GoodsP, ended_of}
use Rattle.units.specs.Limits.{most_score}
use Rattle.rate.specs.Rolling.{rolling, smallest}
use Rattle.rate.specs.Accepted.{ScoresFit}
use Rattle.hour.specs.Hour.{WholeHour, hour_answer, scores_left}
use Rattle.hour.specs.Calls.{hour_handed, hour_run, dreg_handed, dreg_run}
use Rattle.hour.specs.declared.Settlement.{Settlement}
use Rattle.hour.proofs.Laws.{fit, refusal_is, scores_granted}
use Rattle.hour.proofs.Accepted.{Five, five_targets, hour_scores_fit, hour_accepted, dreg_hour_accepted}
use Rattle.hour.proofs.hour.Reads as hour_reads
use Rattle.hour.proofs.hour.Kinds as hour_kinds
use Rattle.hour.proofs.dreg_hour.Reads as dreg_reads
use Rattle.hour.proofs.dreg_hour.Kinds as dreg_kinds
use Rattle.sreg_hour.specs.Hour.{SRegHour, sreg_answer, sreg_left}
use Rattle.sreg_hour.specs.Calls.{sreg_handed, sreg_run}
use Rattle.sreg_hour.specs.declared.Settled.{Settled}
use Rattle.sreg_hour.proofs.Laws as sreg_laws
use Rattle.sreg_hour.proofs.Accepted.{sreg_scores_fit, sreg_hour_accepted}
use Rattle.sreg_hour.proofs.sreg_hour.Reads as sreg_hour_reads
use Rattle.sreg_hour.proofs.sreg_hour.Kinds as sreg_hour_kinds
use Rattle.reached.specs.Reached.{hour_reached}
use Rattle.reached.specs.declared.Verdict.{Verdict}
use Rattle.reached.proofs.Answers.{fit_threshold, hour_verdict}
use Rattle.reached.proofs.Seconds.{named_rate}
use Rattle.reached.proofs.reached.Reads as reached
use Rattle.reached.proofs.reached.Kinds as reached_kinds

-- ---- what an hour leaves are scores, after those that it was handed

left_fit : (h : WholeHour) (run scores : List ℕ) (r : Settlement) → Five h.service → r ≡ hour_answer h (length run) → scores ≡ scores_left h run → r.refusal ≡ 0 → ScoresFit h.earlier scores
left_fit h run scores r five answer left none =
    let zero = sym (ap (λ (x : Settlement). x.refusal) answer ∙ refusal_is h (length run)) ∙ none in
    subst (ScoresFit h.earlier) (sym (left ∙ scores_granted h run zero)) (hour_scores_fit h (length run) (fit h (length run) zero) five)

sreg_left_fit : (h : SRegHour) (run scores : List ℕ) (r : Settled) → r ≡ sreg_answer h (length run) → scores ≡ sreg_left h run → r.hour.refusal ≡ 0 → ScoresFit h.earlier scores
sreg_left_fit h run scores r answer left none =
    let zero = sym (ap (λ (x : Settled). x.hour.refusal) answer ∙ sreg_laws.refusal_is h (length run)) ∙ none in
    subst (ScoresFit h.earlier) (sym (left ∙ sreg_laws.scores_granted h run zero)) (sreg_scores_fit h (length run) (sreg_laws.fit h (length run) zero))

-- ---- a call of `reached`, on any threshold up to 100

module _ (κs : Lfts 2) (earlier scores : Bor (List ℕ)) (threshold : ℕ) (x : Verdict) (s : AtExit (ended_of 2 reached_kinds.ps reached_kinds.r) κs)
    (met : reached.Post κs (earlier, (scores, (threshold, tt))) x s) (small : threshold ≤ most_score) where
  -- beside any rate that is the smallest rolling rate
  judged : (before own : List ℕ) (rate : ℕ) → earlier.now ≡ before → scores.now ≡ own → ScoresFit before own → rate ≡ smallest (rolling before own)
      → (x.refusal ≡ 0) × (x.reached ≡ leb threshold rate)
  judged before own rate e f fits is =
      let a = met ∙ (λ i. hour_reached (e i) (f i) threshold) ∙ hour_verdict before own threshold (fit_threshold before own threshold (record { scored = fits; small = small })) in
      (ap (λ (y : Verdict). y.refusal) a, ap (λ (y : Verdict). y.reached) a ∙ named_rate before own threshold fits.long ∙ ap (leb threshold) (sym is))

  pub dreg_hour_reached : (ηs : Lfts 6) (a : Dens ηs dreg_kinds.ps) (r : Settlement) (t : AtExit (ended_of 6 dreg_kinds.ps dreg_kinds.r) ηs) → dreg_reads.Post ηs a r t → r.refusal ≡ 0
      → earlier.now ≡ (dreg_handed ηs a).earlier → scores.now ≡ dreg_run ηs t → (x.refusal ≡ 0) × (x.reached ≡ leb threshold r.rate)
  dreg_hour_reached ηs a r t p none e f =
      judged _ _ r.rate e f (left_fit (dreg_handed ηs a) (dreg_run ηs a) (dreg_run ηs t) r tt p.0 p.1 none) (dreg_hour_accepted ηs a r t p none).rate

  pub hour_reached_lem : (ηs : Lfts 6) (a : Dens ηs hour_kinds.ps) → GoodsP ηs hour_kinds.ps a → (r : Settlement) (t : AtExit (ended_of 6 hour_kinds.ps hour_kinds.r) ηs) → hour_reads.Post ηs a r t
      → r.refusal ≡ 0 → earlier.now ≡ (hour_handed ηs a).earlier → scores.now ≡ hour_run ηs t → (x.refusal ≡ 0) × (x.reached ≡ leb threshold r.rate)
  hour_reached_lem ηs a good r t p none e f =
      judged _ _ r.rate e f
      (left_fit (hour_handed ηs a) (hour_run ηs a) (hour_run ηs t) r (five_targets a.1.1.1.1.0 _ good.1.1.1.1.0) p.0 p.1 none)
      (hour_accepted ηs a good r t p none).rate

  pub sreg_hour_reached : (ηs : Lfts 6) (a : Dens ηs sreg_hour_kinds.ps) (r : Settled) (t : AtExit (ended_of 6 sreg_hour_kinds.ps sreg_hour_kinds.r) ηs) → sreg_hour_reads.Post ηs a r t
      → r.hour.refusal ≡ 0 → earlier.now ≡ (sreg_handed ηs a).earlier → scores.now ≡ sreg_run ηs t → (x.refusal ≡ 0) × (x.reached ≡ leb threshold r.hour.rate)
  sreg_hour_reached ηs a r t p none e f =
      judged _ _ r.hour.rate e f (sreg_left_fit (sreg_handed ηs a) (sreg_run ηs a) (sreg_run ηs t) r p.0 p.1 none) (sreg_hour_accepted ηs a r t p none).rate
