-- Second by second: its test decides, and its score and the state after it are the definition's.
use Rattle.std.proofs.Common.{◌≡◌, true, ◌&&◌, pos, length, get_or, refl, sym, arith, rules, ◌∙◌}
use lib.Seq.{take_all}
use mir.Syntax.{w64}
use mir.Val.{SFits}
use mir.Facts.{to_z-of_z}
use Rattle.whole.specs.Folds.{all_to}
use Rattle.whole.proofs.Choice.{both, and_both, clash}
use Rattle.whole.proofs.Folds.{fold_none, fold_step, all_fails}
use Rattle.whole.proofs.Runs.{filled_next, filled_all}
use Rattle.sreg.specs.Run.{state_after}
use Rattle.sreg.specs.Inner.{all_read, read_at, state_of}
use Rattle.sreg.proofs.States.{next_is}
use Rattle.sreg.proofs.Seconds.{length_scores, score_at, state_none, state_step}
use Rattle.sreg.proofs.Laws.{before_fit, listed_places, judged_fit, judged_unfit}
use Rattle.sreg.proofs.judge.Invariants.{rule}
use Rattle.sreg.proofs.judge.Goals as goal

pub loop-i-init : goal.loop-i-init
loop-i-init c =
    let f = before_fit _ _ _ _ _ c.requires in
    (rw c.place_of-reached.ensures f.state_fits, fold_none true ◌&&◌ _, c.place_of-reached.ensures ∙ state_none c.args.state c.args.powers.now c.args.frequencies.now, refl)

pub bounds-frequencies-i : goal.bounds-frequencies-i
bounds-frequencies-i c =
    let f = before_fit _ _ _ _ _ c.requires in
    let p = f.long_powers in
    let q = f.long_frequencies in
    omega arith

pub returns-then-not-is_reading-clause-finds : goal.returns-then-not-is_reading-clause-finds
unfolding all_read
returns-then-not-is_reading-clause-finds c =
    let a = c.args in
    let i = c.loop-i.i in
    let f : SFits w64 (get_or a.powers.now i (pos 0)) = search rules in
    let g : SFits w64 (get_or a.frequencies.now i (pos 0)) = search rules in
    let t : c.is_reading.result ≡ read_at a.powers.now a.frequencies.now i = rw (to_z-of_z f, to_z-of_z g) at c.is_reading.ensures in
    judged_unfit a.state a.powers.now a.frequencies.now (all_fails (length a.powers.now) (read_at a.powers.now a.frequencies.now) i (omega arith) (sym t ∙ c.if-not-is_reading.true))

pub returns-then-not-is_reading-clause-scores : goal.returns-then-not-is_reading-clause-scores
unfolding all_read
returns-then-not-is_reading-clause-scores c =
    let a = c.args in
    let i = c.loop-i.i in
    let f : SFits w64 (get_or a.powers.now i (pos 0)) = search rules in
    let g : SFits w64 (get_or a.frequencies.now i (pos 0)) = search rules in
    let t : c.is_reading.result ≡ read_at a.powers.now a.frequencies.now i = rw (to_z-of_z f, to_z-of_z g) at c.is_reading.ensures in
    let z = all_fails (length a.powers.now) (read_at a.powers.now a.frequencies.now) i (omega arith) (sym t ∙ c.if-not-is_reading.true) in
    λ e. clash (sym z ∙ e)

pub score_in-requires : goal.score_in-requires
score_in-requires c =
    let a = c.args in
    let i = c.loop-i.i in
    let f : SFits w64 (get_or a.powers.now i (pos 0)) = search rules in
    let g : SFits w64 (get_or a.frequencies.now i (pos 0)) = search rules in
    let t : c.is_reading.result ≡ read_at a.powers.now a.frequencies.now i = rw (to_z-of_z f, to_z-of_z g) at c.is_reading.ensures in
    let r = and_both _ _ (sym t ∙ c.if-not-is_reading.false) in
    rw (to_z-of_z f) (c.loop-i.invariant.0, (r.0, (before_fit _ _ _ _ _ c.requires).capacity_fits))

pub bounds-scores-i : goal.bounds-scores-i
bounds-scores-i c =
    let f = before_fit _ _ _ _ _ c.requires in
    let p = f.long_powers in
    let q = f.long_places in
    omega arith

pub loop-i-preserved : goal.loop-i-preserved
loop-i-preserved c =
    let a = c.args in
    let i = c.loop-i.i in
    let v = c.loop-i.invariant in
    let f : SFits w64 (get_or a.powers.now i (pos 0)) = search rules in
    let g : SFits w64 (get_or a.frequencies.now i (pos 0)) = search rules in
    let b = before_fit _ _ _ _ _ c.requires in
    let lp = b.long_powers in
    let ls = b.long_places in
    let n : length a.powers.now ≡ length a.frequencies.now = lp ∙ sym b.long_frequencies in
    let t : c.is_reading.result ≡ read_at a.powers.now a.frequencies.now i = rw (to_z-of_z f, to_z-of_z g) at c.is_reading.ensures in
    let passed = sym t ∙ c.if-not-is_reading.false in
    let next = rw (to_z-of_z f, to_z-of_z g) at c.next_state-reached.ensures in
    let score : c.score_in.result ≡ rule a.state a.capacity a.powers.now a.frequencies.now i =
    rw (to_z-of_z f, to_z-of_z g, v.2) at c.score_in.ensures ∙ sym (score_at a.state a.capacity.0 a.powers.now a.frequencies.now i n (omega arith)) in (
      rw next (next_is _ _ (state_of c.loop-i.reached) v.0 (and_both _ _ passed).0),
      fold_step true ◌&&◌ i (read_at a.powers.now a.frequencies.now) ∙ both v.1 passed,
      next ∙ rw v.2 (sym (state_step a.state a.powers.now a.frequencies.now i n (omega arith))),
      rw (score, v.3) (filled_next (rule a.state a.capacity a.powers.now a.frequencies.now) a.scores.now i (omega arith)),
    )

pub returns-clause-finds : goal.returns-clause-finds
unfolding all_read
returns-clause-finds c =
    let a = c.args in
    let i = c.loop-i.i in
    let v = c.loop-i.invariant in
    let b = before_fit _ _ _ _ _ c.requires in
    let lp = b.long_powers in
    let lf = b.long_frequencies in
    let done : i ≡ length a.powers.now = omega arith in
    let all : all_to (length a.powers.now) (read_at a.powers.now a.frequencies.now) ≡ true = rw done at v.1 in
    let after : c.state_of.result ≡ state_after a.state a.powers.now a.frequencies.now =
    c.state_of.ensures ∙ v.2 ∙ rw (take_all i a.powers.now (omega arith), take_all i a.frequencies.now (omega arith)) in
    rw after (judged_fit a.state a.powers.now a.frequencies.now all)

pub returns-clause-scores : goal.returns-clause-scores
returns-clause-scores c =
    let a = c.args in
    let i = c.loop-i.i in
    let v = c.loop-i.invariant in
    let b = before_fit _ _ _ _ _ c.requires in
    let lp = b.long_powers in
    let ls = b.long_places in
    let n : length a.powers.now ≡ length a.frequencies.now = lp ∙ sym b.long_frequencies in
    let done : i ≡ length a.powers.now = omega arith in
    λ e. v.3 ∙ filled_all (rule a.state a.capacity a.powers.now a.frequencies.now) 0 a.scores.now i (omega arith) ∙ listed_places _ 0 i (done ∙ sym (length_scores _ _ _ _ n))
