-- `score::fill_by` meets its contract: each turn puts in one score. Assumes nothing.
use Rattle.std.proofs.Common.{◌≡◌, ◌∙◌, ◌<◌, length, get_or, pos, sym, ap, SFits, w64, rules, arith}
use Rattle.std.proofs.Math.Facts.{to_z-of_z}
use Rattle.whole.proofs.Runs.{filled_next, filled_all}
use Rattle.score.specs.Run.{run_score_at}
use Rattle.score.specs.declared.Scored.{Scored}
use Rattle.score.proofs.Laws.{second_granted}
use Rattle.score.proofs.Run.{run_fit, run_second, run_scores_is}
use Rattle.score.proofs.fill_by.Goals as goal

pub offset_bounds-powers-i : goal.offset_bounds-powers-i
offset_bounds-powers-i c =
    let fit = run_fit _ _ _ _ _ _ c.requires.scores_value in
    let i : c.loop-i.i < length c.args.powers.now = omega arith in
    search rules

pub offset_bounds-transfers-i : goal.offset_bounds-transfers-i
offset_bounds-transfers-i c =
    let fit = run_fit _ _ _ _ _ _ c.requires.scores_value in
    let i : c.loop-i.i < length c.args.transfers.now = omega arith in
    search rules

pub offset_bounds-frequencies-i : goal.offset_bounds-frequencies-i
offset_bounds-frequencies-i c =
    let fit = run_fit _ _ _ _ _ _ c.requires.scores_value in
    let i : c.loop-i.i < length c.args.frequencies.now = omega arith in
    search rules

pub bounds-powers-i : goal.bounds-powers-i
bounds-powers-i c = let n = (run_fit _ _ _ _ _ _ c.requires.scores_value).as_places in omega arith

pub bounds-transfers-i : goal.bounds-transfers-i
bounds-transfers-i c = let fit = run_fit _ _ _ _ _ _ c.requires.scores_value in omega arith

pub bounds-frequencies-i : goal.bounds-frequencies-i
bounds-frequencies-i c = let fit = run_fit _ _ _ _ _ _ c.requires.scores_value in omega arith

pub judged_in-requires-clause-reference_value : goal.judged_in-requires-clause-reference_value
judged_in-requires-clause-reference_value c =
    let a = c.args in
    let i = c.loop-i.i in
    let fit = run_fit _ _ _ _ _ _ c.requires.scores_value in
    let power : SFits w64 (get_or a.powers.now i (pos 0)) = search rules in
    let transfer : SFits w64 (get_or a.transfers.now i (pos 0)) = search rules in
    let frequency : SFits w64 (get_or a.frequencies.now i (pos 0)) = search rules in
    rw (to_z-of_z power, to_z-of_z transfer, to_z-of_z frequency) (run_second _ _ _ _ _ _ fit i (omega arith))

pub loop-i-preserved : goal.loop-i-preserved
unfolding run_score_at
loop-i-preserved c =
    let a = c.args in
    let i = c.loop-i.i in
    let fit = run_fit _ _ _ _ _ _ c.requires.scores_value in
    let power : SFits w64 (get_or a.powers.now i (pos 0)) = search rules in
    let transfer : SFits w64 (get_or a.transfers.now i (pos 0)) = search rules in
    let frequency : SFits w64 (get_or a.frequencies.now i (pos 0)) = search rules in
    let judged = rw (to_z-of_z power, to_z-of_z transfer, to_z-of_z frequency) at c.judged_in.ensures in
    let granted = ap (λ (r : Scored). r.score) (second_granted _ _ _ _ _ (run_second _ _ _ _ _ _ fit i (omega arith))) in
    let score : c.judged_in.result ≡ run_score_at a.powers.now a.frequencies.now a.transfers.now a.capacity a.reference i = judged ∙ sym granted in
    rw (score, c.loop-i.invariant) (filled_next (run_score_at a.powers.now a.frequencies.now a.transfers.now a.capacity a.reference) a.scores.now i (omega arith))

pub returns : goal.returns
returns c =
    let a = c.args in
    let n = (run_fit _ _ _ _ _ _ c.requires.scores_value).as_places in
    let i : c.loop-i.i ≡ length a.powers.now = omega arith in
    c.loop-i.invariant ∙ filled_all (run_score_at a.powers.now a.frequencies.now a.transfers.now a.capacity a.reference) 0 a.scores.now c.loop-i.i (i ∙ sym n)
    ∙ run_scores_is a.powers.now a.frequencies.now a.transfers.now a.capacity a.reference (length a.scores.now) c.loop-i.i i
