-- By what `judge` found: the readings all fit and the scores are handed over, or one does not and the run stays as it was.
use Rattle.std.proofs.Common.{ℕ, List, length, refl, sym, ap, ◌∙◌}
use Rattle.sreg.proofs.Seconds.{length_scores}
use Rattle.sreg.proofs.Laws.{before_fit, fit_before, fit_judged, unfit_judged, hour_granted, reading_granted, reading_refused}
use Rattle.sreg.proofs.judged_hour.Goals as goal

pub judge-requires : goal.judge-requires
judge-requires c =
    let f = before_fit _ _ _ _ _ c.requires in
    fit_before (record { long_powers = f.long_powers; long_frequencies = f.long_frequencies; long_places = refl; capacity_fits = f.capacity_fits; state_fits = f.state_fits })

pub returns-in_default-clause-answers : goal.returns-in_default-clause-answers
returns-in_default-clause-answers c =
    let a = c.args in
    sym (reading_refused a.powers.now a.frequencies.now a.capacity a.state a.scores.now c.requires (unfit_judged _ _ _ (sym c.judge.ensures.finds ∙ c.in_default.is))).0

pub returns-in_default-clause-leaves : goal.returns-in_default-clause-leaves
returns-in_default-clause-leaves c =
    let a = c.args in
    sym (reading_refused a.powers.now a.frequencies.now a.capacity a.state a.scores.now c.requires (unfit_judged _ _ _ (sym c.judge.ensures.finds ∙ c.in_default.is))).1

pub copy_from_slice-requires : goal.copy_from_slice-requires
copy_from_slice-requires c =
    let f = before_fit _ _ _ _ _ c.requires in
    let j = fit_judged _ _ _ _ (sym c.judge.ensures.finds ∙ c.in-Some.is) in
    f.long_places ∙ sym f.long_powers ∙ sym (length_scores _ _ _ _ (f.long_powers ∙ sym f.long_frequencies)) ∙ sym (ap (λ (l : List ℕ). length l) (c.judge.ensures.scores j.0))

pub returns-clause-answers : goal.returns-clause-answers
returns-clause-answers c =
    let a = c.args in
    let j = fit_judged _ _ _ _ (sym c.judge.ensures.finds ∙ c.in-Some.is) in
    rw j.1 (sym (hour_granted a.powers.now a.frequencies.now a.capacity a.state a.scores.now (reading_granted a.powers.now a.frequencies.now a.capacity a.state a.scores.now c.requires j.0)).0)

pub returns-clause-leaves : goal.returns-clause-leaves
returns-clause-leaves c =
    let a = c.args in
    let j = fit_judged _ _ _ _ (sym c.judge.ensures.finds ∙ c.in-Some.is) in
    c.copy_from_slice.ensures.after ∙ c.judge.ensures.scores j.0
    ∙ sym (hour_granted a.powers.now a.frequencies.now a.capacity a.state a.scores.now (reading_granted a.powers.now a.frequencies.now a.capacity a.state a.scores.now c.requires j.0)).1
