-- `score::judged_by` meets its contract: a second that is not refused has the curve's bounds. Assumes nothing.
use Rattle.std.proofs.Common.{◌≡◌, ◌∙◌, ap, SFits, w64, rules, Ok}
use Rattle.std.proofs.Math.Facts.{to_z-of_z}
use Rattle.whole.proofs.Signed.{inside}
use Rattle.whole.proofs.Sums.{in_within}
use Rattle.curve.specs.Curve.{moved_back, bounds_by}
use Rattle.curve.specs.declared.Bounds.{Bounds}
use Rattle.curve.proofs.Limits.{upper_within, lower_within, bounds_ordered, fit_curve, curve_granted}
use Rattle.score.specs.Score.{judged_by}
use Rattle.score.proofs.Laws.{second_fit}
use Rattle.score.proofs.judged_by.Goals as goal

pub inverse-requires : goal.inverse-requires
inverse-requires c = inside (second_fit _ _ _ _ _ c.requires).capacity

pub by_bounds-requires : goal.by_bounds-requires
by_bounds-requires c =
    let a = c.args in
    let f = second_fit a.power a.transfer a.capacity a.frequency a.reference c.requires in
    let told : c.curve-told.result ≡ Ok (bounds_by a.reference.0 a.frequency.0) =
    c.curve-told.ensures ∙ curve_granted _ _ (fit_curve _ _ (record { reference = f.reference; frequency = f.frequency })) in
    let bounds : c.unwrap_or-bounds.result ≡ bounds_by a.reference.0 a.frequency.0 = rw told at c.unwrap_or-bounds.ensures in
    let upper : SFits w64 c.unwrap_or-bounds.result.upper = search rules in
    let lower : SFits w64 c.unwrap_or-bounds.result.lower = search rules in
    let upper_is = to_z-of_z upper ∙ ap (λ (b : Bounds). b.upper) bounds in
    let lower_is = to_z-of_z lower ∙ ap (λ (b : Bounds). b.lower) bounds in
    let z = moved_back a.reference.0 a.frequency.0 in
    record {
      within = (in_within f.power, (in_within f.transfer, inside f.capacity));
      inverse_value = c.inverse.ensures;
      within_2 = rw (upper_is, lower_is) (upper_within z, (lower_within z, bounds_ordered z));
    }

pub returns : goal.returns
unfolding judged_by
returns c =
    let a = c.args in
    let f = second_fit a.power a.transfer a.capacity a.frequency a.reference c.requires in
    let told : c.curve-told.result ≡ Ok (bounds_by a.reference.0 a.frequency.0) =
    c.curve-told.ensures ∙ curve_granted _ _ (fit_curve _ _ (record { reference = f.reference; frequency = f.frequency })) in
    let bounds : c.unwrap_or-bounds.result ≡ bounds_by a.reference.0 a.frequency.0 = rw told at c.unwrap_or-bounds.ensures in
    let upper : SFits w64 c.unwrap_or-bounds.result.upper = search rules in
    let lower : SFits w64 c.unwrap_or-bounds.result.lower = search rules in
    let upper_is = to_z-of_z upper ∙ ap (λ (b : Bounds). b.upper) bounds in
    let lower_is = to_z-of_z lower ∙ ap (λ (b : Bounds). b.lower) bounds in
    rw (upper_is, lower_is) at c.by_bounds.ensures
