-- `score::nearest_percent` meets its contract: by the sign. Assumes nothing.
use Rattle.std.proofs.Common.{◌≡◌, ◌*◌, SFits, w64, pos, nat_abs, ◌-ℤ◌, to_z}
use Rattle.std.proofs.Math.Facts.{to_z-of_z}
use Rattle.whole.specs.Whole.{half_up}
use Rattle.whole.proofs.Signed.{signed, bits_pos, opposite}
use Rattle.score.proofs.ByInverse.{percent_up, percent_down}
use Rattle.score.proofs.nearest_percent.Goals as goal

pub returns-then-reach-lt0 : goal.returns-then-reach-lt0
returns-then-reach-lt0 c =
    let a = c.args in
    let reach = rw (to_z-of_z c.ranges.reach) at c.unsigned_abs.ensures.value in
    let capacity = rw (to_z-of_z c.ranges.capacity) at c.unsigned_abs-2.ensures.value in
    let q : c.percents-size.result ≡ half_up (nat_abs a.reach * 100) (nat_abs a.capacity) = rw (reach, capacity) at c.percents-size.ensures.0 in
    let most = c.percents-size.ensures.1 in
    let fits : SFits w64 (pos c.percents-size.result) = omega signed in
    let turned : SFits w64 (pos 0 -ℤ to_z w64 c.percents-size.result) = omega (signed, bits_pos fits) in
    rw (percent_down a.reach (nat_abs a.capacity) (omega signed), ← q) (omega (signed, bits_pos fits, opposite (pos c.percents-size.result)))

pub returns-else-reach-lt0 : goal.returns-else-reach-lt0
returns-else-reach-lt0 c =
    let a = c.args in
    let reach = rw (to_z-of_z c.ranges.reach) at c.unsigned_abs.ensures.value in
    let capacity = rw (to_z-of_z c.ranges.capacity) at c.unsigned_abs-2.ensures.value in
    let q : c.percents-size.result ≡ half_up (nat_abs a.reach * 100) (nat_abs a.capacity) = rw (reach, capacity) at c.percents-size.ensures.0 in
    let most = c.percents-size.ensures.1 in
    let fits : SFits w64 (pos c.percents-size.result) = omega signed in
    rw (percent_up a.reach (nat_abs a.capacity) (omega signed), ← q) (to_z-of_z fits)
