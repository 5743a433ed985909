-- What a second's score is, for the crates above: at most 100 whatever was handed in, and the paper's formula where it is not refused. By the
-- tests of its refusal. Assumes nothing.
use Prim.Native.Nat.{ℕ, ◌+◌, ◌-◌, ◌≤◌, max}
use mathlib.Core.Path.{◌≡◌, refl, sym, ap, ◌∙◌}
use mathlib.Core.Bool.{true, false}
use native.Mathlib.Omega.{arith}
use lib.Dec.{eqb}
use lib.IntN.{ℤ, ◌-ℤ◌}
use lib.Signed.{le_z}
use borrow.Author.Tests.{eqb-true, eq-eqb}
use Rattle.whole.specs.Whole.{up, down, in_range, apart}
use Rattle.whole.proofs.Choice.{by_test, and_both, all_passed}
use Rattle.whole.proofs.Signed.{signed, size, difference}
use Rattle.units.specs.Limits.{is_power, is_frequency, most_score}
use Rattle.units.specs.declared.Kilowatts.{Kilowatts}
use Rattle.units.specs.declared.Millihertz.{Millihertz}
use Rattle.curve.specs.Curve.{upper_by, lower_by}
use Rattle.score.specs.Score.{percent_output, score_of, score_tests, second_refusal, judged_by, second_score}
use Rattle.score.specs.Accepted.{SecondFits}
use Rattle.score.specs.declared.Scored.{Scored}

pub score_most : (output upper lower : ℤ) → score_of output upper lower ≤ most_score
unfolding score_of
score_most output upper lower =
    by_test (in_range lower upper output)
    (λ (e : in_range lower upper output ≡ true). rw e (omega arith))
    (λ (e : in_range lower upper output ≡ false). rw e (omega arith))

-- how far x lies above y, 0 below
abbrev pub past : ℤ → ℤ → ℕ
past x y = (up x + down y) - (down x + up y)

not_past : (x y : ℤ) → le_z x y ≡ true → past x y ≡ 0
not_past x y e = omega signed

apart_past : (x y : ℤ) → le_z x y ≡ false → apart x y ≡ past x y
unfolding apart
apart_past x y e = omega (signed, size (x -ℤ y), difference x y)

apart_short : (x y : ℤ) → le_z y x ≡ false → apart x y ≡ past y x
unfolding apart
apart_short x y e = omega (signed, size (x -ℤ y), difference x y)

-- where the lower bound is not above the upper one, the distance to the nearer bound is how far the output lies above the upper or below the lower
pub score_outside : (output upper lower : ℤ) → le_z lower upper ≡ true → score_of output upper lower ≡ most_score - max (past output upper) (past lower output)
unfolding score_of in_range
score_outside output upper lower order =
    by_test (le_z lower output)
    (λ (e : le_z lower output ≡ true).
    by_test (le_z output upper)
    (λ (g : le_z output upper ≡ true). rw (e, g, not_past lower output e, not_past output upper g))
    (λ (g : le_z output upper ≡ false).
    let f : le_z output lower ≡ false = omega signed in
    let nearer : past output upper ≤ past output lower = omega signed in
    rw (e, g, not_past lower output e, apart_past output upper g, apart_past output lower f) (omega arith)))
    (λ (e : le_z lower output ≡ false).
    let g : le_z output upper ≡ true = omega signed in
    let f : le_z upper output ≡ false = omega signed in
    let nearer : past lower output ≤ past upper output = omega signed in
    rw (e, not_past output upper g, apart_short output upper f, apart_short output lower e) (omega arith))

module _ (power transfer capacity : Kilowatts) (frequency reference : Millihertz) where
  pub second_fit : second_refusal power transfer capacity frequency reference ≡ 0 → SecondFits power transfer capacity frequency reference
  unfolding second_refusal
  second_fit e =
      let p = all_passed (score_tests power transfer capacity frequency reference) refl e in
      let q = and_both (is_power power.0) (is_frequency frequency.0) p.1.1.1.0 in
      record { capacity = p.0; reference = p.1.0; transfer = p.1.1.0; power = q.0; frequency = q.1 }

  pub fit_second : SecondFits power transfer capacity frequency reference → second_refusal power transfer capacity frequency reference ≡ 0
  unfolding second_refusal
  fit_second f = rw (f.capacity, f.reference, f.transfer, f.power, f.frequency)

  -- a second that is let through, and one that is refused
  pub second_granted : second_refusal power transfer capacity frequency reference ≡ 0
      → second_score power transfer capacity frequency reference ≡ record { refusal = 0; score = judged_by power transfer capacity frequency reference }
  unfolding second_score
  second_granted e = rw (eq-eqb _ 0 e)

  pub second_refusal_lem : (second_score power transfer capacity frequency reference).refusal ≡ second_refusal power transfer capacity frequency reference
  unfolding second_score
  second_refusal_lem =
      let k = second_refusal power transfer capacity frequency reference in
      by_test (eqb k 0)
      (λ (t : eqb k 0 ≡ true). rw t (sym (eqb-true k 0 t)))
      (λ (t : eqb k 0 ≡ false). rw t)

  pub score_is : (second_score power transfer capacity frequency reference).refusal ≡ 0
      → (second_score power transfer capacity frequency reference).score
      ≡ score_of (percent_output power.0 transfer.0 capacity.0) (upper_by reference.0 frequency.0) (lower_by reference.0 frequency.0)
  unfolding judged_by
  score_is e = ap (λ (s : Scored). s.score) (second_granted (sym second_refusal_lem ∙ e))

  pub score_within : (second_score power transfer capacity frequency reference).score ≤ most_score
  unfolding second_score judged_by
  score_within =
      let k = second_refusal power transfer capacity frequency reference in
      by_test (eqb k 0)
      (λ (t : eqb k 0 ≡ true). rw t (score_most (percent_output power.0 transfer.0 capacity.0) (upper_by reference.0 frequency.0) (lower_by reference.0 frequency.0)))
      (λ (t : eqb k 0 ≡ false). rw t (omega arith))
