-- A ramp that falls is one that rises, turned: rounding away from zero keeps the size of a number whose sign is changed. By cases of the sign. Assumes nothing.
use Prim.Native.Nat.{ℕ, zero, suc}
use mathlib.Core.Path.{◌≡◌, refl, sym, ap, ◌∙◌}
use native.Mathlib.Nat.{zero-mul}
use lib.IntN.{ℤ, pos, negsuc, neg_ℤ, neg_ℤ-neg_ℤ, ◌+ℤ◌, ◌-ℤ◌, ◌*ℤ◌}
use Rattle.whole.specs.Whole.{away, with_sign, round_up}
use Rattle.whole.proofs.Signed.{signed, difference, opposite}
use Rattle.units.specs.Limits.{seconds_of_ramp}

away_turned : (x : ℤ) → away (neg_ℤ x) seconds_of_ramp ≡ neg_ℤ (away x seconds_of_ramp)
unfolding away round_up with_sign
away_turned (pos zero) = refl
away_turned (pos (suc n)) = refl
away_turned (negsuc n) = sym (neg_ℤ-neg_ℤ _)

times_turned : (x : ℤ) (n : ℕ) → neg_ℤ x *ℤ pos n ≡ neg_ℤ (x *ℤ pos n)
times_turned (pos zero) n = ap pos (zero-mul n) ∙ sym (ap (λ k. neg_ℤ (pos k)) (zero-mul n))
times_turned (pos (suc m)) n = refl
times_turned (negsuc m) n = sym (neg_ℤ-neg_ℤ _)

pub falling : (last target : ℤ) (n : ℕ) → last -ℤ away ((last -ℤ target) *ℤ pos n) seconds_of_ramp ≡ last +ℤ away ((target -ℤ last) *ℤ pos n) seconds_of_ramp
falling last target n =
    let d : last -ℤ target ≡ neg_ℤ (target -ℤ last) = omega (signed, difference last target, difference target last, opposite (target -ℤ last)) in
    let way = (target -ℤ last) *ℤ pos n in
    let a = ap (λ z. away (z *ℤ pos n) seconds_of_ramp) d ∙ ap (λ z. away z seconds_of_ramp) (times_turned (target -ℤ last) n) ∙ away_turned way in
    ap (λ z. last -ℤ z) a ∙ ap (λ z. last +ℤ z) (neg_ℤ-neg_ℤ (away way seconds_of_ramp))
