-- Document 01's figures marked P: one theorem over one list, by computing each. Assumes nothing.
use Prim.Native.Nat.{ℕ}
use mathlib.Core.Path.{◌≡◌, refl}
use mathlib.Core.List.{List, [], ◌∷◌}
use native.Mathlib.Omega.{arith}
use Rattle.whole.specs.Folds.{fold_to}
use Rattle.whole.specs.Whole.{in_range, all_in_range, apart, with_sign, half_up, round_up, nearest, away}
use Rattle.curve.specs.Curve.{upper_at, lower_at}
use Rattle.ramp.specs.Ramp.{ramp_at}
use Rattle.score.specs.Score.{score_of}
use Rattle.rate.specs.Rolling.{rolling}
use Rattle.bands.specs.Bands.{fall, bands_fit, bands_refusal, first_place, factor_refusal, factor_answer}
use Rattle.fees.specs.Fees.{quality_part, signed_price, quarter_part, energy_fee}
use Rattle.loss.specs.Loss.{at_least_zero, percent, basic_fee, excess_fee}
use Rattle.figures.specs.Figures.{side, figures, Agree}

figures_agree : Agree figures
unfolding figures fold_to in_range all_in_range apart with_sign half_up round_up nearest away upper_at lower_at ramp_at score_of rolling fall bands_fit bands_refusal first_place factor_refusal factor_answer quality_part signed_price quarter_part energy_fee at_least_zero percent basic_fee excess_fee
figures_agree = (
  refl,
  (
    refl,
    (
      refl,
      (
        refl,
        (
          refl,
          (
            refl,
            (
              refl,
              (
                refl,
                (
                  refl,
                  (
                    refl,
                    (
                      refl,
                      (
                        refl,
                        (
                          refl,
                          (
                            refl,
                            (
                              refl,
                              (
                                refl,
                                (
                                  refl,
                                  (
                                    refl,
                                    (
                                      refl,
                                      (
                                        refl,
                                        (
                                          refl,
                                          (
                                            refl,
                                            (
                                              refl,
                                              (refl, (refl, (refl, (refl, (refl, (refl, (refl, (refl, (refl, (refl, (refl, tt))))))))))),
                                            ),
                                          ),
                                        ),
                                      ),
                                    ),
                                  ),
                                ),
                              ),
                            ),
                          ),
                        ),
                      ),
                    ),
                  ),
                ),
              ),
            ),
          ),
        ),
      ),
    ),
  ),
)

-- what is computed agrees with what is printed only where it is the same list: a figure that was not computed fails, and so does one that was not printed
side_same : (xs ys : List ℕ) → Agree (side xs ys) → xs ≡ ys
side_same [] [] a = refl
side_same [] (y ∷ ys) a = let z : ◌≡◌ {A = ℕ} 0 1 = cc a.0 in absurd (omega arith)
side_same (x ∷ xs) [] a = let z : ◌≡◌ {A = ℕ} 0 1 = cc a.0 in absurd (omega arith)
side_same (x ∷ xs) (y ∷ ys) a = let e = side_same xs ys a.1 in cc a.0
