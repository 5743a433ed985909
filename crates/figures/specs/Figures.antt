-- Document 01, "Worked figures": those marked P, in one list. A figure is what the definitions come to beside what the paper prints.
use Rattle.std.specs.Prelude.{ℕ, ◌≡◌, List, [], ◌∷◌, ◌++◌, ℤ, pos, replicate}
use Rattle.whole.specs.Whole.{minus}
use Rattle.units.specs.Limits.{seconds_of_quarter}
use Rattle.curve.specs.Curve.{upper_at, lower_at}
use Rattle.ramp.specs.Ramp.{ramp_at}
use Rattle.score.specs.Score.{score_of}
use Rattle.rate.specs.Rolling.{rolling}
use Rattle.std.specs.Result.{result_unwrap_or}
use Rattle.bands.specs.Bands.{factor_answer}
use Rattle.fees.specs.Fees.{quality_part, energy_fee}
use Rattle.loss.specs.Loss.{basic_fee, excess_fee}

pub record Compared : Type 0 where
  pub computed : ℤ
  pub printed : ℤ

abbrev pub figure : ℤ → ℤ → Compared
figure computed printed = record { computed = computed; printed = printed }

-- list S: 95:10, 94:8, 93:6, 92:4, 91:2, 70:0, 0:-10
abbrev pub thresholds : List ℤ
thresholds = pos 95 ∷ pos 94 ∷ pos 93 ∷ pos 92 ∷ pos 91 ∷ pos 70 ∷ pos 0 ∷ []

abbrev pub factors : List ℤ
factors = pos 10 ∷ pos 8 ∷ pos 6 ∷ pos 4 ∷ pos 2 ∷ pos 0 ∷ minus 10 ∷ []

-- "rate 94, fees 4,350 and 3,500, list S"
abbrev pub quality : ℕ → ℤ → ℤ → ℤ
quality rate capacity performance = quality_part capacity performance (result_unwrap_or (factor_answer thresholds factors rate) (pos 0))

-- "scores 100 90 50 90 90 70 95 100 100 60 100 roll to .."
abbrev pub scores : List ℕ
scores = 100 ∷ 90 ∷ 50 ∷ 90 ∷ 90 ∷ 70 ∷ 95 ∷ 100 ∷ 100 ∷ 60 ∷ 100 ∷ []

abbrev pub rolled : List ℕ
rolled = 100 ∷ 100 ∷ 100 ∷ 100 ∷ 90 ∷ 90 ∷ 95 ∷ 100 ∷ 100 ∷ 100 ∷ 100 ∷ []

-- what is computed beside what is printed; a number that stands alone has -1 beside it, which is no rate, so that it cannot agree
abbrev pub side : List ℕ → List ℕ → List Compared
side [] [] = []
side [] (y ∷ ys) = figure (minus 1) (pos y) ∷ side [] ys
side (x ∷ xs) [] = figure (pos x) (minus 1) ∷ side xs []
side (x ∷ xs) (y ∷ ys) = figure (pos x) (pos y) ∷ side xs ys

-- "means -3.0, -2.9, 0.1, -3.2 MW"
abbrev pub charging : List ℤ
charging = replicate seconds_of_quarter (minus 3000) ++ (replicate seconds_of_quarter (minus 2900) ++ (replicate seconds_of_quarter (pos 100) ++ replicate seconds_of_quarter (minus 3200)))

abbrev pub charging_targets : List ℤ
charging_targets = minus 3000 ∷ minus 3000 ∷ minus 3000 ∷ minus 3000 ∷ []

unfoldable pub figures : List Compared
figures =
    -- curve at 59,900; 59,920; 60,080; 59,980; 59,750
    figure (upper_at (pos 59900)) (pos 38)
    ∷ figure (lower_at (pos 59900)) (pos 32)
    ∷ figure (upper_at (pos 59920)) (pos 31)
    ∷ figure (lower_at (pos 59920)) (pos 22)
    ∷ figure (upper_at (pos 60080)) (minus 22)
    ∷ figure (lower_at (pos 60080)) (minus 31)
    ∷ figure (upper_at (pos 59980)) (pos 9)
    ∷ figure (lower_at (pos 59980)) (minus 9)
    ∷ figure (upper_at (pos 59750)) (pos 100)
    ∷ figure (lower_at (pos 59750)) (pos 100)
    -- output 43 at 59,900; output 35
    ∷ figure (pos (score_of (pos 43) (upper_at (pos 59900)) (lower_at (pos 59900)))) (pos 95)
    ∷ figure (pos (score_of (pos 35) (upper_at (pos 59900)) (lower_at (pos 59900)))) (pos 100)
    -- ramp 0 to 5,000, seconds 1, 3 and 299; 0 to -8,000, second 1; 20,000 to 10,000, second 298
    ∷ figure (ramp_at (pos 0) (pos 5000) 1) (pos 17)
    ∷ figure (ramp_at (pos 0) (pos 5000) 3) (pos 50)
    ∷ figure (ramp_at (pos 0) (pos 5000) 299) (pos 4984)
    ∷ figure (ramp_at (pos 0) (minus 8000) 1) (minus 27)
    ∷ figure (ramp_at (pos 20000) (pos 10000) 298) (pos 10066)
    -- rate 94, fees 4,350 and 3,500; rate 69, fees 4,400 and 3,500
    ∷ figure (quality 94 (pos 4350) (pos 3500)) (pos 6280)
    ∷ figure (quality 69 (pos 4400) (pos 3500)) (minus 7900)
    -- charging at 500 dollars
    ∷ figure (energy_fee charging charging_targets (pos 0) (pos 50000)) (pos 1125)
    -- 120,000 kWh in, 84,000 out, 1.05, 4 dollars; with 96,000 out the excess is 0
    ∷ figure (basic_fee (pos 120000) (pos 84000) (pos 22800) (pos 40000)) (pos 151200)
    ∷ figure (excess_fee (pos 120000) (pos 84000) (pos 22800) (pos 40000)) (pos 100800)
    ∷ figure (excess_fee (pos 120000) (pos 96000) (pos 22800) (pos 40000)) (pos 0)
    -- the eleven rolling rates
    ∷ side (rolling [] scores) rolled

-- every figure is what the paper prints
abbrev pub Agree : List Compared → Type 0
Agree [] = Unit {0}
Agree (f ∷ fs) = (f.computed ≡ f.printed) × Agree fs
