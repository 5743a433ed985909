-- Document 01, "Quality bands": a list of records as two lists, its thresholds and its factors in tenths.
use Rattle.std.specs.Prelude.{ℕ, suc, ◌+◌, ◌-◌, Bool, ◌&&◌, List, [], ◌∷◌, Result, eqb, leb, ℤ, pos, length, get_or}
use Rattle.std.specs.Int.Signed.{le_z, lt_z}
use Rattle.whole.specs.Choice.{pick, in_order}
use Rattle.whole.specs.Folds.{all_to}
use Rattle.whole.specs.Whole.{in_range, all_in_range}
use Rattle.units.specs.Limits.{most_score, least_factor, most_factor, most_bands}
use Rattle.units.specs.Refusals.{bad_reading, bad_bands, result_by}
use Rattle.units.specs.declared.refusal.Refusal.{Refusal}

-- "Thresholds fall strictly": each is above the next
unfoldable pub fall : List ℤ → Bool
fall thresholds = all_to (length thresholds - 1) (λ i. lt_z (get_or thresholds (i + 1) (pos 0)) (get_or thresholds i (pos 0)))

abbrev pub last_threshold : List ℤ → ℤ
last_threshold thresholds = get_or thresholds (length thresholds - 1) (pos 0)

-- "a list of 1 to 16 records, each a threshold 0 to 100 and a factor in tenths, -240 to 10. Thresholds fall strictly and the last is 0."
unfoldable pub bands_fit : List ℤ → List ℤ → Bool
bands_fit thresholds factors =
    leb 1 (length thresholds)
    && leb (length thresholds) most_bands
    && eqb (length factors) (length thresholds)
    && all_in_range (pos 0) (pos most_score) thresholds
    && all_in_range least_factor most_factor factors
    && fall thresholds
    && in_range (pos 0) (pos 0) (last_threshold thresholds)

-- 5, whatever is wrong
unfoldable pub bands_refusal : List ℤ → List ℤ → ℕ
bands_refusal thresholds factors = in_order ((bands_fit thresholds factors, bad_bands) ∷ [])

-- the place of "the first record whose threshold is at most the rate"; the number of records, if there is none
unfoldable pub first_place : List ℤ → ℤ → ℕ
first_place [] rate = 0
first_place (t ∷ ts) rate = pick (le_z t rate) 0 (suc (first_place ts rate))

-- "Order. .. 5, .. 4"
unfoldable pub factor_refusal : List ℤ → List ℤ → ℕ → ℕ
factor_refusal thresholds factors rate = in_order ((bands_fit thresholds factors, bad_bands) ∷ (leb rate most_score, bad_reading) ∷ [])

unfoldable pub factor_answer : List ℤ → List ℤ → ℕ → Result ℤ Refusal
factor_answer thresholds factors rate = result_by (factor_refusal thresholds factors rate) (get_or factors (first_place thresholds (pos rate)) (pos 0))
