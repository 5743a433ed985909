-- Document 01, "a list of 1 to 16 records": the same rule on records, by their thresholds and their factors.
use Rattle.std.specs.Prelude.{ℕ, List, map, Result, ℤ}
use Rattle.records.specs.declared.Band.{Band}
use Rattle.units.specs.declared.refusal.Refusal.{Refusal}
use Rattle.bands.specs.Bands.{bands_refusal, factor_answer}

abbrev pub thresholds_of : List Band → List ℤ
thresholds_of = map (λ (b : Band). b.threshold)

abbrev pub factors_of : List Band → List ℤ
factors_of = map (λ (b : Band). b.factor)

unfoldable pub records_refusal : List Band → ℕ
records_refusal bands = bands_refusal (thresholds_of bands) (factors_of bands)

unfoldable pub records_answer : List Band → ℕ → Result ℤ Refusal
records_answer bands rate = factor_answer (thresholds_of bands) (factors_of bands) rate
