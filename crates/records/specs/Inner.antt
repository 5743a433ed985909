-- What only mirrors the code: two columns of 16 places that records are gathered into, one after the other. More than 16 records leave no more
-- than their being too many.
use Rattle.std.specs.Prelude.{ℕ, ◌+◌, List, [], ◌∷◌, Result, Ok, Err, leb, ltb, ℤ, pos, set, replicate, take}
use Rattle.whole.specs.Choice.{pick}
use Rattle.units.specs.Limits.{most_bands}
use Rattle.units.specs.Refusals.{bad_bands, refused_as}
use Rattle.units.specs.declared.refusal.Refusal.{Refusal}
use Rattle.records.specs.declared.Band.{Band}
use Rattle.records.specs.declared.Columns.{Columns}
use Rattle.bands.specs.Bands.{factor_answer}

unfoldable pub none : Columns
none = record { thresholds = replicate most_bands (pos 0); factors = replicate most_bands (pos 0); count = 0 }

-- with one record more, where there is a place for it
unfoldable pub next : Columns → Band → Columns
next c b =
    pick (ltb c.count most_bands)
    (record { thresholds = set c.thresholds c.count b.threshold; factors = set c.factors c.count b.factor; count = c.count + 1 })
    (record { thresholds = c.thresholds; factors = c.factors; count = most_bands + 1 })

unfoldable pub gathered : Columns → List Band → Columns
gathered c [] = c
gathered c (b ∷ bs) = gathered (next c b) bs

-- the rule on the places that are filled
unfoldable pub gathered_answer : Columns → ℕ → Result ℤ Refusal
gathered_answer c rate =
    pick (leb c.count most_bands) (factor_answer (take c.count c.thresholds) (take c.count c.factors) rate) (refused_as bad_bands)

-- what an answer says of its refusal
abbrev pub passing : Result ℤ Refusal → Result (Unit {0}) Refusal
passing (Ok f) = Ok tt
passing (Err r) = Err r

-- whether bands fit does not go by a rate, so that any rate tells it
unfoldable pub refusal_in : Columns → Result (Unit {0}) Refusal
refusal_in c = passing (gathered_answer c 0)
