-- What only mirrors the code: how many pairs its arrays hold, and how many fields an answer has.
use Rattle.std.specs.Prelude.{ℕ, min, ◌/◌, List, [], ◌∷◌, ℤ, pos, get_or}
use Rattle.hour.specs.declared.Settlement.{Settlement}
use Rattle.words.specs.declared.Few.{Few}
use Rattle.words.specs.declared.Hour as words
use Rattle.words.specs.declared.Hour.TheVariants.{Dreg, Edreg, Sreg}

-- all; of more than 100 the first 100, since more than 16 bands are refused whatever they say
unfoldable pub pairs_in : ℕ → ℕ
pairs_in numbers = min (numbers / 2) 100

abbrev pub fields_shown : words.Hour → ℕ
fields_shown Dreg = 7
fields_shown Edreg = 7
fields_shown Sreg = 10

-- the fields of an answer in an array of twelve: those of an hour that answers no state have zeros in its place
abbrev pub in_twelve : words.Hour → Settlement → List ℤ → Few
in_twelve hour h state =
    record {
      refusal = h.refusal;
      count = fields_shown hour;
      values =
          pos h.rate ∷ h.factor ∷ h.capacity.0 ∷ h.performance.0 ∷ h.quality.0 ∷ h.energy.0 ∷ h.amount.0
          ∷ get_or state 0 (pos 0) ∷ get_or state 1 (pos 0) ∷ get_or state 2 (pos 0) ∷ pos 0 ∷ pos 0 ∷ [];
    }
