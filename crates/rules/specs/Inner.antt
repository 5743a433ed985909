-- What only mirrors the code: how many fields an answer has, and at most four of them in an array of twelve.
use Rattle.std.specs.Prelude.{ℕ, ◌∷◌, ℤ, pos, replicate}
use Rattle.words.specs.declared.Few.{Few}
use Rattle.words.specs.declared.Rule.{Rule}
use Rattle.words.specs.declared.Rule.TheVariants.{Kilowatts, Curve, Score, Rate, Reached, Bands, Factor, Fee, Quality, Energy, Loss, Pair}

-- how many fields its answer has
abbrev pub field_count : Rule → ℕ
field_count Kilowatts = 1
field_count Curve = 2
field_count Score = 1
field_count Rate = 1
field_count Reached = 4
field_count Bands = 0
field_count Factor = 1
field_count Fee = 1
field_count Quality = 1
field_count Energy = 1
field_count Loss = 3
field_count Pair = 2

-- at most four of them as the code holds them
abbrev pub few : ℕ → ℕ → ℤ → ℤ → ℤ → ℤ → Few
few refusal count a b c d = record { refusal = refusal; count = count; values = a ∷ b ∷ c ∷ d ∷ replicate 8 (pos 0) }
