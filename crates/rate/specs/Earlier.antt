-- What the theorems of #102 (proofs/Earlier.antt) are stated in: an hour's rate by its own scores alone, as document 01 has it ("The windows of seconds 1, 2 and 3 hold only this hour's
-- seconds"); the last three scores of an hour; and what the first windows hold, without earlier scores and with them.
use Rattle.std.specs.Prelude.{ℕ, ◌+◌, ◌-◌, ◌<◌, max, ◌≡◌, List, [], ◌∷◌, eqb, length, drop, get_or}
use Rattle.whole.specs.Choice.{in_order, kept}
use Rattle.units.specs.Refusals.{wrong_length, bad_reading}
use Rattle.units.specs.Limits.{earlier_scores, seconds_of_hour}
use Rattle.rate.specs.Rolling.{smallest, rolling, are_scores, no_rate}
use Rattle.rate.specs.declared.Rated.{Rated}

abbrev pub alone_refusal : List ℕ → ℕ
alone_refusal scores = in_order ((eqb (length scores) seconds_of_hour, wrong_length) ∷ (are_scores scores, bad_reading) ∷ [])

unfoldable pub rate_alone : List ℕ → Rated
rate_alone scores =
    let k = alone_refusal scores in
    kept k (record { refusal = 0; rate = smallest (rolling [] scores) }) (no_rate k)

-- "its last three scores"
abbrev pub last_three : List ℕ → List ℕ
last_three scores = drop (length scores - earlier_scores) scores

-- "0, which leaves the windows short": the rolling rates of an hour that begins with the scores x₁ x₂ x₃, where its windows hold only its own seconds
pub record Windows (x₁ x₂ x₃ : ℕ) (scores : List ℕ) : Type 0 where
  pub second_1 : get_or (rolling [] scores) 0 0 ≡ x₁
  pub second_2 : get_or (rolling [] scores) 1 0 ≡ max x₁ x₂
  pub second_3 : get_or (rolling [] scores) 2 0 ≡ max x₁ (max x₂ x₃)
  pub from_4 : (t : ℕ) → t + 3 < length scores
      → get_or (rolling [] scores) (t + 3) 0 ≡ max (get_or scores (t + 3) 0) (max (get_or scores (t + 2) 0) (max (get_or scores (t + 1) 0) (get_or scores t 0)))

-- "its last three scores now belong to the first three windows": the rolling rates of an hour that begins with the scores x₁ x₂ x₃, after the scores e₁ e₂ e₃; from the fourth second on
-- the windows hold only the hour's own seconds
pub record WindowsAfter (e₁ e₂ e₃ x₁ x₂ x₃ : ℕ) (scores : List ℕ) : Type 0 where
  pub second_1 : get_or (rolling (e₁ ∷ e₂ ∷ e₃ ∷ []) scores) 0 0 ≡ max x₁ (max e₃ (max e₂ e₁))
  pub second_2 : get_or (rolling (e₁ ∷ e₂ ∷ e₃ ∷ []) scores) 1 0 ≡ max x₂ (max x₁ (max e₃ e₂))
  pub second_3 : get_or (rolling (e₁ ∷ e₂ ∷ e₃ ∷ []) scores) 2 0 ≡ max x₃ (max x₂ (max x₁ e₃))
  pub from_4 : (t : ℕ) → t + 3 < length scores
      → get_or (rolling (e₁ ∷ e₂ ∷ e₃ ∷ []) scores) (t + 3) 0 ≡ max (get_or scores (t + 3) 0) (max (get_or scores (t + 2) 0) (max (get_or scores (t + 1) 0) (get_or scores t 0)))
