-- A ledger in place, as the code keeps it, and no rule of the papers: the board stands on two lent runs, which may be any. 1 where a run is not as long as the
-- ledger's places, then 22, then what the board answers; a refusal leaves the board as it was.
use Rattle.std.specs.Prelude.{ℕ, ◌≡◌, Bool, true, ◌&&◌, List, [], ◌∷◌, ◌++◌, eqb, ltb, ℤ, length}
use Rattle.whole.specs.Choice.{in_order, kept}
use Rattle.units.specs.Refusals.{wrong_length, not_reachable, not_in_month}
use Rattle.history.specs.Rules.{Call, Deed, Rules, inside, place_in, places_of, hour_tests, left, place_tests, call_tests}
use Rattle.history.specs.Board.{Board, told, item_at, mark_at, filled_at, fresh, fees_fit, well_formed, placed, next_on, total_on}

module _ {F M B : Type 0} (R : Rules F M B) where
  abbrev pub runs_fit : Board F M B → Bool
  runs_fit b = eqb (length b.marks) R.places && eqb (length b.amounts) R.places

  -- opening: 1, 6; and what it leaves, every place empty, or the board as it was
  abbrev pub open_tests : Board F M B → List (Bool × ℕ)
  open_tests b = (runs_fit b, wrong_length) ∷ (R.opens, not_in_month) ∷ []

  unfoldable pub open_ruling : Board F M B → ℕ
  open_ruling b = in_order (open_tests b)

  unfoldable pub open_left : Board F M B → Board F M B
  open_left b = kept (open_ruling b) (fresh R) b

  -- whether it is one that runs of calls hand back: 1, 22
  unfoldable pub ledger_refusal : Board F M B → ℕ
  ledger_refusal b = in_order ((runs_fit b, wrong_length) ∷ (well_formed R b, not_reachable) ∷ [])

  -- a single call looks at no place but its own: of 22 it tests what stands beside the places
  abbrev pub lent_tests : Board F M B → List (Bool × ℕ)
  lent_tests b = (runs_fit b, wrong_length) ∷ (fees_fit R b, not_reachable) ∷ []

  -- what a call at a place answers and leaves; any number may be given for a place, and it is inside the month where one of its hours has it
  unfoldable pub ruled_at : Board F M B → ℕ → Deed (M × B) → ℕ
  ruled_at b p deed = in_order (lent_tests b ++ place_tests R b.closed (ltb p (places_of R)) (mark_at R b p) deed)

  unfoldable pub handed_at : Board F M B → ℕ → Deed (M × B) → Board F M B
  handed_at b p deed = kept (ruled_at b p deed) (placed R b p (left R deed)) b

  -- any call; of one by its day and hour it is what a call at their place comes to
  unfoldable pub ruled_in : Board F M B → Call F (M × B) → ℕ
  ruled_in b c = in_order (lent_tests b ++ call_tests R b.closed (filled_at R b) c)

  unfoldable pub handed_in : Board F M B → Call F (M × B) → Board F M B
  handed_in b c = kept (ruled_in b c) (next_on R b c) b

  -- one hour: 1, 22, 6, 8
  unfoldable pub hour_in : Board F M B → ℕ → ℕ × ℤ
  hour_in b p = told (in_order (lent_tests b ++ hour_tests (ltb p (places_of R)) (mark_at R b p))) (R.worth (item_at R b p))

  -- the month total: 1, 22
  unfoldable pub total_in : Board F M B → ℕ × ℤ
  total_in b = told (ledger_refusal b) (total_on R b)

-- a number that stands for an hour: the hour's place, or, where the hour is outside a month that opens, none of the month's places
pub record PlaceFor {F M B : Type 0} (R : Rules F M B) (d x p : ℕ) : Type 0 where
  pub within : R.opens ≡ true → ltb p (places_of R) ≡ inside R d x
  pub here : inside R d x ≡ true → p ≡ place_in R d x
