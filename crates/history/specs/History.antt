-- A ledger's history: the calls, newest first, with the number that each was answered. Everything here is told from the history alone.
use Rattle.std.specs.Prelude.{ℕ, suc, ◌≡◌, Bool, true, false, ◌&&◌, leb, eqb, ℤ, pos, ◌-ℤ◌}
use mathlib.Core.List.{List, [], ◌∷◌, foldl}
use Rattle.std.proofs.Math.Option.{Option, none, some}
use Rattle.whole.specs.Choice.{pick, unless, in_order, kept}
use Rattle.whole.specs.Folds.{sum_to, add_to, count_to}
use Rattle.units.specs.Refusals.{not_in_month}
use Rattle.history.specs.Rules.{Call, post, replace, withdraw, loss_fee, close, Rules, hour_tests, inside, ruling}
use Rattle.history.specs.Board.{told}

-- a call and its answer: 0, or the number of its refusal
pub record Recorded (F A : Type 0) : Type 0 where
  pub call : Call F A
  pub answer : ℕ

abbrev pub stands : {A : Type 0} → Option A → Bool
stands none = false
stands (some a) = true

-- what stands, read as an amount; nothing is 0
abbrev pub read_as : {A : Type 0} → (A → ℤ) → Option A → ℤ
read_as value none = pos 0
read_as value (some a) = value a

module _ {F A : Type 0} where
  abbrev pub closed_after : Call F A → Bool → Bool
  closed_after (post d x a) old = old
  closed_after (replace d x a) old = old
  closed_after (withdraw d x) old = old
  closed_after (loss_fee f z) old = old
  closed_after close old = true

  -- whether a close was accepted
  unfoldable pub is_closed : List (Recorded F A) → Bool
  is_closed [] = false
  is_closed (e ∷ h) = kept e.answer (closed_after e.call (is_closed h)) (is_closed h)

module _ {F M B : Type 0} (R : Rules F M B) where
  -- what a call that was accepted leaves at an hour where `old` stood
  abbrev pub leaves : Call F (M × B) → ℕ → ℕ → Option (M × B) → Option (M × B)
  leaves (post d x a) day hour old = pick (eqb d day && eqb x hour) (some (R.enter a)) old
  leaves (replace d x a) day hour old = pick (eqb d day && eqb x hour) (some (R.enter a)) old
  leaves (withdraw d x) day hour old = pick (eqb d day && eqb x hour) none old
  leaves (loss_fee f z) day hour old = old
  leaves close day hour old = old

  -- what stands at an hour: the item last accepted for it and not withdrawn since
  unfoldable pub last_item : List (Recorded F (M × B)) → ℕ → ℕ → Option (M × B)
  last_item [] day hour = none
  last_item (e ∷ h) day hour = kept e.answer (leaves e.call day hour (last_item h day hour)) (last_item h day hour)

  abbrev pub fee_after : Call F (M × B) → F → ℤ → ℤ
  fee_after (post d x a) fee old = old
  fee_after (replace d x a) fee old = old
  fee_after (withdraw d x) fee old = old
  fee_after (loss_fee f z) fee old = pick (R.same_fee f fee) z old
  fee_after close fee old = old

  -- each fee's last accepted amount, or zero if there was none
  unfoldable pub last_fee : List (Recorded F (M × B)) → F → ℤ
  last_fee [] fee = pos 0
  last_fee (e ∷ h) fee = kept e.answer (fee_after e.call fee (last_fee h fee)) (last_fee h fee)

  -- what document 01 answers to a call after a history: 0 lets it be
  abbrev pub ruling_after : List (Recorded F (M × B)) → Call F (M × B) → ℕ
  ruling_after h c = ruling R (is_closed h) (λ d x. stands (last_item h d x)) c

  -- every call was answered so
  abbrev pub Ruled : List (Recorded F (M × B)) → Type 0
  Ruled [] = Unit {0}
  Ruled (e ∷ h) = (e.answer ≡ ruling_after h e.call) × Ruled h

  -- ---- what the read-outs tell after a history

  -- one hour: 6, 8
  abbrev pub hour_is : List (Recorded F (M × B)) → ℕ → ℕ → ℕ × ℤ
  hour_is h day hour =
      told (in_order (hour_tests (inside R day hour) (stands (last_item h day hour)))) (read_as R.worth (last_item h day hour))

  -- the sum over a day's hours, and over the days, of what stands there, read as any amount
  abbrev pub day_sum : (M × B → ℤ) → List (Recorded F (M × B)) → ℕ → ℤ
  day_sum value h day = sum_to (R.hours_of day) (λ x. read_as value (last_item h day x))

  abbrev pub month_sum : (M × B → ℤ) → List (Recorded F (M × B)) → ℤ
  month_sum value h = sum_to R.days (λ k. day_sum value h (suc k))

  -- a day's sum: 6
  abbrev pub day_is : List (Recorded F (M × B)) → ℕ → ℕ × ℤ
  day_is h day = told (unless (leb 1 day && leb day R.days) not_in_month 0) (day_sum R.worth h day)

  -- a part's sum: the part's own number
  abbrev pub part_is : List (Recorded F (M × B)) → ℕ → ℕ × ℤ
  part_is h q = told (R.check_part q) (month_sum (R.part q) h)

  -- the month total before the loss fees, and less each of them
  abbrev pub earned_is : List (Recorded F (M × B)) → ℤ
  earned_is h = month_sum R.worth h

  abbrev pub total_is : List (Recorded F (M × B)) → ℤ
  total_is h = foldl (λ z f. z -ℤ last_fee h f) (earned_is h) R.fees

  -- the number of standing hours
  abbrev pub standing_is : List (Recorded F (M × B)) → ℕ
  standing_is h = add_to R.days (λ k. count_to (R.hours_of (suc k)) (λ x. stands (last_item h (suc k) x)))
