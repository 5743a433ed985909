-- What the papers fix of a ledger (document 01, "The ledger"): its calls, its days and hours, what may stand at an hour, and the order in which
-- a call is refused. What stands at an hour is an item: a mark M and what goes with it, B. F is which of the loss fees is meant.
use Rattle.std.specs.Prelude.{ℕ, zero, suc, ◌+◌, ◌-◌, ◌≤◌, ◌<◌, ◌≡◌, Bool, true, false, not, ◌&&◌, ◌||◌, List, [], ◌∷◌, leb, ltb, eqb, ℤ, pos}
use Rattle.whole.specs.Choice.{in_order}
use Rattle.whole.specs.Folds.{sum_to}
use Rattle.units.specs.Refusals.{month_closed, not_in_month, place_filled, place_empty}

-- the calls that change a ledger: a day, an hour, and what is to stand there; a fee, and its amount
pub data Call (F A : Type 0) : Type 0 where
  post replace : ℕ → ℕ → A → Call F A
  withdraw : ℕ → ℕ → Call F A
  loss_fee : F → ℤ → Call F A
  close : Call F A

-- what a call does at its hour: puts an item where none stands, puts another, or empties it
pub data Deed (A : Type 0) : Type 0 where
  posts replaces : A → Deed A
  withdraws : Deed A

pub record Rules (F M B : Type 0) : Type 0 where
  -- whether a month by these rules opens
  pub opens : Bool
  -- the number of days, and of each day's hours
  pub days : ℕ
  pub hours_of : ℕ → ℕ
  -- the number of places that are kept, and what an empty one holds; and by which marks a place is filled
  pub places : ℕ
  pub blank : M × B
  pub is_blank : M × B → Bool
  pub filled : M → Bool
  -- the number that turns an item away, 0 for none; what an item becomes on entering; and what a filled place may hold
  pub check : M × B → ℕ
  pub enter : M × B → M × B
  pub fits : M × B → Bool
  -- what an item is worth, in dollars
  pub worth : M × B → ℤ
  -- the fees, each once; whether two are the same; and the number that turns a fee away, 0 for none
  pub fees : List F
  pub same_fee : F → F → Bool
  pub check_fee : F → ℤ → ℕ
  -- the parts, 1 to `parts`, that the items are summed by; the number that turns an asked part away, 0 for none; and what an item adds to a part
  pub parts : ℕ
  pub check_part : ℕ → ℕ
  pub part : ℕ → M × B → ℤ

-- the hours of days 1 to k: what comes before day k + 1
unfoldable pub hours_to : (ℕ → ℕ) → ℕ → ℕ
hours_to hours_of zero = 0
hours_to hours_of (suc k) = hours_to hours_of k + hours_of (suc k)

-- whether a fee is one of a list's
abbrev pub is_among : {F : Type 0} → (F → F → Bool) → List F → F → Bool
is_among same [] f = false
is_among same (g ∷ gs) f = same g f || is_among same gs f

-- a number that refuses by itself, 0 for none, among the tests of an order
abbrev pub own : ℕ → Bool × ℕ
own k = (eqb k 0, k)

-- the read-out of an hour, inside the month or not and filled or not: 6, 8
abbrev pub hour_tests : Bool → Bool → List (Bool × ℕ)
hour_tests within filled = (within, not_in_month) ∷ (filled, place_empty) ∷ []

module _ {F M B : Type 0} (R : Rules F M B) where
  -- days from 1, hours from 0
  abbrev pub inside : ℕ → ℕ → Bool
  inside day hour = leb 1 day && leb day R.days && ltb hour (R.hours_of day)

  -- an hour's place: the hours before its day, and itself
  abbrev pub place_in : ℕ → ℕ → ℕ
  place_in day hour = hours_to R.hours_of (day - 1) + hour

  -- the places of the month's own days; the others are never used
  abbrev pub places_of : ℕ
  places_of = hours_to R.hours_of R.days

  -- what a deed leaves at its place
  abbrev pub left : Deed (M × B) → M × B
  left (posts a) = R.enter a
  left (replaces a) = R.enter a
  left withdraws = R.blank

  -- the item's own number (3), then 7 or 8 by whether the place is filled
  abbrev pub deed_tests : Bool → Deed (M × B) → List (Bool × ℕ)
  deed_tests filled (posts a) = own (R.check a) ∷ (not filled, place_filled) ∷ []
  deed_tests filled (replaces a) = own (R.check a) ∷ (filled, place_empty) ∷ []
  deed_tests filled withdraws = (filled, place_empty) ∷ []

  -- the order of refusals at an hour, where the month is closed or not, the hour inside it or not and filled or not: 9, 6, the item's own number (3),
  -- then 7 or 8
  abbrev pub place_tests : Bool → Bool → Bool → Deed (M × B) → List (Bool × ℕ)
  place_tests closed within filled deed = (not closed, month_closed) ∷ (within, not_in_month) ∷ deed_tests filled deed

  -- of any call; a fee has its own number (3)
  abbrev pub call_tests : Bool → (ℕ → ℕ → Bool) → Call F (M × B) → List (Bool × ℕ)
  call_tests closed filled (post d x a) = place_tests closed (inside d x) (filled d x) (posts a)
  call_tests closed filled (replace d x a) = place_tests closed (inside d x) (filled d x) (replaces a)
  call_tests closed filled (withdraw d x) = place_tests closed (inside d x) (filled d x) withdraws
  call_tests closed filled (loss_fee f z) = (not closed, month_closed) ∷ own (R.check_fee f z) ∷ []
  call_tests closed filled close = (not closed, month_closed) ∷ []

  -- what a call is answered: 0 lets it through
  abbrev pub ruling : Bool → (ℕ → ℕ → Bool) → Call F (M × B) → ℕ
  ruling closed filled c = in_order (call_tests closed filled c)

-- rules by which a month opens and can be kept
pub record Sound {F M B : Type 0} (R : Rules F M B) : Type 0 where
  pub opens : R.opens ≡ true
  -- its hours have places
  pub room : places_of R ≤ R.places
  -- just the blank is blank, and fills no place
  pub empty : R.filled R.blank.0 ≡ false
  pub is_blank_lem : R.is_blank R.blank ≡ true
  pub blank_is : (a : M × B) → R.filled a.0 ≡ false → R.is_blank a ≡ true → a ≡ R.blank
  -- what is let in fills its place and may stand there, and what may stand is let in as it is
  pub enters : (a : M × B) → R.check a ≡ 0 → (R.filled (R.enter a).0 ≡ true) × (R.fits (R.enter a) ≡ true)
  pub stays : (a : M × B) → R.filled a.0 ≡ true → R.fits a ≡ true → (R.check a ≡ 0) × (R.enter a ≡ a)
  -- no fee is a fee, and the list has every fee
  pub no_fee_lem : (f : F) → R.check_fee f (pos 0) ≡ 0
  pub same_is : (f g : F) → R.same_fee f g ≡ true → f ≡ g
  pub every_fee : (f : F) → is_among R.same_fee R.fees f ≡ true
  -- the blank is worth nothing; an item's worth is what it adds to the parts, each of which may be asked for
  pub no_worth : R.worth R.blank ≡ pos 0
  pub no_part : (q : ℕ) → R.part q R.blank ≡ pos 0
  pub in_parts : (a : M × B) → R.filled a.0 ≡ true → R.fits a ≡ true → sum_to R.parts (λ k. R.part (suc k) a) ≡ R.worth a
  pub asked : (k : ℕ) → k < R.parts → R.check_part (suc k) ≡ 0
