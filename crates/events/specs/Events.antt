-- THE EVENTS OF A RUN OF SECONDS (document 02, #103), in the request's sentences over the list of seconds: no state in them. Seconds are told by their places, from 0 on.
use Rattle.std.specs.Prelude.{ℕ, ◌+◌, ◌-◌, ◌≤◌, ◌<◌, ◌≡◌, true, false, List, ℤ, pos, ◌-ℤ◌, length, get_or}
use Rattle.units.specs.Limits.{most_score}
use Rattle.sreg.specs.Second.{percent_of, starts, ends}

-- what a second has
abbrev pub at_second : List ℤ → ℕ → ℤ
at_second run i = get_or run i (pos 0)

-- some second after j and before i is at or above 59.98 Hz
pub record Returned (frequencies : List ℤ) (j i : ℕ) : Type 0 where
  pub second : ℕ
  pub after : j < second
  pub before : second < i
  pub reaches : ends (at_second frequencies second) ≡ true

-- "An event starts in the second the frequency is at or below 59.88 Hz", where none is going on: each second before it that fell so low was followed by one at or above 59.98 Hz
pub record StartsEvent (frequencies : List ℤ) (a : ℕ) : Type 0 where
  pub falls : starts (at_second frequencies a) ≡ true
  pub none : (j : ℕ) → j < a → starts (at_second frequencies j) ≡ true → Returned frequencies j a

-- "until the second at or above 59.98 Hz, that one included": no second after a and before i is
abbrev pub GoesOn : List ℤ → ℕ → ℕ → Type 0
GoesOn frequencies a i = (j : ℕ) → a < j → j < i → ends (at_second frequencies j) ≡ false

-- the event that starts in second a ends in second b, the first after a at or above 59.98 Hz
pub record EndsIn (frequencies : List ℤ) (a b : ℕ) : Type 0 where
  pub later : a < b
  pub goes_on : GoesOn frequencies a b
  pub reaches : ends (at_second frequencies b) ≡ true

-- outside events and the ten seconds after them: this second does not fall, and each that fell before it was followed, more than ten seconds ago, by one at or above 59.98 Hz
pub record OutsideEvents (frequencies : List ℤ) (i : ℕ) : Type 0 where
  pub steady : starts (at_second frequencies i) ≡ false
  pub over : (j : ℕ) → j < i → starts (at_second frequencies j) ≡ true → Returned frequencies j (i - 10)

-- A SECOND AND ITS SCORE
pub data ScoreTold (powers frequencies : List ℤ) (capacity : ℤ) (i : ℕ) : ℕ → Type 0 where
  -- "That second and the nine after it score 100"
  first_ten : (a : ℕ) → StartsEvent frequencies a → a ≤ i → i < a + 10 → ScoreTold powers frequencies capacity i most_score
  -- "From then until the second at or above 59.98 Hz, that one included, the score is the start second's power less this second's, as a percent of capacity"
  judged : (a : ℕ) → StartsEvent frequencies a → a + 10 ≤ i → GoesOn frequencies a i → ScoreTold powers frequencies capacity i (percent_of (at_second powers a -ℤ at_second powers i) capacity)
  -- "The ten seconds after it score 100"
  ten_after : (a b : ℕ) → StartsEvent frequencies a → EndsIn frequencies a b → b < i → i ≤ b + 10 → ScoreTold powers frequencies capacity i most_score
  -- "Outside events the score is this second's power as a percent"
  outside : OutsideEvents frequencies i → ScoreTold powers frequencies capacity i (percent_of (at_second powers i) capacity)

-- THE SENTENCES, of a run and its scores: each second is told by one of them, and whatever one of them tells of a second is its score
pub record Sentences (powers frequencies : List ℤ) (capacity : ℤ) (scores : List ℕ) : Type 0 where
  pub every : (i : ℕ) → i < length powers → ScoreTold powers frequencies capacity i (get_or scores i 0)
  pub only : (i x : ℕ) → i < length powers → ScoreTold powers frequencies capacity i x → get_or scores i 0 ≡ x
