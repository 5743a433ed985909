-- A ledger as it is kept: two columns with an item for each place, its mark and what goes with it, the loss fees, and whether it is closed. What a call answers and hands on, what is
-- well formed, and what the read-outs tell, by any rules R.
use Rattle.std.specs.Prelude.{ℕ, zero, suc, Bool, true, false, ◌&&◌, leb, ltb, eqb, ℤ, pos, ◌-ℤ◌, get_or, set, replicate}
use mathlib.Core.List.{List, [], ◌∷◌, foldl}
use Rattle.whole.specs.Choice.{pick, unless, in_order, kept}
use Rattle.whole.specs.Folds.{sum_to, count_to, all_to}
use Rattle.units.specs.Refusals.{not_reachable, not_in_month}
use Rattle.history.specs.Rules.{Call, post, replace, withdraw, loss_fee, close, posts, replaces, withdraws, Rules, hour_tests, inside, place_in, places_of, left, ruling}

pub record Board (F M B : Type 0) : Type 0 where
  pub closed : Bool
  pub fee : F → ℤ
  pub marks : List M
  pub amounts : List B

-- what a read-out tells: a refusal has the amount 0
abbrev pub told : ℕ → ℤ → ℕ × ℤ
told k amount = (k, kept k amount (pos 0))

module _ {F M B : Type 0} (R : Rules F M B) where
  abbrev pub item_at : Board F M B → ℕ → M × B
  item_at b p = (get_or b.marks p R.blank.0, get_or b.amounts p R.blank.1)

  -- whether a place is filled
  abbrev pub mark_at : Board F M B → ℕ → Bool
  mark_at b p = R.filled (item_at b p).0

  -- every place empty, no fee, open
  unfoldable pub fresh : Board F M B
  fresh = record { closed = false; fee = λ _. pos 0; marks = replicate R.places R.blank.0; amounts = replicate R.places R.blank.1 }

  -- a filled place is one of the month's and holds what may stand; an empty one holds the blank
  abbrev pub fits_at : Board F M B → ℕ → Bool
  fits_at b p = pick (mark_at b p) (ltb p (places_of R) && R.fits (item_at b p)) (R.is_blank (item_at b p))

  -- whether a month by these rules opens, and each fee is in its range
  abbrev pub fees_fit : Board F M B → Bool
  fees_fit b = foldl (λ t f. t && eqb (R.check_fee f (b.fee f)) 0) R.opens R.fees

  -- what some run of calls from a fresh month hands back: proofs/Reach.antt shows that it is just this, of a board that has a mark and an item for each place
  unfoldable pub well_formed : Board F M B → Bool
  well_formed b = fees_fit b && all_to R.places (fits_at b)

  abbrev pub filled_at : Board F M B → ℕ → ℕ → Bool
  filled_at b day hour = mark_at b (place_in R day hour)

  -- ---- the calls

  -- what a call answers, 22 left aside
  unfoldable pub ruling_on : Board F M B → Call F (M × B) → ℕ
  ruling_on b c = ruling R b.closed (filled_at b) c

  abbrev pub placed : Board F M B → ℕ → M × B → Board F M B
  placed b p a = record { closed = b.closed; fee = b.fee; marks = set b.marks p a.0; amounts = set b.amounts p a.1 }

  -- what a call that is let through leaves
  unfoldable pub next_on : Board F M B → Call F (M × B) → Board F M B
  next_on b (post d x a) = placed b (place_in R d x) (left R (posts a))
  next_on b (replace d x a) = placed b (place_in R d x) (left R (replaces a))
  next_on b (withdraw d x) = placed b (place_in R d x) (left R withdraws)
  next_on b (loss_fee f z) = record { closed = b.closed; fee = λ g. pick (R.same_fee f g) z (b.fee g); marks = b.marks; amounts = b.amounts }
  next_on b close = record { closed = true; fee = b.fee; marks = b.marks; amounts = b.amounts }

  -- what a call hands on: a refusal leaves the board as it was
  unfoldable pub handed : Board F M B → Call F (M × B) → Board F M B
  handed b c = kept (ruling_on b c) (next_on b c) b

  -- ---- the read-outs, 22 left aside

  -- one hour, by whether it is inside the month and its place filled: 6, 8
  unfoldable pub hour_on : Board F M B → ℕ → ℕ → ℕ × ℤ
  hour_on b day hour =
      told (in_order (hour_tests (inside R day hour) (filled_at b day hour))) (R.worth (item_at b (place_in R day hour)))

  -- a day's sum: 6
  unfoldable pub day_on : Board F M B → ℕ → ℕ × ℤ
  day_on b day =
      told (unless (leb 1 day && leb day R.days) not_in_month 0) (sum_to (R.hours_of day) (λ x. R.worth (item_at b (place_in R day x))))

  -- the sum of what each item is read as
  abbrev pub sum_on : (M × B → ℤ) → Board F M B → ℤ
  sum_on value b = sum_to R.places (λ p. value (item_at b p))

  -- a part's sum: the part's own number
  unfoldable pub part_on : Board F M B → ℕ → ℕ × ℤ
  part_on b q = told (R.check_part q) (sum_on (R.part q) b)

  -- the month total: the amounts less each loss fee
  unfoldable pub total_on : Board F M B → ℤ
  total_on b = foldl (λ z f. z -ℤ b.fee f) (sum_on R.worth b) R.fees

  -- the number of standing hours
  unfoldable pub standing_on : Board F M B → ℕ
  standing_on b = count_to R.places (mark_at b)

  -- ---- 22 first: a ledger that no run of calls hands back

  unfoldable pub refusal_of : Board F M B → Call F (M × B) → ℕ
  refusal_of b c = unless (well_formed b) not_reachable (ruling_on b c)

  -- a refused ledger is handed back as it was
  unfoldable pub next_of : Board F M B → Call F (M × B) → Board F M B
  next_of b c = pick (well_formed b) (handed b c) b

  -- a read-out's answer; a refusal has nothing beside it
  abbrev pub or_reachable : {X : Type 0} → X → Board F M B → ℕ × X → ℕ × X
  or_reachable nothing b t = pick (well_formed b) t (not_reachable, nothing)

  -- ---- a board as posts: its standing hours in order of day and hour, newest first (#111)

  unfoldable pub posts_of_day : Board F M B → ℕ → ℕ → List (Call F (M × B)) → List (Call F (M × B))
  posts_of_day b day zero before = before
  posts_of_day b day (suc x) before =
      let earlier = posts_of_day b day x before in
      pick (filled_at b day x) (post day x (item_at b (place_in R day x)) ∷ earlier) earlier

  unfoldable pub posts_to : Board F M B → ℕ → List (Call F (M × B))
  posts_to b zero = []
  posts_to b (suc k) = posts_of_day b (suc k) (R.hours_of (suc k)) (posts_to b k)
