-- A board in form: what it is to be, that a fresh one is, that a change at an hour keeps it so, what the change leaves at every hour, and
-- that a fold over the places is the fold over the days' hours. Places are read after a `set`; the rest is by the laws of days. Assumes nothing.
use Prim.Native.Nat.{ℕ, zero, suc, ◌+◌, ◌-◌, ◌<◌, ◌≤◌}
use mathlib.Core.Path.{◌≡◌, refl, sym, ap, ap₂, ◌∙◌, subst⁻¹}
use mathlib.Core.Bool.{Bool, true, false, not, ◌&&◌, ◌||◌}
use mathlib.Core.List.{List, [], ◌∷◌, ◌++◌, foldl}
use mathlib.Core.Option.{Option, none, some}
use native.Mathlib.Omega.{arith}
use lib.Dec.{leb, ltb, eqb}
use lib.IntN.{ℤ, pos}
use lib.ListN.{length, get_or, set, replicate, length-set, length-replicate, get_or-eq_default}
use lib.Seq.{get_or-set_same, get_or-set_other}
use borrow.Author.Tests.{leb-true, le-leb, ltb-true, ltb-false, lt-ltb, le-ltb, eqb-true, eqb-false, eq-eqb}
use Rattle.whole.specs.Choice.{pick, in_order, kept}
use Rattle.whole.specs.Folds.{fold_to}
use Rattle.whole.proofs.Choice.{both, and_both, clash, by_test, passed}
use Rattle.whole.proofs.Folds.{all_at, all_of, fold_same, fold_tail}
use Rattle.units.specs.Refusals.{wrong_length, not_reachable, month_closed, not_in_month}
use Rattle.history.specs.Rules.{Call, Deed, Rules, Sound, hours_to, is_among, inside, place_in, places_of, left, hour_tests, deed_tests, place_tests, call_tests}
use Rattle.history.specs.Board.{Board, told, mark_at, item_at, filled_at, fits_at, fees_fit, well_formed, fresh, placed, ruling_on, next_on, handed}
use Rattle.history.specs.Inner.{runs_fit, ledger_refusal, lent_tests, ruled_at, handed_at, ruled_in, handed_in, hour_in, PlaceFor}
use Rattle.history.specs.History.{read_as}
use Rattle.history.proofs.Days.{place_below, place_same, hour_at, fold_hours}

default_at : {X : Type 0} (n p : ℕ) (x : X) → get_or (replicate n x) p x ≡ x
default_at zero p x = refl
default_at (suc n) zero x = refl
default_at (suc n) (suc p) x = default_at n p x

either_way : (t x y : Bool) → x ≡ true → y ≡ true → pick t x y ≡ true
either_way true x y e f = e
either_way false x y e f = f

-- a test of every fee: what it says of each, and back
module _ {F : Type 0} (t : F → Bool) where
  every_at : (same : F → F → Bool) → ((f g : F) → same f g ≡ true → f ≡ g) → (fs : List F) (ok : Bool) → foldl (λ u f. u && t f) ok fs ≡ true
      → (ok ≡ true) × ((f : F) → is_among same fs f ≡ true → t f ≡ true)
  every_at same is [] ok e = (e, λ f n. clash n)
  every_at same is (g ∷ gs) ok e =
      let r = every_at same is gs (ok && t g) e in
      let q = and_both ok (t g) r.0 in (
        q.0,
        λ f n.
            by_test (same g f)
            (λ (s : same g f ≡ true). ap t (sym (is g f s)) ∙ q.1)
            (λ (s : same g f ≡ false). r.1 f (ap (λ u. u || is_among same gs f) (sym s) ∙ n)),
      )

  every_of : (fs : List F) (ok : Bool) → ok ≡ true → ((f : F) → t f ≡ true) → foldl (λ u f. u && t f) ok fs ≡ true
  every_of [] ok e h = e
  every_of (g ∷ gs) ok e h = every_of gs (ok && t g) (both e (h g)) h

-- ---- what the test of a day and an hour says

pub record HourOf {F M B : Type 0} (R : Rules F M B) (d x : ℕ) : Type 0 where
  pub one : 1 ≤ d
  pub last : d ≤ R.days
  pub short : x < R.hours_of d

pub hour_of : {F M B : Type 0} (R : Rules F M B) (d x : ℕ) → inside R d x ≡ true → HourOf R d x
hour_of R d x i =
    let k = and_both (leb 1 d && leb d R.days) (ltb x (R.hours_of d)) i in
    let j = and_both (leb 1 d) (leb d R.days) k.0 in
    record { one = leb-true 1 d j.0; last = leb-true d R.days j.1; short = ltb-true x (R.hours_of d) k.1 }

pub of_hour : {F M B : Type 0} (R : Rules F M B) (d x : ℕ) → 1 ≤ d → d ≤ R.days → x < R.hours_of d → inside R d x ≡ true
of_hour R d x o l h = both (both (le-leb 1 d o) (le-leb d R.days l)) (lt-ltb x (R.hours_of d) h)

pub below : {F M B : Type 0} (R : Rules F M B) (d x : ℕ) → inside R d x ≡ true → place_in R d x < places_of R
below R d x i = let k = hour_of R d x i in place_below R.hours_of d x R.days k.one k.last k.short

-- ---- a board in form

pub record Good {F M B : Type 0} (R : Rules F M B) (b : Board F M B) : Type 0 where
  pub fee_fits : (f : F) → R.check_fee f (b.fee f) ≡ 0
  pub each : (p : ℕ) → p < R.places → fits_at R b p ≡ true
  pub marks_long : length b.marks ≡ R.places
  pub amounts_long : length b.amounts ≡ R.places

-- what a state's type holds: a mark and an item for each place
pub record Held {F M B : Type 0} (R : Rules F M B) (b : Board F M B) : Type 0 where
  pub marks : length b.marks ≡ R.places
  pub amounts : length b.amounts ≡ R.places

-- fees that fit are those of a month that opens
pub fit_opens : {F M B : Type 0} (R : Rules F M B) (b : Board F M B) → fees_fit R b ≡ true → R.opens ≡ true
fit_opens R b e = (every_at (λ f. eqb (R.check_fee f (b.fee f)) 0) (λ _ _. false) (λ f g e. clash e) R.fees R.opens e).0

-- a month that is in form is one that opens
pub well_opens : {F M B : Type 0} (R : Rules F M B) (b : Board F M B) → well_formed R b ≡ true → R.opens ≡ true
unfolding well_formed
well_opens R b w = fit_opens R b (and_both (fees_fit R b) _ w).0

-- what stands at a place, and at an hour
abbrev pub place_on : {F M B : Type 0} → Rules F M B → Board F M B → ℕ → Option (M × B)
place_on R b p = pick (mark_at R b p) (some (item_at R b p)) none

abbrev pub stands_on : {F M B : Type 0} → Rules F M B → Board F M B → ℕ → ℕ → Option (M × B)
stands_on R b d x = pick (inside R d x) (place_on R b (place_in R d x)) none

-- any reading G of a place, after one place was set
read_set : {M B X : Type 0} (blank : M × B) (G : ℕ → M × B → X) (ms : List M) (xs : List B) (q : ℕ) (a : M × B) (p : ℕ) → q < length ms → q < length xs
    → G p (get_or (set ms q a.0) p blank.0, get_or (set xs q a.1) p blank.1) ≡ pick (eqb p q) (G q a) (G p (get_or ms p blank.0, get_or xs p blank.1))
read_set blank G ms xs q a p lm lx = go (eqb p q) refl
  where
    go : (t : Bool) → eqb p q ≡ t
        → G p (get_or (set ms q a.0) p blank.0, get_or (set xs q a.1) p blank.1) ≡ pick t (G q a) (G p (get_or ms p blank.0, get_or xs p blank.1))
    go true e = rw (eqb-true p q e, get_or-set_same ms q a.0 blank.0 lm, get_or-set_same xs q a.1 blank.1 lx)
    go false e = rw (get_or-set_other ms q p a.0 blank.0 (eqb-false p q e), get_or-set_other xs q p a.1 blank.1 (eqb-false p q e))

fits_set : (m t ok blank : Bool) → t ≡ true → pick m ok blank ≡ true → pick m (t && ok) blank ≡ true
fits_set true t ok blank e h = both e h
fits_set false t ok blank e h = h

empty_if : {A : Type 0} (m t ok blank : Bool) (a : A) → t ≡ false → pick m (t && ok) blank ≡ true → pick m (some a) none ≡ none
empty_if false t ok blank a e h = refl
empty_if true t ok blank a e h = clash (ap (λ u. u && ok) (sym e) ∙ h)

-- ---- a call in place, by its day and hour, is that at the place that they have

-- every place of a month stands for one of its hours
pub record HourHere {F M B : Type 0} (R : Rules F M B) (p : ℕ) : Type 0 where
  pub day : ℕ
  pub hour : ℕ
  pub within : inside R day hour ≡ true
  pub for : PlaceFor R day hour p

pub hour_here : {F M B : Type 0} (R : Rules F M B) (p : ℕ) → p < places_of R → HourHere R p
hour_here R p h =
    let k = hour_at R.hours_of R.days p h in
    let i = of_hour R k.day k.hour k.one k.last k.short in
    record { day = k.day; hour = k.hour; within = i; for = record { within = λ _. lt-ltb p (places_of R) h ∙ sym i; here = λ _. sym k.is } }

-- after a test that fails nothing counts: neither what is tested nor what would be left
abbrev Stopped : {X : Type 0} → (List (Bool × ℕ) → ℕ) → X → Type 0
Stopped {X} k old = (us vs : List (Bool × ℕ)) (x y : X) → (k us ≡ k vs) × (kept (k us) x old ≡ kept (k vs) y old)

unfit : {X : Type 0} (runs : Bool) (old : X) → Stopped (λ us. in_order ((runs, wrong_length) ∷ (false, not_reachable) ∷ us)) old
unfit true old us vs x y = (refl, refl)
unfit false old us vs x y = (refl, refl)

outside : {X : Type 0} (runs fees free : Bool) (old : X)
    → Stopped (λ us. in_order ((runs, wrong_length) ∷ (fees, not_reachable) ∷ (free, month_closed) ∷ (false, not_in_month) ∷ us)) old
outside false fees free old us vs x y = (refl, refl)
outside true false free old us vs x y = (refl, refl)
outside true true false old us vs x y = (refl, refl)
outside true true true old us vs x y = (refl, refl)

module _ {F M B : Type 0} (R : Rules F M B) (b : Board F M B) (d x p : ℕ) (for : PlaceFor R d x p) where
  -- the number and the board, where a place is inside the month or not
  abbrev tests : Deed (M × B) → Bool → ℕ → List (Bool × ℕ)
  tests deed within q = lent_tests R b ++ place_tests R b.closed within (mark_at R b q) deed

  abbrev Same : Deed (M × B) → Bool → ℕ → Bool → ℕ → Type 0
  Same deed v p w q =
      (in_order (tests deed v p) ≡ in_order (tests deed w q))
      × (kept (in_order (tests deed v p)) (placed R b p (left R deed)) b ≡ kept (in_order (tests deed w q)) (placed R b q (left R deed)) b)

  same : (deed : Deed (M × B)) → Same deed (ltb p (places_of R)) p (inside R d x) (place_in R d x)
  same deed =
      by_test (fees_fit R b) fits
      (λ (e : fees_fit R b ≡ false).
      let rest : Bool → ℕ → List (Bool × ℕ) = λ v q. place_tests R b.closed v (mark_at R b q) deed in
      rw e (unfit (runs_fit R b) b (rest (ltb p (places_of R)) p) (rest (inside R d x) (place_in R d x)) _ _))
    where
      fits : fees_fit R b ≡ true → Same deed (ltb p (places_of R)) p (inside R d x) (place_in R d x)
      fits e =
          let w = for.within (fit_opens R b e) in
          by_test (inside R d x)
          (λ (i : inside R d x ≡ true). (
            ap₂ (λ v q. in_order (tests deed v q)) w (for.here i),
            ap₂ (λ v q. kept (in_order (tests deed v q)) (placed R b q (left R deed)) b) w (for.here i),
          ))
          (λ (i : inside R d x ≡ false).
          rw (w, i)
          (outside (runs_fit R b) (fees_fit R b) (not b.closed) b (deed_tests R (mark_at R b p) deed) (deed_tests R (mark_at R b (place_in R d x)) deed) _ _))

  -- what a call at that place answers and leaves
  abbrev pub CameAt : Call F (M × B) → Deed (M × B) → Type 0
  CameAt c deed = (ruled_at R b p deed ≡ ruled_in R b c) × (handed_at R b p deed ≡ handed_in R b c)

  pub post_at : (a : M × B) → CameAt (Call.post d x a) (Deed.posts a)
  unfolding ruling_on next_on ruled_at handed_at ruled_in handed_in
  post_at a = same (Deed.posts a)

  pub replace_at : (a : M × B) → CameAt (Call.replace d x a) (Deed.replaces a)
  unfolding ruling_on next_on ruled_at handed_at ruled_in handed_in
  replace_at a = same (Deed.replaces a)

  pub withdraw_at : CameAt (Call.withdraw d x) Deed.withdraws
  unfolding ruling_on next_on ruled_at handed_at ruled_in handed_in
  withdraw_at = same Deed.withdraws

  -- and so of the read-out of an hour, of a board whose fees fit
  pub hour_told_at : fees_fit R b ≡ true
      → hour_in R b p ≡ told (in_order (lent_tests R b ++ hour_tests (inside R d x) (mark_at R b (place_in R d x)))) (R.worth (item_at R b (place_in R d x)))
  unfolding hour_in
  hour_told_at e =
      let w = for.within (fit_opens R b e) in
      let read : Bool → ℕ → ℕ × ℤ = λ v q. told (in_order (lent_tests R b ++ hour_tests v (mark_at R b q))) (R.worth (item_at R b q)) in
      by_test (inside R d x)
      (λ (i : inside R d x ≡ true). ap₂ read w (for.here i))
      (λ (i : inside R d x ≡ false). rw (w, i, e) (by_test (runs_fit R b) (λ (r : runs_fit R b ≡ true). rw r) (λ (r : runs_fit R b ≡ false). rw r)))

-- on runs that are the ledger's, the test in place is that of 22
pub ledger_test : {F M B : Type 0} (R : Rules F M B) (b : Board F M B) → runs_fit R b ≡ true → eqb (ledger_refusal R b) 0 ≡ well_formed R b
unfolding ledger_refusal
ledger_test R b runs = by_test (well_formed R b) (λ (w : well_formed R b ≡ true). rw (runs, w)) (λ (w : well_formed R b ≡ false). rw (runs, w))

module _ {F M B : Type 0} (R : Rules F M B) (sound : Sound R) where
  pub well_good : (b : Board F M B) → well_formed R b ≡ true → length b.marks ≡ R.places → length b.amounts ≡ R.places → Good R b
  unfolding well_formed
  well_good b w lm lx =
      let h = and_both (fees_fit R b) _ w in
      let fee = (every_at (λ f. eqb (R.check_fee f (b.fee f)) 0) R.same_fee sound.same_is R.fees R.opens h.0).1 in
      record {
        fee_fits = λ f. eqb-true _ 0 (fee f (sound.every_fee f));
        each = all_at R.places (fits_at R b) h.1;
        marks_long = lm;
        amounts_long = lx;
      }

  pub well_held : (b : Board F M B) → well_formed R b ≡ true → Held R b → Good R b
  well_held b w held = well_good b w held.marks held.amounts

  pub good_well : (b : Board F M B) → Good R b → well_formed R b ≡ true
  unfolding well_formed
  good_well b g = both (every_of (λ f. eqb (R.check_fee f (b.fee f)) 0) R.fees R.opens sound.opens (λ f. eq-eqb _ 0 (g.fee_fits f))) (all_of R.places (fits_at R b) g.each)

  -- what a call in place tests of a board in form lets it through
  pub good_fees : (b : Board F M B) → Good R b → fees_fit R b ≡ true
  unfolding well_formed
  good_fees b g = (and_both (fees_fit R b) _ (good_well b g)).0

  pub good_runs : (b : Board F M B) → Good R b → runs_fit R b ≡ true
  good_runs b g = both (eq-eqb _ _ g.marks_long) (eq-eqb _ _ g.amounts_long)

  pub good_lent : (b : Board F M B) → Good R b → (ts : List (Bool × ℕ)) → in_order (lent_tests R b ++ ts) ≡ in_order ts
  good_lent b g ts = rw (good_runs b g, good_fees b g)

  pub good_refusal : (b : Board F M B) → Good R b → (c : Call F (M × B)) → ruled_in R b c ≡ ruling_on R b c
  unfolding ruled_in ruling_on
  good_refusal b g c = good_lent b g (call_tests R b.closed (filled_at R b) c)

  pub good_left : (b : Board F M B) → Good R b → (c : Call F (M × B)) → handed_in R b c ≡ handed R b c
  unfolding handed_in handed
  good_left b g c = ap (λ k. kept k (next_on R b c) b) (good_refusal b g c)

  pub good_ledger : (b : Board F M B) → Good R b → ledger_refusal R b ≡ 0
  unfolding ledger_refusal
  good_ledger b g = rw (good_runs b g, good_well b g)

  -- and a ledger in place that is not refused is one in form
  pub ledger_good : (b : Board F M B) → ledger_refusal R b ≡ 0 → Good R b
  unfolding ledger_refusal
  ledger_good b e =
      let a = passed (runs_fit R b) 0 _ e in
      let w = passed (well_formed R b) 21 0 a.1 in
      let l = and_both (eqb (length b.marks) R.places) (eqb (length b.amounts) R.places) a.0 in
      well_good b w.0 (eqb-true _ _ l.0) (eqb-true _ _ l.1)

  fresh_item : (p : ℕ) → item_at R (fresh R) p ≡ R.blank
  unfolding fresh
  fresh_item p i = (default_at R.places p R.blank.0 i, default_at R.places p R.blank.1 i)

  -- what is said of the blank, by its mark
  pub of_blank : {X : Type 0} (x y : X) → pick (R.filled R.blank.0) x y ≡ y
  of_blank x y = ap (λ t. pick t x y) sound.empty

  pub fresh_good : Good R (fresh R)
  unfolding fresh
  fresh_good =
      record {
        fee_fits = sound.no_fee_lem;
        each = λ p h.
            ap (λ a. pick (R.filled a.0) (ltb p (places_of R) && R.fits a) (R.is_blank a)) (fresh_item p) ∙ of_blank _ _ ∙ sound.is_blank_lem;
        marks_long = length-replicate R.places R.blank.0;
        amounts_long = length-replicate R.places R.blank.1;
      }

  pub fresh_stands : (d x : ℕ) → stands_on R (fresh R) d x ≡ none
  fresh_stands d x =
      by_test (inside R d x)
      (λ (i : inside R d x ≡ true). rw i (ap (λ a. pick (R.filled a.0) (some a) none) (fresh_item (place_in R d x)) ∙ of_blank _ _))
      (λ (i : inside R d x ≡ false). rw i)

  module _ (b : Board F M B) (g : Good R b) where
    -- ---- a change at an hour

    pub set_good : (d x : ℕ) (a : M × B) → inside R d x ≡ true → pick (R.filled a.0) (R.fits a) (R.is_blank a) ≡ true
        → Good R (placed R b (place_in R d x) a)
    set_good d x a i ok =
        let q = place_in R d x in
        let l = below R d x i in
        record {
          fee_fits = g.fee_fits;
          each = λ p h.
              read_set R.blank (λ p a. pick (R.filled a.0) (ltb p (places_of R) && R.fits a) (R.is_blank a)) b.marks b.amounts q a p
              (omega (arith, sound.room, g.marks_long)) (omega (arith, sound.room, g.amounts_long))
              ∙ either_way (eqb p q) _ _ (fits_set (R.filled a.0) (ltb q (places_of R)) (R.fits a) (R.is_blank a) (lt-ltb q (places_of R) l) ok) (g.each p h);
          marks_long = length-set b.marks q a.0 ∙ g.marks_long;
          amounts_long = length-set b.amounts q a.1 ∙ g.amounts_long;
        }

    pub set_stands : (d x : ℕ) (a : M × B) → inside R d x ≡ true → (e y : ℕ)
        → stands_on R (placed R b (place_in R d x) a) e y ≡ pick (eqb d e && eqb x y) (pick (R.filled a.0) (some a) none) (stands_on R b e y)
    set_stands d x a i e y = go (inside R e y) refl
      where
        l : place_in R d x < places_of R
        l = below R d x i

        new : Option (M × B)
        new = pick (R.filled a.0) (some a) none

        out : (t : Bool) → (eqb d e && eqb x y) ≡ t → inside R e y ≡ false → none ≡ pick t new none
        out true p j =
            let q = and_both (eqb d e) (eqb x y) p in
            clash (sym j ∙ ap₂ (inside R) (sym (eqb-true d e q.0)) (sym (eqb-true x y q.1)) ∙ i)
        out false p j = refl

        go : (t : Bool) → inside R e y ≡ t
            → pick t (place_on R (placed R b (place_in R d x) a) (place_in R e y)) none ≡ pick (eqb d e && eqb x y) new (pick t (place_on R b (place_in R e y)) none)
        go true j =
            let u = hour_of R d x i in
            let v = hour_of R e y j in
            read_set R.blank (λ _ z. pick (R.filled z.0) (some z) none) b.marks b.amounts (place_in R d x) a (place_in R e y)
            (omega (arith, l, sound.room, g.marks_long)) (omega (arith, l, sound.room, g.amounts_long))
            ∙ ap (λ t. pick t new (place_on R b (place_in R e y))) (place_same R.hours_of d x e y u.one v.one u.short v.short)
        go false j = out (eqb d e && eqb x y) refl j

    -- ---- folds over the places

    -- past the month's own places nothing stands
    beyond : (k : ℕ) → place_on R b (places_of R + k) ≡ none
    beyond k = go (ltb (places_of R + k) R.places) refl
      where
        go : (t : Bool) → ltb (places_of R + k) R.places ≡ t → place_on R b (places_of R + k) ≡ none
        go true e =
            let p = places_of R + k in
            empty_if (mark_at R b p) (ltb p (places_of R)) (R.fits (item_at R b p)) (R.is_blank (item_at R b p)) (item_at R b p)
            (le-ltb p (places_of R) (omega arith)) (g.each p (ltb-true p R.places e))
        go false e =
            let p = places_of R + k in
            ap (λ m. pick m (some (item_at R b p)) none)
            (ap R.filled (get_or-eq_default b.marks R.blank.0 (omega (arith, g.marks_long, ltb-false p R.places e))) ∙ sound.empty)

    at_hour : (k x : ℕ) → k < R.days → x < R.hours_of (suc k) → place_on R b (hours_to R.hours_of k + x) ≡ stands_on R b (suc k) x
    at_hour k x l h =
        let e : k ≡ suc k - 1 = omega arith in
        ap (λ n. place_on R b (hours_to R.hours_of n + x)) e
        ∙ ap (λ t. pick t (place_on R b (place_in R (suc k) x)) none) (sym (of_hour R (suc k) x (omega arith) l h))

    -- a fold over the places is the fold over the days' hours
    pub over_hours : {N : Type 0} (ε : N) (op : N → N → N) (unit : (x : N) → op x ε ≡ x) (assoc : (x y z : N) → op (op x y) z ≡ op x (op y z))
        (G : Option (M × B) → N) → G none ≡ ε
        → fold_to ε op R.places (λ p. G (place_on R b p)) ≡ fold_to ε op R.days (λ k. fold_to ε op (R.hours_of (suc k)) (λ x. G (stands_on R b (suc k) x)))
    over_hours ε op unit assoc G z =
        let e : R.places ≡ places_of R + (R.places - places_of R) = omega (arith, sound.room) in
        ap (λ n. fold_to ε op n (λ p. G (place_on R b p))) e
        ∙ fold_tail ε op unit assoc (places_of R) (R.places - places_of R) (λ p. G (place_on R b p)) (λ k. ap G (beyond k) ∙ z)
        ∙ fold_hours R.hours_of ε op unit assoc R.days (λ p. G (place_on R b p))
        ∙ fold_same ε op R.days _ _ (λ k l. fold_same ε op (R.hours_of (suc k)) _ _ (λ x h. ap G (at_hour k x l h)))

    -- what a place holds: an item that may stand where it is filled, else the blank
    pub held_at : (P : Bool → M × B → Type 0) → ((a : M × B) → R.filled a.0 ≡ true → R.fits a ≡ true → P true a) → P false R.blank → (p : ℕ) → p < R.places → P (mark_at R b p) (item_at R b p)
    held_at P f z p l = go (mark_at R b p) refl (g.each p l)
      where
        go : (m : Bool) → mark_at R b p ≡ m → pick m (ltb p (places_of R) && R.fits (item_at R b p)) (R.is_blank (item_at R b p)) ≡ true → P m (item_at R b p)
        go true n e = f (item_at R b p) n (and_both (ltb p (places_of R)) _ e).1
        go false n e = subst⁻¹ (P false) (sound.blank_is (item_at R b p) n e) z

    -- its item is read as what stands there
    pub read_at_lem : (value : M × B → ℤ) → value R.blank ≡ pos 0 → (p : ℕ) → p < R.places → value (item_at R b p) ≡ read_as value (place_on R b p)
    read_at_lem value z = held_at (λ m a. value a ≡ read_as value (pick m (some a) none)) (λ a _ _. refl) z
