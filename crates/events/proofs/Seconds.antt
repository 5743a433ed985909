-- EACH SECOND BY THE REQUEST'S SENTENCES (document 02, #103): every second of a run that begins outside is told by one of them, and no two of them tell a second different scores; so the
-- sentences over the list of seconds, with no state in them, say just what the scores are, and the state after a run is told by its seconds too. By induction on the seconds: the state before a
-- second says which sentence tells it. Assumes nothing.
use Prim.Native.Nat.{ℕ, zero, suc, ◌+◌, ◌-◌, ◌≤◌, ◌<◌}
use mathlib.Core.Path.{◌≡◌, refl, sym, ◌∙◌, subst}
use mathlib.Core.Bool.{Bool, true, false}
use mathlib.Core.List.{List}
use native.Mathlib.Numerals.{add-one}
use native.Mathlib.Omega.{arith}
use lib.Dec.{eqb, leb}
use lib.IntN.{ℤ}
use lib.ListN.{length, get_or, take}
use lib.Seq.{take_all}
use borrow.Author.Tests.{eqb-true, eqb-false, leb-true, leb-false}
use Rattle.whole.proofs.Choice.{by_test, clash}
use Rattle.whole.proofs.Signed.{signed}
use Rattle.units.specs.Units.{kilowatts}
use Rattle.sreg.specs.Second.{starts, ends, score_in, unless_starts, unless_ends, next_state}
use Rattle.sreg.specs.Run.{scores_from, state_after}
use Rattle.sreg.specs.declared.EventState.{EventState}
use Rattle.sreg.specs.declared.EventState.TheVariants.{Outside, Responding, Recovering}
use Rattle.sreg.proofs.Seconds.{score_at, state_none, state_step}
use Rattle.events.specs.Events.{at_second, Returned, StartsEvent, GoesOn, EndsIn, OutsideEvents, ScoreTold, first_ten, judged, ten_after, outside, Sentences}
use Rattle.events.specs.States.{Stands, by_outside, by_start, by_event, by_end}

-- no frequency both starts an event and ends one
never_both : (f : ℤ) → starts f ≡ true → ends f ≡ true → ⊥
unfolding starts ends
never_both f s e = omega signed

-- what holds of the numbers below i and of i holds below i + 1
one_more_lem : (P : ℕ → Type 0) (i : ℕ) → ((j : ℕ) → j < i → P j) → P i → (j : ℕ) → j < suc i → P j
one_more_lem P i below here j l =
    by_test (eqb j i)
    (λ (t : eqb j i ≡ true). subst P (sym (eqb-true j i t)) here)
    (λ (t : eqb j i ≡ false). below j (omega (arith, eqb-false j i t)))

module _ (powers frequencies : List ℤ) where
  abbrev falls_at : ℕ → Bool
  falls_at i = starts (at_second frequencies i)

  abbrev ends_at : ℕ → Bool
  ends_at i = ends (at_second frequencies i)

  by_then : {j i m : ℕ} → Returned frequencies j i → i ≤ m → Returned frequencies j m
  by_then r l = record { second = r.second; after = r.after; before = omega (arith, r.before); reaches = r.reaches }

  abbrev Here : ℕ → EventState → Type 0
  Here = Stands powers frequencies

  -- ---- one second more

  goes_on : {a i : ℕ} → GoesOn frequencies a i → ends_at i ≡ false → GoesOn frequencies a (suc i)
  goes_on {a} {i} g e = λ j l m. one_more_lem (λ (j : ℕ). a < j → ends_at j ≡ false) i (λ j m l. g j l m) (λ l. e) j m l

  -- an event starts in a second before which none is going on
  starts_in : (i : ℕ) → falls_at i ≡ true → ((j : ℕ) → j < i → falls_at j ≡ true → Returned frequencies j i) → Here (suc i) (Responding (kilowatts (at_second powers i)) 1)
  starts_in i f none = by_start i 1 (record { falls = f; none = none }) (omega arith) (omega arith) (omega arith) (λ j l m. absurd (omega arith))

  -- and ends in one that is at or above 59.98 Hz
  ends_in_lem : (a i : ℕ) → StartsEvent frequencies a → a < i → GoesOn frequencies a i → ends_at i ≡ true → Here (suc i) (Recovering 10)
  ends_in_lem a i s l g e = by_end a i 10 s (record { later = l; goes_on = g; reaches = e }) (omega arith) (omega arith) (omega arith) (λ j l m. absurd (omega arith))

  -- after an event that ended in second b, with no fall since: what fell before was followed by b
  followed : {a b i : ℕ} → EndsIn frequencies a b → b < i → ((j : ℕ) → b < j → j < i → falls_at j ≡ false) → (j : ℕ) → j < i → falls_at j ≡ true → Returned frequencies j (suc b)
  followed {a} {b} {i} e l none j m f =
      by_test (leb j b)
      (λ (t : leb j b ≡ true).
      by_test (eqb j b)
      (λ (u : eqb j b ≡ true). absurd (never_both (at_second frequencies b) (subst (λ (k : ℕ). falls_at k ≡ true) (eqb-true j b u) f) e.reaches))
      (λ (u : eqb j b ≡ false). record { second = b; after = omega (arith, leb-true j b t, eqb-false j b u); before = omega arith; reaches = e.reaches }))
      (λ (t : leb j b ≡ false). clash (sym (none j (omega (arith, leb-false j b t)) m) ∙ f))

  next : (i : ℕ) (s : EventState) → Here i s → Here (suc i) (next_state s (at_second powers i) (at_second frequencies i))
  unfolding unless_starts unless_ends
  next i _ (by_outside over) =
      by_test (falls_at i)
      (λ (t : falls_at i ≡ true). rw t (starts_in i t (λ j l f. by_then (over j l f) (omega arith))))
      (λ (t : falls_at i ≡ false). rw t
      (by_outside (one_more_lem (λ (j : ℕ). falls_at j ≡ true → Returned frequencies j (suc i - 10)) i (λ j l f. by_then (over j l f) (omega arith)) (λ f. clash (sym t ∙ f)))))
  next i _ (by_start a k s e least most g) =
      by_test (ends_at i)
      (λ (t : ends_at i ≡ true). rw t (ends_in_lem a i s (omega arith) g t))
      (λ (t : ends_at i ≡ false). rw t
      (by_test (eqb k 9)
      (λ (u : eqb k 9 ≡ true). rw u (by_event a s (omega (arith, eqb-true k 9 u)) (goes_on g t)))
      (λ (u : eqb k 9 ≡ false). rw u (by_start a (k + 1) s (omega arith) (omega arith) (omega (arith, eqb-false k 9 u)) (goes_on g t)))))
  next i _ (by_event a s l g) =
      by_test (ends_at i)
      (λ (t : ends_at i ≡ true). rw t (ends_in_lem a i s (omega arith) g t))
      (λ (t : ends_at i ≡ false). rw t (by_event a s (omega arith) (goes_on g t)))
  next i _ (by_end a b left s e l least most none) =
      by_test (falls_at i)
      (λ (t : falls_at i ≡ true). rw t (starts_in i t (λ j m f. by_then (followed e (omega arith) none j m f) (omega arith))))
      (λ (t : falls_at i ≡ false). rw t
      (let quiet : (j : ℕ) → b < j → j < suc i → falls_at j ≡ false = λ j n m. one_more_lem (λ (j : ℕ). b < j → falls_at j ≡ false) i (λ j m n. none j n m) (λ n. t) j m n in
      by_test (eqb left 1)
      (λ (u : eqb left 1 ≡ true). rw u (by_outside (λ j m f. by_then (followed e (omega arith) quiet j m f) (omega (arith, eqb-true left 1 u)))))
      (λ (u : eqb left 1 ≡ false). rw u (by_end a b (left - 1) s e (omega arith) (omega (arith, eqb-false left 1 u)) (omega arith) quiet))))

  stands : (i : ℕ) → length powers ≡ length frequencies → i ≤ length powers → Here i (state_after Outside (take i powers) (take i frequencies))
  stands zero e l = subst (Here 0) (state_none Outside powers frequencies) (by_outside (λ j m f. absurd (omega arith)))
  stands (suc i) e l =
      subst (Here (suc i)) (sym (rw add-one at (state_step Outside powers frequencies i e l)))
      (next i (state_after Outside (take i powers) (take i frequencies)) (stands i e (omega arith)))

  -- ---- its score

  module _ (capacity : ℤ) where
    told_by : (i : ℕ) (s : EventState) → Here i s → ScoreTold powers frequencies capacity i (score_in s (at_second powers i) (at_second frequencies i) capacity)
    told_by i _ (by_outside over) =
        by_test (falls_at i)
        (λ (t : falls_at i ≡ true). rw t (first_ten i (record { falls = t; none = λ j l f. by_then (over j l f) (omega arith) }) (omega arith) (omega arith)))
        (λ (t : falls_at i ≡ false). rw t (outside (record { steady = t; over = over })))
    told_by i _ (by_start a k s e least most g) = first_ten a s (omega arith) (omega arith)
    told_by i _ (by_event a s l g) = judged a s l g
    told_by i _ (by_end a b left s e l least most none) = ten_after a b s e (omega arith) (omega arith)

    -- every second is told
    pub every_second : length powers ≡ length frequencies → (i : ℕ) → i < length powers → ScoreTold powers frequencies capacity i (get_or (scores_from Outside capacity powers frequencies) i 0)
    every_second e i l =
        subst (ScoreTold powers frequencies capacity i) (sym (score_at Outside capacity powers frequencies i e l)) (told_by i _ (stands i e (omega arith)))

    -- ---- no two sentences tell a second different scores

    -- a start second's fall, and an event that goes on over it
    two_starts : {a b i : ℕ} → StartsEvent frequencies a → StartsEvent frequencies b → a < b → b ≤ i → GoesOn frequencies a i → ⊥
    two_starts {a} s t l m g = let r = t.none a l s.falls in clash (sym (g r.second r.after (omega (arith, r.before))) ∙ r.reaches)

    -- an event that goes on, and a second outside it
    goes_outside : {a i : ℕ} → StartsEvent frequencies a → a < i → GoesOn frequencies a i → OutsideEvents frequencies i → ⊥
    goes_outside {a} {i} s l g o = let r = o.over a l s.falls in clash (sym (g r.second r.after (omega (arith, r.before))) ∙ r.reaches)

    first_judged : {a b i : ℕ} → StartsEvent frequencies a → i < a + 10 → a ≤ i → StartsEvent frequencies b → b + 10 ≤ i → GoesOn frequencies b i → ⊥
    first_judged s m l t n g = two_starts t s (omega arith) l g

    first_outside : {a i : ℕ} → StartsEvent frequencies a → a ≤ i → i < a + 10 → OutsideEvents frequencies i → ⊥
    first_outside {a} {i} s l m o =
        by_test (eqb a i)
        (λ (t : eqb a i ≡ true). clash (sym o.steady ∙ subst (λ (k : ℕ). falls_at k ≡ true) (eqb-true a i t) s.falls))
        (λ (t : eqb a i ≡ false). let r = o.over a (omega (arith, eqb-false a i t)) s.falls in absurd (omega (arith, r.after, r.before)))

    judged_after : {a c b i : ℕ} → StartsEvent frequencies a → a + 10 ≤ i → GoesOn frequencies a i → EndsIn frequencies c b → b < i → i ≤ b + 10 → ⊥
    judged_after {a} {c} {b} s l g e m n =
        by_test (eqb a b)
        (λ (t : eqb a b ≡ true). never_both (at_second frequencies b) (subst (λ (k : ℕ). falls_at k ≡ true) (eqb-true a b t) s.falls) e.reaches)
        (λ (t : eqb a b ≡ false). clash (sym (g b (omega (arith, eqb-false a b t)) m) ∙ e.reaches))

    after_outside : {a b i : ℕ} → StartsEvent frequencies a → EndsIn frequencies a b → b < i → i ≤ b + 10 → OutsideEvents frequencies i → ⊥
    after_outside {a} {b} s e l m o =
        let r = o.over a (omega (arith, e.later)) s.falls in
        clash (sym (e.goes_on r.second r.after (omega (arith, r.before))) ∙ r.reaches)

    same_start : {a b i : ℕ} → StartsEvent frequencies a → StartsEvent frequencies b → a ≤ i → b ≤ i → GoesOn frequencies a i → GoesOn frequencies b i → a ≡ b
    same_start {a} {b} s t l m g h =
        by_test (eqb a b)
        (λ (u : eqb a b ≡ true). eqb-true a b u)
        (λ (u : eqb a b ≡ false).
        by_test (leb a b)
        (λ (v : leb a b ≡ true). absurd (two_starts s t (omega (arith, leb-true a b v, eqb-false a b u)) m g))
        (λ (v : leb a b ≡ false). absurd (two_starts t s (omega (arith, leb-false a b v)) l h)))

    pub one_score : {i x y : ℕ} → ScoreTold powers frequencies capacity i x → ScoreTold powers frequencies capacity i y → x ≡ y
    one_score (first_ten a s l m) (first_ten b t n o) = refl
    one_score (first_ten a s l m) (judged b t n g) = absurd (first_judged s m l t n g)
    one_score (first_ten a s l m) (ten_after b c t e n o) = refl
    one_score (first_ten a s l m) (outside o) = absurd (first_outside s l m o)
    one_score (judged b t n g) (first_ten a s l m) = absurd (first_judged s m l t n g)
    one_score {i} (judged a s l g) (judged b t n h) = rw (same_start s t (omega arith) (omega arith) g h)
    one_score (judged a s l g) (ten_after c b t e n o) = absurd (judged_after s l g e n o)
    one_score (judged a s l g) (outside o) = absurd (goes_outside s (omega arith) g o)
    one_score (ten_after b c t e n o) (first_ten a s l m) = refl
    one_score (ten_after c b t e n o) (judged a s l g) = absurd (judged_after s l g e n o)
    one_score (ten_after a b s e l m) (ten_after c d t f n o) = refl
    one_score (ten_after a b s e l m) (outside o) = absurd (after_outside s e l m o)
    one_score (outside o) (first_ten a s l m) = absurd (first_outside s l m o)
    one_score (outside o) (judged a s l g) = absurd (goes_outside s (omega arith) g o)
    one_score (outside o) (ten_after a b s e l m) = absurd (after_outside s e l m o)
    one_score (outside o) (outside p) = refl

    -- THE SENTENCES, of a run that begins outside
    pub sentences : length powers ≡ length frequencies → Sentences powers frequencies capacity (scores_from Outside capacity powers frequencies)
    sentences e = record { every = every_second e; only = λ i x l t. one_score (every_second e i l) t }

-- and where the whole run leaves it
pub run_stands : (powers frequencies : List ℤ) (n : ℕ) → length powers ≡ n → length frequencies ≡ n → Stands powers frequencies n (state_after Outside powers frequencies)
run_stands powers frequencies n p f =
    subst (Stands powers frequencies n) (rw (take_all n powers (omega arith), take_all n frequencies (omega arith))) (stands powers frequencies n (p ∙ sym f) (omega arith))
