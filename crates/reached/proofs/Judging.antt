-- One step of judging at a time: a score of a window that is read, a window that meets the threshold or stays below it, a second that passes or is named. What a loop over the seconds and
-- their windows needs; by one step of the definitions each. Assumes nothing.
use Prim.Native.Nat.{ℕ, ◌+◌, ◌≤◌, ◌<◌}
use mathlib.Core.Path.{◌≡◌, refl, sym, ap, ◌∙◌}
use mathlib.Core.Bool.{true, false}
use mathlib.Core.List.{List, [], ◌∷◌}
use native.Mathlib.Omega.{arith}
use lib.Dec.{leb}
use lib.ListN.{length, drop, get_or}
use borrow.Author.Tests.{lt-ltb, le-ltb, le-leb, lt-leb, ne_eqb}
use Rattle.whole.specs.Choice.{pick}
use Rattle.whole.specs.Folds.{add_to}
use Rattle.whole.proofs.Folds.{fold_none, fold_step}
use Rattle.whole.proofs.Runs.{rest, no_rest}
use Rattle.units.specs.Limits.{seconds_of_hour}
use Rattle.reached.specs.Reached.{hour_windows, window_at, stays_below, first_below, named_second, read_in, verdict_of}
use Rattle.reached.proofs.Windows.{window_count}

-- ---- a window

module _ (threshold : ℕ) where
  -- what is read where the next score is not below, and where it is
  read_met : (x : ℕ) (w : List ℕ) → threshold ≤ x → read_in threshold (x ∷ w) ≡ 1
  read_met x w h = let none : pick (leb threshold x) 0 (read_in threshold w) ≡ 0 = simp (le-leb threshold x h) in omega arith

  read_below : (x : ℕ) (w : List ℕ) → x < threshold → read_in threshold (x ∷ w) ≡ 1 + read_in threshold w
  read_below x w h = let all : pick (leb threshold x) 0 (read_in threshold w) ≡ read_in threshold w = simp (lt-leb threshold x h) in omega arith

-- its first k scores are read, and what is left decides
module _ (threshold : ℕ) (window : List ℕ) where
  pub record ReadTo (k : ℕ) : Type 0 where
    pub stays : stays_below threshold window ≡ stays_below threshold (drop k window)
    pub count : read_in threshold window ≡ k + read_in threshold (drop k window)

  module _ (k : ℕ) (r : ReadTo k) where
    -- one more that is below
    pub read_to_more : k < length window → get_or window k 0 < threshold → ReadTo (k + 1)
    read_to_more l h =
        let s = rest window k 0 l in
        let one = ap (read_in threshold) s ∙ read_below threshold (get_or window k 0) (drop (k + 1) window) h in
        record { stays = r.stays ∙ ap (stays_below threshold) s ∙ rw (lt-ltb (get_or window k 0) threshold h); count = r.count ∙ omega arith }

    -- one that is not: the window is left there
    pub read_to_met : k < length window → threshold ≤ get_or window k 0 → (stays_below threshold window ≡ false) × (read_in threshold window ≡ k + 1)
    read_to_met l h =
        let s = rest window k 0 l in
        let one = ap (read_in threshold) s ∙ read_met threshold (get_or window k 0) (drop (k + 1) window) h in
        (r.stays ∙ ap (stays_below threshold) s ∙ rw (le-ltb (get_or window k 0) threshold h), r.count ∙ omega arith)

    -- none is left
    pub read_to_all : length window ≤ k → (stays_below threshold window ≡ true) × (read_in threshold window ≡ k)
    read_to_all l =
        let s = no_rest window k l in
        let none : read_in threshold (drop k window) ≡ 0 = ap (read_in threshold) s in
        (r.stays ∙ ap (stays_below threshold) s, r.count ∙ omega arith)

-- ---- an hour: its first i seconds are judged, and what is left decides

module _ (earlier scores : List ℕ) (threshold : ℕ) where
  abbrev seen : List (List ℕ)
  seen = hour_windows earlier scores

  abbrev read_of : ℕ → ℕ
  read_of i = read_in threshold (window_at earlier scores i)

  pub record Judging (i read : ℕ) : Type 0 where
    pub named : named_second earlier scores threshold ≡ first_below threshold (i + 1) (drop i seen)
    pub count : add_to i read_of ≡ read

  pub judging_none : Judging 0 0
  judging_none = record { named = refl; count = fold_none 0 ◌+◌ read_of }

  module _ (i read : ℕ) (j : Judging i read) where
    more : {n : ℕ} → read_of i ≡ n → add_to (i + 1) read_of ≡ read + n
    more e = fold_step 0 ◌+◌ i read_of ∙ (λ a. j.count a + e a)

    -- a second's window comes next
    at : i < length scores → named_second earlier scores threshold ≡ pick (stays_below threshold (window_at earlier scores i)) (i + 1) (first_below threshold (i + 1 + 1) (drop (i + 1) seen))
    at l = j.named ∙ ap (first_below threshold (i + 1)) (rest seen i [] (omega (arith, window_count earlier scores)))

    -- it meets the threshold
    pub judging_more : {n : ℕ} → i < length scores → (stays_below threshold (window_at earlier scores i) ≡ false) × (read_of i ≡ n) → Judging (i + 1) (read + n)
    judging_more l w = record { named = at l ∙ rw w.0; count = more w.1 }

    -- it stays below
    pub judging_named : {n : ℕ} → i < length scores → (stays_below threshold (window_at earlier scores i) ≡ true) × (read_of i ≡ n)
        → verdict_of earlier scores threshold ≡ record { refusal = 0; reached = false; second = i + 1; judged = i + 1; read = read + n }
    judging_named l w =
        let t : named_second earlier scores threshold ≡ i + 1 = at l ∙ rw w.0 in
        let some = ne_eqb (i + 1) 0 (λ z. absurd (omega arith)) in
        rw (t, some, more w.1)

    -- none is left
    pub judging_all : i ≡ seconds_of_hour → length scores ≤ i → verdict_of earlier scores threshold ≡ record { refusal = 0; reached = true; second = 0; judged = i; read = read }
    judging_all e l =
        let t : named_second earlier scores threshold ≡ 0 = j.named ∙ ap (first_below threshold (i + 1)) (no_rest seen i (omega (arith, window_count earlier scores))) in
        rw (t, sym e, j.count)
