-- A run by a rule, place by place; a run that a loop fills, one store a turn; and what is left of a list from a place on.
-- By induction on the run. Assumes nothing.
use Prim.Native.Nat.{ℕ, zero, suc, ◌+◌, ◌≤◌, ◌<◌}
use mathlib.Core.Path.{◌≡◌, refl, ◌∙◌, sym, ap, ap₂}
use mathlib.Core.List.{List, [], ◌∷◌, append-nil}
use native.Mathlib.Nat.{add-zero, zero-add, add-suc, suc-add, le_of_suc-le-suc, not-suc-le-zero}
use native.Mathlib.Numerals.{add-one}
use native.Mathlib.Omega.{arith}
use lib.ListN.{length, get_or, set, drop, drop_of_length-le}
use lib.Seq.{drop-length, drop-cons}
use borrow.Rule.Slice.PartMut.{put_mid}
use Rattle.whole.specs.Runs.{listed, filled}

module _ {A : Type 0} (f : ℕ → A) where
  pub length_listed : (i n : ℕ) → length (listed f i n) ≡ n
  length_listed i zero = refl
  length_listed i (suc n) = ap suc (length_listed (suc i) n)

  next : (i k : ℕ) → suc i + k ≡ i + suc k
  next i k = suc-add i k ∙ sym (add-suc i k)

  pub get_d_listed : (i n k : ℕ) (d : A) → k < n → get_or (listed f i n) k d ≡ f (i + k)
  get_d_listed i zero k d h = absurd (not-suc-le-zero h)
  get_d_listed i (suc n) zero d h = ap f (sym (add-zero i))
  get_d_listed i (suc n) (suc k) d h = get_d_listed (suc i) n k d (le_of_suc-le-suc h) ∙ ap f (next i k)

  pub length_filled : (i : ℕ) (run : List A) (n : ℕ) → n ≤ length run → length (filled f i run n) ≡ length run
  length_filled i run zero h = refl
  length_filled i [] (suc n) h = absurd (not-suc-le-zero h)
  length_filled i (x ∷ run) (suc n) h = ap suc (length_filled (suc i) run n (le_of_suc-le-suc h))

  filled_suc : (i : ℕ) (run : List A) (n : ℕ) → n < length run → set (filled f i run n) n (f (i + n)) ≡ filled f i run (suc n)
  filled_suc i [] n h = absurd (not-suc-le-zero h)
  filled_suc i (x ∷ run) zero h = ap (λ (k : ℕ). f k ∷ run) (add-zero i)
  filled_suc i (x ∷ run) (suc n) h =
      ap (λ (l : List A). f i ∷ l)
      (ap (λ (k : ℕ). set (filled f (suc i) run n) n (f k)) (sym (next i n)) ∙ filled_suc (suc i) run n (le_of_suc-le-suc h))

  -- one store more: the rule counted from i, and from 0
  pub filled_more : (i : ℕ) (run : List A) (n : ℕ) → n < length run → set (filled f i run n) n (f (i + n)) ≡ filled f i run (n + 1)
  filled_more i run n h = filled_suc i run n h ∙ ap (filled f i run) (sym (add-one n))

  pub filled_next : (run : List A) (n : ℕ) → n < length run → set (filled f 0 run n) n (f n) ≡ filled f 0 run (n + 1)
  filled_next run n h = rw zero-add at (filled_more 0 run n h)

  -- filled again, as far as it is
  pub filled_again : (i : ℕ) (run : List A) (n : ℕ) → n ≤ length run → filled f i (filled f i run n) n ≡ filled f i run n
  filled_again i run zero h = refl
  filled_again i [] (suc n) h = absurd (not-suc-le-zero h)
  filled_again i (x ∷ run) (suc n) h = ap (λ (l : List A). f i ∷ l) (filled_again (suc i) run n (le_of_suc-le-suc h))

  -- n places more, put in as one part
  pub filled_part : (i a n : ℕ) (run : List A) → a ≤ length run → put_mid a n (filled f i run a) (listed f (i + a) n) ≡ filled f i run (a + n)
  filled_part i zero n run h = rw (add-zero, zero-add)
  filled_part i (suc a) n [] h = absurd (not-suc-le-zero h)
  filled_part i (suc a) n (x ∷ run) h =
      rw (suc-add a n, sym (next i a)) (ap (λ (l : List A). f i ∷ l) (filled_part (suc i) a n run (le_of_suc-le-suc h)))

  -- every place filled
  pub filled_all : (i : ℕ) (run : List A) (n : ℕ) → n ≡ length run → filled f i run n ≡ listed f i n
  filled_all i run n e = rw (e, drop-length, append-nil)

module _ {A : Type 0} where
  -- two rules that agree
  pub listed_same : (f g : ℕ → A) (i j n : ℕ) → ((k : ℕ) → k < n → f (i + k) ≡ g (j + k)) → listed f i n ≡ listed g j n
  listed_same f g i j zero h = refl
  listed_same f g i j (suc n) h =
      ap₂ ◌∷◌ (rw (add-zero i, add-zero j) at (h 0 (omega arith)))
      (listed_same f g (suc i) (suc j) n (λ k l. rw (next f i k, next f j k) (h (suc k) (omega arith))))

  -- what is left of a list from place i on: one element more, or nothing
  pub rest : (s : List A) (i : ℕ) (d : A) → i < length s → drop i s ≡ get_or s i d ∷ drop (i + 1) s
  rest s i d h = rw (add-one i) (drop-cons s i d h)

  pub no_rest : (s : List A) (i : ℕ) → length s ≤ i → drop i s ≡ []
  no_rest s i h = drop_of_length-le s h
