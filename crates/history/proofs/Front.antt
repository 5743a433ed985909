-- A list's first n elements, and d for each of the others: what a run that fills the places in order has built so far.
-- By induction on the list. Assumes nothing.
use Prim.Native.Nat.{ℕ, zero, suc}
use mathlib.Core.Path.{◌≡◌, refl, sym, ap, ◌∙◌}
use mathlib.Core.List.{List, [], ◌∷◌}
use lib.ListN.{length, get_or, set, replicate}
use lib.Seq.{set-get_or}

module _ {A : Type 0} where
  unfoldable pub front : ℕ → List A → A → List A
  front n [] d = []
  front zero (x ∷ l) d = d ∷ front zero l d
  front (suc n) (x ∷ l) d = x ∷ front n l d

  pub front_none : (l : List A) (d : A) → front 0 l d ≡ replicate (length l) d
  unfolding front
  front_none [] d = refl
  front_none (x ∷ l) d = ap {B = List A} (λ r. d ∷ r) (front_none l d)

  pub front_all : (l : List A) (d : A) → front (length l) l d ≡ l
  unfolding front
  front_all [] d = refl
  front_all (x ∷ l) d = ap {B = List A} (λ r. x ∷ r) (front_all l d)

  pub front_next : (n : ℕ) (l : List A) (d : A) → set (front n l d) n (get_or l n d) ≡ front (suc n) l d
  unfolding front
  front_next n [] d = refl
  front_next zero (x ∷ l) d = refl
  front_next (suc n) (x ∷ l) d = ap {B = List A} (λ r. x ∷ r) (front_next n l d)

  pub front_at : (n : ℕ) (l : List A) (d : A) → get_or (front n l d) n d ≡ d
  unfolding front
  front_at n [] d = refl
  front_at zero (x ∷ l) d = refl
  front_at (suc n) (x ∷ l) d = front_at n l d

  -- an element that is d adds nothing
  pub front_kept : (n : ℕ) (l : List A) (d : A) → get_or l n d ≡ d → front n l d ≡ front (suc n) l d
  front_kept n l d e =
      sym (set-get_or (front n l d) n d) ∙ ap (set (front n l d) n) (front_at n l d ∙ sym e) ∙ front_next n l d
