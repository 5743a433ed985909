-- Numbers as bytes: how many they are. And earlier scores cut to the first four: they are all of them, or four where there are more, so that what does not
-- tell runs of more than three apart does not tell the first four from all. By the front of a run. Assumes nothing.
use Prim.Native.Nat.{ℕ, ◌≤◌, ◌<◌, min}
use mathlib.Core.Path.{◌≡◌, ap, ◌∙◌}
use mathlib.Core.Bool.{true, false}
use mathlib.Core.List.{List}
use mathlib.Core.Logic.{◌⊎◌, inl, inr, ⊎_elim}
use native.Mathlib.Omega.{arith}
use lib.Dec.{leb}
use lib.IntN.{ℤ}
use lib.ListN.{length}
use lib.Seq.{length-take-le}
use borrow.Author.Tests.{leb-true, leb-false}
use Rattle.whole.proofs.Choice.{by_test}
use Rattle.whole.proofs.Runs.{length_listed}
use Rattle.numbers.specs.Numbers.{number, byte_of, as_bytes, scores_in}
use Rattle.numbers.specs.Inner.{first_four, taken}
use Rattle.numbers.specs.declared.Earlier.{Earlier}
use Rattle.numbers.proofs.Columns.{take_listed}

pub length_bytes : (n : List ℤ) (many : ℕ) → length (as_bytes n many) ≡ many
unfolding as_bytes
length_bytes n many = length_listed (λ (i : ℕ). byte_of (number n i)) 0 many

-- the first four as they are lent: the count is that of scores in the array
four_most : (n : List ℤ) → (first_four n).count ≤ 4
unfolding first_four
four_most n = omega arith

pub record Lent (e : Earlier) : Type 0 where
  pub fits : e.count ≤ length e.scores
  pub long : length (taken e) ≡ e.count

pub lent : (n : List ℤ) {e : Earlier} → e ≡ first_four n → Lent e
unfolding first_four
lent n {e} h =
    let f : e.count ≤ length e.scores = rw (h, length_bytes) (four_most n) in
    record { fits = f; long = length-take-le e.count e.scores f }

-- the first four, as the numbers have them
four_is : (n : List ℤ) → taken (first_four n) ≡ as_bytes n (min (length n) 4)
unfolding first_four as_bytes
four_is n = take_listed (λ (i : ℕ). byte_of (number n i)) 0 (min (length n) 4) 4 (omega arith)

four_all : (n : List ℤ) → length n ≤ 4 → taken (first_four n) ≡ scores_in n
four_all n h = four_is n ∙ ap (as_bytes n) (omega arith)

four_many : (n : List ℤ) → 4 < length n → length (taken (first_four n)) ≡ 4
four_many n h = ap length (four_is n) ∙ length_bytes n (min (length n) 4) ∙ omega arith

-- all of them, or four of more
four_of : (n : List ℤ) → (taken (first_four n) ≡ scores_in n) ⊎ ((length (taken (first_four n)) ≡ 4) × (4 < length (scores_in n)))
four_of n =
    by_test (leb (length n) 4) (λ (t : leb (length n) 4 ≡ true). inl (four_all n (leb-true (length n) 4 t)))
    (λ (t : leb (length n) 4 ≡ false).
    let h = leb-false (length n) 4 t in inr (four_many n h, rw (length_bytes n (length n)) h))

-- what does not tell runs of more than three apart does not tell the first four from all
pub four_same : {A : Type 0} (f : List ℕ → A) → ((a b : List ℕ) → 3 < length a → 3 < length b → f a ≡ f b) → (n : List ℤ)
    → f (taken (first_four n)) ≡ f (scores_in n)
four_same f same n =
    ⊎_elim (λ e. ap f e) (λ h. same (taken (first_four n)) (scores_in n) (omega arith) (omega arith)) (four_of n)
