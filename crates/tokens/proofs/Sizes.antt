-- How large a letter's place and a digit are. By the tests. Assumes nothing.
use Prim.Native.Nat.{ℕ, ◌≤◌}
use native.Mathlib.Omega.{arith}
use mathlib.Core.Path.{◌≡◌, refl, sym, ◌∙◌}
use mathlib.Core.Bool.{Bool, true, false, ◌&&◌, ◌||◌}
use lib.Dec.{eqb, leb}
use borrow.Author.Tests.{leb-true, eqb-true}
use Rattle.whole.proofs.Choice.{clash, by_test, and_both}
use Rattle.words.specs.Words.{letter_of}
use Rattle.tokens.specs.Bytes.{is_letter, is_digit, digit_of}

pub digit_small : (b : ℕ) → is_digit b ≡ true → digit_of b ≤ 9
unfolding is_digit digit_of
digit_small b h = let d = and_both (leb 48 b) (leb b 57) h in omega (arith, leb-true b 57 d.1)

either : (a b : Bool) → (a || b) ≡ true → (b ≡ false) → a ≡ true
either true b h e = refl
either false b h e = clash (sym e ∙ h)

pub letter_small : (b : ℕ) → is_letter b ≡ true → letter_of b ≤ 27
unfolding is_letter letter_of
letter_small b h =
    by_test (leb 97 b)
    (λ (t : leb 97 b ≡ true). rw t (by_test (eqb b 95)
    (λ (u : eqb b 95 ≡ true). omega (arith, eqb-true b 95 u))
    (λ (u : eqb b 95 ≡ false). omega (arith, leb-true b 122 (and_both (leb 97 b) (leb b 122) (either (leb 97 b && leb b 122) (eqb b 95) h u)).1))))
    (λ (t : leb 97 b ≡ false). rw t (omega arith))

pub letter_some : (b : ℕ) → is_letter b ≡ true → 1 ≤ letter_of b
unfolding letter_of
letter_some b h =
    by_test (leb 97 b)
    (λ (t : leb 97 b ≡ true). rw t (omega (arith, leb-true 97 b t)))
    (λ (t : leb 97 b ≡ false). rw t (omega arith))
