-- How long the line of a fault is, and how it is put piece by piece. By its cases. Assumes nothing.
use Prim.Native.Nat.{ℕ, ◌≤◌, ◌<◌}
use mathlib.Core.Path.{◌≡◌}
use mathlib.Core.Bool.{true, false}
use native.Mathlib.Omega.{arith}
use mathlib.Core.List.{List, ◌++◌, append_assoc}
use lib.Dec.{eqb}
use lib.ListN.{length, length-append}
use Rattle.whole.proofs.Choice.{by_test}
use Rattle.text.specs.Text.{decimal_of, place_after, with_text}
use Rattle.text.proofs.Spelling.{length_decimal}
use Rattle.text.proofs.Pieces.{Begun, begin, more}
use Rattle.words.specs.Words.{bytes}
use Rattle.fault_lines.specs.Text.{fault_words, fault_text}
use Rattle.fault_lines.specs.Inner.{most_bytes}

pub words_long : (k : ℕ) → length (fault_words k) ≤ 37
unfolding fault_words
words_long k =
    by_test (eqb k 101) (λ (t : eqb k 101 ≡ true). rw t (omega arith))
    (λ (t : eqb k 101 ≡ false). rw t
    (by_test (eqb k 102) (λ (t : eqb k 102 ≡ true). rw t (omega arith))
    (λ (t : eqb k 102 ≡ false). rw t
    (by_test (eqb k 103) (λ (t : eqb k 103 ≡ true). rw t (omega arith))
    (λ (t : eqb k 103 ≡ false). rw t
    (by_test (eqb k 104) (λ (t : eqb k 104 ≡ true). rw t (omega arith))
    (λ (t : eqb k 104 ≡ false). rw t
    (by_test (eqb k 105) (λ (t : eqb k 105 ≡ true). rw t (omega arith)) (λ (t : eqb k 105 ≡ false). rw t (omega arith))))))))))

pub fault_long : (k line : ℕ) → line < 18446744073709551616 → length (fault_text k line) ≤ most_bytes
unfolding fault_text
fault_long k line h =
    simp length-append (omega (arith, length_decimal 19 line (omega arith), words_long k))

-- the line, each piece put after the one before
pub told : (k line : ℕ) (out x y z : List ℕ) (a b n : ℕ) → line < 18446744073709551616 → most_bytes ≤ length out
    → a ≡ place_after out 0 (bytes "line ") → x ≡ with_text out 0 (bytes "line ")
    → b ≡ place_after x a (decimal_of line) → y ≡ with_text x a (decimal_of line)
    → n ≡ place_after y b (fault_words k) → z ≡ with_text y b (fault_words k) → Begun out (fault_text k line) z n
unfolding fault_text
told k line out x y z a b n h room p p' q q' r r' =
    let digits = decimal_of line in
    let long = length_decimal 19 line (omega arith) in
    let few = words_long k in
    let one = begin out x a (bytes "line ") (omega arith) p p' in
    let two = more out x y a b (bytes "line ") digits (omega arith) one q q' in
    let three = more out y z b n (bytes "line " ++ digits) (fault_words k) (simp length-append (omega arith)) two r r' in
    rw append_assoc at three
