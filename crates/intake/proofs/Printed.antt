-- How long an answer and a total are, by their parts. Assumes nothing.
use Prim.Native.Nat.{ℕ, ◌+◌, ◌≤◌, ◌<◌}
use mathlib.Core.Path.{◌≡◌}
use native.Mathlib.Omega.{arith}
use lib.IntN.{ℤ}
use lib.ListN.{length, length-append}
use Rattle.text.specs.Text.{decimal_of, signed_text}
use Rattle.text.proofs.Spelling.{length_decimal}
use Rattle.intake.specs.Text.{verdict_text, total_text}

pub length_answer : (number refusal : ℕ) → number ≤ 1000000 → refusal < 256 → length (verdict_text number refusal) ≤ 12
unfolding verdict_text
length_answer number refusal h l =
    let a = length_decimal 6 number (omega arith) in
    let b = length_decimal 2 refusal (omega arith) in
    simp length-append (omega arith)

pub answer_long : (number refusal : ℕ) → length (verdict_text number refusal) ≡ length (decimal_of number) + 1 + length (decimal_of refusal) + 1
unfolding verdict_text
answer_long number refusal = simp length-append (omega arith)

pub total_long : (total : ℤ) → length (total_text total) ≡ 6 + length (signed_text total) + 1
unfolding total_text
total_long total = simp length-append (omega arith)
