-- Any line of 24 digits, whatever its bytes mean: what a line that opens has passed, that it is the line of its bytes, and that a line made of
-- eleven bytes and their sum opens as these. From the laws of digits. Assumes nothing.
use Prim.Native.Nat.{ℕ, ◌*◌, ◌%◌}
use native.Mathlib.Omega.{arith}
use mathlib.Core.Path.{◌≡◌, refl, ap, sym, ◌∙◌}
use mathlib.Core.Bool.{true}
use mathlib.Core.List.{List, [], ◌∷◌}
use lib.Dec.{eqb}
use lib.ListN.{length, get_or, take, length-append}
use lib.Seq.{take_at, get_or_at, take-suc, take_all}
use borrow.Author.Tests.{eq-eqb, eqb-true}
use Rattle.whole.proofs.Choice.{all_passed}
use Rattle.units.specs.Refusals.{wrong_length, bad_digit, bad_sum}
use Rattle.frame.specs.Digits.{all_digits, digits_of, bytes_of}
use Rattle.frame.specs.Numbers.{byte_sum}
use Rattle.frame.specs.Frame.{line_digits, checked, line_refusal, with_sum}
use Rattle.frame.proofs.Numbers.{Bytes, bytes_append}
use Rattle.frame.proofs.Digits.{length_digits, digits_are, bytes_digits, length_bytes_of, bytes_of_lem, digits_bytes}

-- what a line that opens has passed
pub record Sound (line : List ℕ) : Type 0 where
  pub long : length line ≡ line_digits
  pub digits : all_digits line ≡ true
  pub sum : checked (bytes_of line) ≡ true

pub sound : (line : List ℕ) → line_refusal line ≡ 0 → Sound line
unfolding line_refusal
sound line e =
    let p = all_passed ((eqb (length line) line_digits, wrong_length) ∷ (all_digits line, bad_digit) ∷ (checked (bytes_of line), bad_sum) ∷ []) refl e in
    record { long = eqb-true (length line) line_digits p.0; digits = p.1.0; sum = p.1.1.0 }

pub opens : (line : List ℕ) → Sound line → line_refusal line ≡ 0
unfolding line_refusal
opens line s = rw (eq-eqb (length line) line_digits s.long, s.digits, s.sum)

module _ (line : List ℕ) (s : Sound line) where
  -- its twelve bytes
  pub twelve : length (bytes_of line) ≡ 12
  twelve = length_bytes_of 12 line s.long

  pub line_bytes : Bytes (bytes_of line)
  line_bytes = bytes_of_lem line s.digits

  -- it is the line of its first eleven bytes and their sum
  sum_last : with_sum (take 11 (bytes_of line)) ≡ bytes_of line
  unfolding with_sum checked
  sum_last =
      let bs = bytes_of line in
      let t = twelve in
      rw (eqb-true (byte_sum (take 11 bs) % 256) (get_or bs 11 0) s.sum) (sym (take-suc bs 11 0 (omega arith)) ∙ take_all 12 bs (omega arith))

  pub line_back : digits_of (with_sum (take 11 (bytes_of line))) ≡ line
  line_back = ap digits_of sum_last ∙ digits_bytes 12 line s.long s.digits

-- a line made of eleven bytes
module _ (body : List ℕ) (eleven : length body ≡ 11) (bytes : Bytes body) where
  summed_bytes : Bytes (with_sum body)
  unfolding with_sum
  summed_bytes = bytes_append body (byte_sum body % 256 ∷ []) bytes (omega arith, tt)

  length_summed : length (with_sum body) ≡ 12
  unfolding with_sum
  length_summed = length-append body (byte_sum body % 256 ∷ []) ∙ omega arith

  summed_checked : checked (with_sum body) ≡ true
  unfolding with_sum checked
  summed_checked =
      rw (take_at body (byte_sum body % 256 ∷ []) 11 eleven, get_or_at body (byte_sum body % 256) [] 0 11 eleven)
      (eq-eqb (byte_sum body % 256) (byte_sum body % 256) refl)

  pub made_bytes : bytes_of (digits_of (with_sum body)) ≡ with_sum body
  made_bytes = bytes_digits (with_sum body) summed_bytes

  pub made_sound : Sound (digits_of (with_sum body))
  made_sound =
      record {
        long = length_digits (with_sum body) ∙ ap (λ (n : ℕ). 2 * n) length_summed;
        digits = digits_are (with_sum body) summed_bytes;
        sum = rw made_bytes summed_checked;
      }
