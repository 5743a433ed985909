-- How long the lines of frames are, and that what is put is a question's text. By the number of the refusal. Assumes nothing.
use Prim.Native.Nat.{ℕ, ◌≤◌}
use mathlib.Core.Path.{◌≡◌, refl, sym, ap, ap₂}
use mathlib.Core.Bool.{true, false, ◌&&◌}
use mathlib.Core.List.{List, ◌++◌}
use native.Mathlib.Omega.{arith}
use lib.IntN.{ℤ}
use lib.ListN.{length, length-append, replicate}
use Rattle.whole.specs.Choice.{or_else}
use Rattle.whole.specs.Whole.{up}
use Rattle.whole.proofs.Choice.{by_test, and_both, both_passed, kept_any, kept_by}
use Rattle.whole.proofs.Signed.{Natural, natural}
use Rattle.units.specs.Refusals.{bad_kind}
use Rattle.units.specs.Limits.{most_second, is_second, most_pattern, is_pattern}
use Rattle.text.specs.Text.{decimal_of, end_of_line}
use Rattle.text.proofs.Spelling.{length_most}
use Rattle.frame.specs.Frame.{line_digits, with_sum, closed, line_of}
use Rattle.frame.specs.declared.Entry.{Entry}
use Rattle.frame.proofs.Digits.{length_digits}
use Rattle.frame.proofs.Frames.{length_line, close_right, write_right}
use Rattle.pair_frame.specs.PairFrame.{pair_body, pair_line}
use Rattle.frames.specs.declared.Framed.{Framed}
use Rattle.frame_lines.specs.Text.{alone_text, entry_text, framed_refusal, lines_text, frame_text, pair_text}
use Rattle.frame_lines.specs.Inner.{lined_of, one_text, two_text}

-- a line that the writer takes
lined_right : (entry : Entry) → (lined_of entry).refusal ≡ 0 → (lined_of entry).bytes ≡ entry_text entry
unfolding lined_of
lined_right entry z = ap (λ (l : List ℕ). l ++ end_of_line) (sym (write_right entry (replicate line_digits 10) z))

module _ (f : Framed) where
  abbrev first : ℕ
  first = or_else f.refusal (lined_of f.entry).refusal

  -- one line
  pub one_text_lem : f.paired ≡ false → one_text first (lined_of f.entry).bytes ≡ frame_text f
  unfolding frame_text lined_of
  one_text_lem p = rw p (kept_by (λ (l : List ℕ). l) first (λ z. lined_right f.entry (both_passed f.refusal _ z).1) refl)

  -- two
  pub two_text_lem : f.paired ≡ true → two_text first (lined_of f.entry).bytes (lined_of f.second) ≡ frame_text f
  unfolding frame_text lined_of
  two_text_lem p =
      rw p (kept_by (λ (l : List ℕ). l) (or_else first (lined_of f.second).refusal) (λ z.
      let b = both_passed first _ z in
      ap₂ ◌++◌ (lined_right f.entry (both_passed f.refusal _ b.0).1) (lined_right f.second b.1)) refl)

-- a line has 25 bytes, a refusal's number at most 20 digits
entry_long : (entry : Entry) → length (entry_text entry) ≡ 25
entry_long entry = omega (arith, length-append (line_of entry) end_of_line, length_line entry)

alone_long : (k : ℕ) → length (alone_text k) ≤ 21
unfolding decimal_of
alone_long k = omega (arith, length-append (decimal_of k) end_of_line, length_most 20 k)

pub frames_long : (f : Framed) → length (frame_text f) ≤ 50
unfolding frame_text
frames_long f =
    kept_any (λ (l : List ℕ). length l ≤ 50) (framed_refusal f) (λ _. lines_long) (omega (arith, alone_long (framed_refusal f)))
  where
    lines_long : length (lines_text f) ≤ 50
    lines_long =
        by_test f.paired
        (λ (p : f.paired ≡ true). rw p (omega (arith, length-append (entry_text f.entry) (entry_text f.second), entry_long f.entry, entry_long f.second)))
        (λ (p : f.paired ≡ false). rw p (omega (arith, entry_long f.entry)))

-- ---- a logger's line

module _ (second f p : ℕ) where
  -- it is what the writer leaves
  pub pair_lined : closed (pair_body second f p) (replicate line_digits 10) ≡ pair_line second f p
  pair_lined = sym (close_right (pair_body second f p) (replicate line_digits 10) refl).1

  pub pair_line_long : length (pair_line second f p ++ end_of_line) ≡ 25
  unfolding with_sum
  pair_line_long = omega (arith, length-append (pair_line second f p) end_of_line, length_digits (with_sum (pair_body second f p)))

-- numbers that fit their bytes
pub record Sized (s f p : ℤ) : Type 0 where
  pub second : Natural most_second s
  pub frequency : Natural most_pattern f
  pub power : Natural most_pattern p

pub sized : (second f p : ℤ) → is_second second && (is_pattern f && is_pattern p) ≡ true → Sized second f p
sized second f p e =
    let a = and_both (is_second second) _ e in
    let b = and_both (is_pattern f) (is_pattern p) a.1 in
    record { second = natural most_second second a.0; frequency = natural most_pattern f b.0; power = natural most_pattern p b.1 }

pub pair_long : (second f p : ℤ) → length (pair_text second f p) ≤ 50
unfolding pair_text
pair_long second f p =
    by_test (is_second second && (is_pattern f && is_pattern p))
    (λ (t : is_second second && (is_pattern f && is_pattern p) ≡ true). rw t (omega (arith, pair_line_long (up second) (up f) (up p))))
    (λ (t : is_second second && (is_pattern f && is_pattern p) ≡ false). rw t (omega (arith, alone_long bad_kind)))
