-- The ways out of the three calls, each with the tests that lead there; and the twelve bytes, put into a run. By the definitions' tests.
-- Assumes nothing.
use Prim.Native.Nat.{ℕ, suc, ◌+◌, ◌-◌, ◌%◌, ◌≤◌}
use native.Mathlib.Omega.{arith}
use mathlib.Core.Path.{◌≡◌, refl, sym, ap, ◌∙◌}
use mathlib.Core.Bool.{Bool, true, false}
use mathlib.Core.List.{List, [], ◌∷◌, ◌++◌, append-nil}
use lib.Dec.{eqb}
use lib.ListN.{length, take, drop, set, drop_of_length-le, length-append}
use lib.Seq.{length-take-le, set_split, take_at}
use borrow.Author.Tests.{ne_eqb, eq-eqb, eqb-true, eqb-false}
use borrow.Rule.Slice.PartMut.{put_mid}
use Rattle.whole.specs.Choice.{or_else, in_order}
use Rattle.std.specs.Prelude.{Result, Ok, Err}
use Rattle.whole.proofs.Choice.{all_passed, by_test, in_order_then, kept_new, kept_old}
use Rattle.units.specs.Refusals.{wrong_length, bad_digit, bad_sum, bad_kind, paper_number, told_number, refusal_numbered, result_by}
use Rattle.units.specs.declared.refusal.Refusal.{Refusal}
use Rattle.units.specs.declared.refusal.Refusal.TheVariants.{WrongLength, BadDigit, BadSum, BadKind}
use Rattle.units.proofs.Numbered.{let_through, answer_is, no_refusal}
use Rattle.frame.specs.Digits.{all_digits, digits_of, bytes_of}
use Rattle.frame.specs.Numbers.{byte_sum}
use Rattle.frame.specs.Frame.{line_digits, checked, line_tests, line_refusal, opened_of, in_form, entry_of, read_refusal, reading_of, body_of, with_sum, line_of, write_refusal, written, close_refusal, closed}
use Rattle.frame.specs.declared.Entry.{Entry}
use Rattle.frame.proofs.Digits.{length_digits}

-- ---- a refusal that is answered has its number

abbrev or_refusal : {A : Type 0} → Refusal → Result A Refusal → Refusal
or_refusal r (Ok a) = r
or_refusal r (Err s) = s

pub refusal_is : {A : Type 0} (k : ℕ) (a : A) {r : Refusal} → result_by k a ≡ Err r → (k ≡ 0 → ⊥) × (refusal_numbered k ≡ r)
refusal_is k a {r = r} e =
    by_test (eqb k 0)
    (λ (t : eqb k 0 ≡ true). no_refusal (sym (rw t at e)))
    (λ (t : eqb k 0 ≡ false). (eqb-false k 0 t, ap (or_refusal r) (rw t at e)))

-- ---- out of `open_line`

module _ (line : List ℕ) where
  pub opened_length : (length line ≡ line_digits → ⊥) → Err WrongLength ≡ opened_of line
  unfolding opened_of line_refusal
  opened_length h = rw (ne_eqb (length line) line_digits h)

  pub opened_digit : length line ≡ line_digits → all_digits line ≡ false → Err BadDigit ≡ opened_of line
  unfolding opened_of line_refusal
  opened_digit h d = rw (eq-eqb (length line) line_digits h, d)

  pub opened_sum : (bytes : List ℕ) → length line ≡ line_digits → all_digits line ≡ true → bytes ≡ bytes_of line → checked bytes ≡ false → Err BadSum ≡ opened_of line
  unfolding opened_of line_refusal
  opened_sum bytes h d e s = rw (eq-eqb (length line) line_digits h, d, rw e at s)

  pub opened_right : (bytes : List ℕ) → length line ≡ line_digits → all_digits line ≡ true → bytes ≡ bytes_of line → checked bytes ≡ true
      → Ok bytes ≡ opened_of line
  unfolding opened_of line_refusal
  opened_right bytes h d e s = rw (eq-eqb (length line) line_digits h, d, rw e at s, e)

  -- what the answer says
  pub opened_none : (bytes : List ℕ) → opened_of line ≡ Ok bytes → line_refusal line ≡ 0
  unfolding opened_of
  opened_none bytes e = let_through (line_refusal line) (bytes_of line) e

  pub opened_bytes : (bytes : List ℕ) → opened_of line ≡ Ok bytes → bytes_of line ≡ bytes
  unfolding opened_of
  opened_bytes bytes e = answer_is (line_refusal line) (bytes_of line) e

  pub opened_refusal : (r : Refusal) → opened_of line ≡ Err r → (line_refusal line ≡ 0 → ⊥) × (refusal_numbered (line_refusal line) ≡ r)
  unfolding opened_of
  opened_refusal r e = refusal_is (line_refusal line) (bytes_of line) e

  -- ---- out of `read_frame`

  pub read_number : read_refusal line ≡ or_else (line_refusal line) (in_order ((in_form (entry_of (bytes_of line)), bad_kind) ∷ []))
  unfolding line_refusal read_refusal
  read_number = in_order_then (line_tests line) ((in_form (entry_of (bytes_of line)), bad_kind) ∷ []) refl

  pub reading_line : (r : Refusal) → opened_of line ≡ Err r → Err r ≡ reading_of line
  unfolding reading_of
  reading_line r e =
      let z = opened_refusal r e in
      let n = ne_eqb (line_refusal line) 0 z.0 in
      rw (read_number, n, n) (ap Err (sym z.1))

  pub reading_form : line_refusal line ≡ 0 → in_form (entry_of (bytes_of line)) ≡ false → Err BadKind ≡ reading_of line
  unfolding reading_of
  reading_form h f = rw (read_number, eq-eqb (line_refusal line) 0 h, f)

  pub reading_entry : line_refusal line ≡ 0 → in_form (entry_of (bytes_of line)) ≡ true → Ok (entry_of (bytes_of line)) ≡ reading_of line
  unfolding reading_of
  reading_entry h f = rw (read_number, eq-eqb (line_refusal line) 0 h, f)

  -- the same by the bytes that were opened
  pub form_refused : (bytes : List ℕ) → opened_of line ≡ Ok bytes → in_form (entry_of bytes) ≡ false → Err BadKind ≡ reading_of line
  form_refused bytes e f = reading_form (opened_none bytes e) (ap (λ (b : List ℕ). in_form (entry_of b)) (opened_bytes bytes e) ∙ f)

  pub entry_read : (bytes : List ℕ) → opened_of line ≡ Ok bytes → in_form (entry_of bytes) ≡ true → Ok (entry_of bytes) ≡ reading_of line
  entry_read bytes e f =
      let b = opened_bytes bytes e in
      ap (λ (b : List ℕ). Ok (entry_of b)) (sym b) ∙ reading_entry (opened_none bytes e) (ap (λ (b : List ℕ). in_form (entry_of b)) b ∙ f)

  -- the number of a refusal is the paper's
  pub read_told : (r : Refusal) → reading_of line ≡ Err r → paper_number r ≡ read_refusal line
  unfolding reading_of read_refusal
  read_told r e = ap told_number (sym e) ∙ by (eqb (length line) line_digits) (all_digits line) (checked (bytes_of line)) (in_form (entry_of (bytes_of line)))
    where
      by : (a b c d : Bool) → let k = in_order ((a, wrong_length) ∷ (b, bad_digit) ∷ (c, bad_sum) ∷ (d, bad_kind) ∷ []) in told_number (result_by k (entry_of (bytes_of line))) ≡ k
      by true true true true = refl
      by true true true false = refl
      by true true false d = refl
      by true false c d = refl
      by false b c d = refl

-- what `open_line` and `read_frame` go by
pub ruleset opening = (opened_length, opened_digit, opened_sum, opened_right)

pub ruleset reading = (reading_line, form_refused, entry_read)

-- ---- out of `write_frame`

module _ (entry : Entry) (run : List ℕ) where
  pub write_refused : (write_refusal entry (length run) ≡ 0 → ⊥) → run ≡ written entry run
  unfolding written
  write_refused h = sym (kept_old (line_of entry) run h)

  pub write_right : write_refusal entry (length run) ≡ 0 → line_of entry ≡ written entry run
  unfolding written
  write_right h = sym (kept_new (line_of entry) run h)

  -- 1, then 13
  pub length_refuses : (length run ≡ line_digits → ⊥) → write_refusal entry (length run) ≡ 1
  unfolding write_refusal
  length_refuses h = rw (ne_eqb (length run) line_digits h)

  pub form_refuses : length run ≡ line_digits → in_form entry ≡ false → write_refusal entry (length run) ≡ 13
  unfolding write_refusal
  form_refuses h f = rw (eq-eqb (length run) line_digits h, f)

  -- what it takes
  pub taken : write_refusal entry (length run) ≡ 0 → (length run ≡ line_digits) × (in_form entry ≡ true)
  unfolding write_refusal
  taken h =
      let p = all_passed ((eqb (length run) line_digits, wrong_length) ∷ (in_form entry, bad_kind) ∷ []) refl h in
      (eqb-true (length run) line_digits p.0, p.1.0)

  pub takes : length run ≡ line_digits → in_form entry ≡ true → write_refusal entry (length run) ≡ 0
  unfolding write_refusal
  takes h f = rw (eq-eqb (length run) line_digits h, f)

-- the number that it answers
pub write_told : (entry : Entry) (n : ℕ) (r : Refusal) → result_by (write_refusal entry n) (tt {0}) ≡ Err r → paper_number r ≡ write_refusal entry n
unfolding write_refusal
write_told entry n r e = ap told_number (sym e) ∙ by (eqb n line_digits) (in_form entry)
  where
    by : (s t : Bool) → let k = in_order ((s, wrong_length) ∷ (t, bad_kind) ∷ []) in told_number (result_by k (tt {0})) ≡ k
    by true true = refl
    by true false = refl
    by false t = refl

pub write_none : (entry : Entry) (n : ℕ) (u : Unit {0}) → result_by (write_refusal entry n) tt ≡ Ok u → write_refusal entry n ≡ 0
write_none entry n u e = let_through (write_refusal entry n) tt e

-- what a caller goes by that takes the number
pub ruleset writes = (write_told, write_none)

-- what `write_frame` goes by
pub ruleset writing = (write_refused, write_right, length_refuses, form_refuses, takes)

-- ---- twelve bytes in a run

pub eleven : (l : List ℕ) → length l ≡ 12 → length (take 11 l) ≡ 11
eleven l e = length-take-le 11 l (omega arith)

pub length_body : (entry : Entry) → length (body_of entry) ≡ 11
unfolding body_of
length_body entry = refl

pub length_line : (entry : Entry) → length (line_of entry) ≡ line_digits
unfolding line_of with_sum
length_line entry = length_digits (with_sum (body_of entry)) ∙ omega (arith, length-append (body_of entry) (byte_sum (body_of entry) % 256 ∷ []), length_body entry)

-- three bytes, and a number after them
abbrev three : List ℕ → ℕ → ℕ → ℕ → List ℕ
three b k d h = set (set (set b 0 k) 1 d) 2 h

pub put_three : (b m : List ℕ) (k d h : ℕ) → length b ≡ 3 + length m
    → put_mid 3 (length (three b k d h) - 3) (three b k d h) m ≡ k ∷ d ∷ h ∷ m
put_three [] m k d h e = absurd (omega arith)
put_three (x ∷ []) m k d h e = absurd (omega arith)
put_three (x ∷ y ∷ []) m k d h e = absurd (omega arith)
put_three (x ∷ y ∷ z ∷ r) m k d h e =
    let q : suc (suc (suc (length r))) - 3 ≡ length m = omega arith in
    let g : length r ≤ length m = omega arith in
    ap (λ (i : ℕ). k ∷ d ∷ h ∷ (m ++ drop i r)) q ∙ rw (drop_of_length-le r g, append-nil)

-- ---- out of `close_line`

-- of twelve bytes the last is the sum of the others
pub put_sum : (bytes : List ℕ) (s : ℕ) → length bytes ≡ 12 → s ≡ byte_sum (take 11 bytes) % 256 → set bytes 11 s ≡ with_sum (take 11 bytes)
unfolding with_sum
put_sum bytes s twelve h =
    let none : drop 12 bytes ≡ [] = drop_of_length-le bytes {i = 12} (omega arith) in
    set_split bytes 11 s (omega arith) ∙ rw (none, h)

module _ (bytes run : List ℕ) where
  pub close_length : (length run ≡ line_digits → ⊥) → (Err WrongLength ≡ result_by (close_refusal (length run)) (tt {0})) × (run ≡ closed bytes run)
  unfolding closed close_refusal
  close_length h = rw (ne_eqb (length run) line_digits h) (refl, refl)

  pub close_right : length run ≡ line_digits → (Ok tt ≡ result_by (close_refusal (length run)) (tt {0})) × (digits_of (with_sum (take 11 bytes)) ≡ closed bytes run)
  unfolding closed close_refusal
  close_right h = rw (eq-eqb (length run) line_digits h) (refl, refl)

-- a run that is taken has 24 places
pub closes : (n : ℕ) → close_refusal n ≡ 0 → n ≡ line_digits
unfolding close_refusal
closes n h = eqb-true n line_digits (all_passed ((eqb n line_digits, wrong_length) ∷ []) refl h).0

-- the bytes of an entry, and any twelfth
pub close_entry : (entry : Entry) (body run : List ℕ) (b : ℕ) → length run ≡ line_digits → body ≡ body_of entry → closed (body ++ (b ∷ [])) run ≡ line_of entry
unfolding line_of
close_entry entry body run b h e =
    sym (close_right (body ++ (b ∷ [])) run h).1
    ∙ ap (λ (l : List ℕ). digits_of (with_sum l)) (take_at body (b ∷ []) 11 (ap length e ∙ length_body entry) ∙ e)
