-- Document 01, "Frames": a line is 24 digits, twelve bytes: kind, day, hour, eight bytes of amount, and the sum of these eleven modulo 256.
use Rattle.std.specs.Prelude.{ℕ, ◌%◌, Bool, false, ◌&&◌, ◌||◌, List, [], ◌∷◌, ◌++◌, Result, eqb, ℤ, pos, negsuc, length, get_or, take, drop}
use Rattle.whole.specs.Choice.{in_order, kept}
use Rattle.units.specs.Refusals.{wrong_length, bad_digit, bad_sum, bad_kind, result_by}
use Rattle.units.specs.declared.refusal.Refusal.{Refusal}
use Rattle.units.specs.Units.{dollars}
use Rattle.frame.specs.Digits.{all_digits, digits_of, bytes_of}
use Rattle.frame.specs.Numbers.{bytes_in, number_of, twos_in, signed_in, byte_sum}
use Rattle.frame.specs.Kinds.{is_kind, uses_day, uses_hour, uses_amount}
use Rattle.frame.specs.declared.Entry.{Entry}

-- ---- any line: its twelve bytes, the last of them the sum of the others

abbrev pub line_digits : ℕ
line_digits = 24

unfoldable pub checked : List ℕ → Bool
checked bytes = eqb (byte_sum (take 11 bytes) % 256) (get_or bytes 11 0)

-- refused with 1, 11, 12, in this order
abbrev pub line_tests : List ℕ → List (Bool × ℕ)
line_tests line = (eqb (length line) line_digits, wrong_length) ∷ (all_digits line, bad_digit) ∷ (checked (bytes_of line), bad_sum) ∷ []

unfoldable pub line_refusal : List ℕ → ℕ
line_refusal line = in_order (line_tests line)

unfoldable pub opened_of : List ℕ → Result (List ℕ) Refusal
opened_of line = result_by (line_refusal line) (bytes_of line)

-- ---- any line, written: eleven bytes and their sum

unfoldable pub with_sum : List ℕ → List ℕ
with_sum body = body ++ (byte_sum body % 256 ∷ [])

-- refused with 1 for a lent run of another length
unfoldable pub close_refusal : ℕ → ℕ
close_refusal n = in_order ((eqb n line_digits, wrong_length) ∷ [])

-- what is left in the lent run: of twelve bytes the first eleven, and their sum
unfoldable pub closed : List ℕ → List ℕ → List ℕ
closed bytes run = kept (close_refusal (length run)) (digits_of (with_sum (take 11 bytes))) run

-- ---- an entry's form: the kind is known, and a field that it does not use is zero

abbrev pub is_zero : ℤ → Bool
is_zero (pos n) = eqb n 0
is_zero (negsuc n) = false

unfoldable pub in_form : Entry → Bool
in_form entry =
    is_kind entry.kind
    && (uses_day entry.kind || eqb entry.day 0)
    && (uses_hour entry.kind || eqb entry.hour 0)
    && (uses_amount entry.kind || is_zero entry.amount.0)

-- ---- the reader

unfoldable pub entry_of : List ℕ → Entry
entry_of bytes =
    record {
      kind = get_or bytes 0 0;
      day = get_or bytes 1 0;
      hour = get_or bytes 2 0;
      amount = dollars (signed_in 8 (number_of (take 8 (drop 3 bytes))));
    }

-- refused as any line is, then with 13
unfoldable pub read_refusal : List ℕ → ℕ
read_refusal line = in_order (line_tests line ++ ((in_form (entry_of (bytes_of line)), bad_kind) ∷ []))

-- the reader's answer by the paper's number: 0 is a frame with its entry, any other is that refusal
unfoldable pub reading_of : List ℕ → Result Entry Refusal
reading_of line = result_by (read_refusal line) (entry_of (bytes_of line))

-- ---- the writer

unfoldable pub body_of : Entry → List ℕ
body_of entry = entry.kind ∷ entry.day ∷ entry.hour ∷ bytes_in 8 (twos_in 8 entry.amount.0)

-- the line of an entry
unfoldable pub line_of : Entry → List ℕ
line_of entry = digits_of (with_sum (body_of entry))

-- refused with 1 for a lent run of another length, then with 13
unfoldable pub write_refusal : Entry → ℕ → ℕ
write_refusal entry n = in_order ((eqb n line_digits, wrong_length) ∷ (in_form entry, bad_kind) ∷ [])

-- what is left in the lent run
unfoldable pub written : Entry → List ℕ → List ℕ
written entry run = kept (write_refusal entry (length run)) (line_of entry) run
