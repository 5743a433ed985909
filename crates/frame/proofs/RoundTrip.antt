-- The round trips, over the definitions: an entry that the writer takes is read back from its line, and a line that reads is the line that the
-- writer writes. From the laws of lines and numbers. (proofs/Contracts.antt has both over the calls' contracts.) Assumes nothing.
use Prim.Native.Nat.{ℕ, ◌%◌, ◌^◌, ◌<◌}
use native.Mathlib.Omega.{arith}
use mathlib.Core.Path.{◌≡◌, refl, sym, ap, ◌∙◌, subst}
use mathlib.Core.Bool.{true}
use mathlib.Core.List.{List, [], ◌∷◌, ◌++◌}
use lib.IntN.{ℤ}
use lib.ListN.{length, take, drop, length-drop}
use lib.Seq.{take_at, length-take-le}
use mir.Syntax.{w64}
use mir.Val.{SFits}
use Rattle.std.specs.Prelude.{Ok, Err}
use Rattle.whole.proofs.Choice.{both_passed, all_passed}
use Rattle.units.specs.Refusals.{bad_kind, paper_number}
use Rattle.units.specs.declared.refusal.Refusal.{Refusal}
use Rattle.units.proofs.Numbered.{let_through, answer_is}
use Rattle.frame.specs.Digits.{digits_of, bytes_of}
use Rattle.frame.specs.Numbers.{bytes_in, number_of, twos_in, signed_in, byte_sum}
use Rattle.frame.specs.Frame.{line_digits, line_refusal, in_form, entry_of, read_refusal, reading_of, body_of, with_sum, line_of, write_refusal, written}
use Rattle.frame.specs.declared.Entry.{Entry}
use Rattle.frame.proofs.Numbers.{Bytes, bytes_take, bytes_drop, byte_at, bytes_are, length_bytes, number_bytes, bytes_number, number_below, signed_twos, twos_signed, twos_below, signed_below}
use Rattle.frame.proofs.Lines.{Sound, sound, opens, twelve, line_bytes, line_back, made_bytes, made_sound}
use Rattle.frame.proofs.Frames.{length_body, refusal_is, read_number, read_told, reading_entry, write_right, taken, takes}

-- the entry's fields lie in their types
pub record Held (entry : Entry) : Type 0 where
  pub kind : entry.kind < 256
  pub day : entry.day < 256
  pub hour : entry.hour < 256
  pub amount : SFits w64 entry.amount.0

-- ---- written, then read

body_bytes : (entry : Entry) → Held entry → Bytes (body_of entry)
unfolding body_of
body_bytes entry h = (h.kind, (h.day, (h.hour, bytes_are 8 (twos_in 8 entry.amount.0))))

entry_of_three : (k d h s : ℕ) (m : List ℕ) (z : ℤ) → length m ≡ 8 → signed_in 8 (number_of m) ≡ z
    → entry_of (k ∷ d ∷ h ∷ (m ++ (s ∷ []))) ≡ record { kind = k; day = d; hour = h; amount = record { 0 = z } }
unfolding entry_of
entry_of_three k d h s m z l e = rw (take_at m (s ∷ []) 8 l, e)

amount_back : (z : ℤ) → SFits w64 z → signed_in 8 (number_of (bytes_in 8 (twos_in 8 z))) ≡ z
amount_back z f = ap (signed_in 8) (number_bytes 8 (twos_in 8 z) (twos_below 8 z (omega (arith, f.sfits)))) ∙ signed_twos 7 z f.sfits

entry_back : (entry : Entry) → Held entry → entry_of (with_sum (body_of entry)) ≡ entry
unfolding with_sum body_of
entry_back entry h =
    entry_of_three entry.kind entry.day entry.hour (byte_sum (body_of entry) % 256) (bytes_in 8 (twos_in 8 entry.amount.0)) entry.amount.0
    (length_bytes 8 (twos_in 8 entry.amount.0)) (amount_back entry.amount.0 h.amount)

pub read_written : (entry : Entry) → Held entry → in_form entry ≡ true → reading_of (line_of entry) ≡ Ok entry
unfolding line_of
read_written entry h f =
    let body = body_of entry in
    let l = length_body entry in
    let b = body_bytes entry h in
    let e : entry_of (bytes_of (digits_of (with_sum body))) ≡ entry = ap entry_of (made_bytes body l b) ∙ entry_back entry h in
    sym (reading_entry (digits_of (with_sum body)) (opens (digits_of (with_sum body)) (made_sound body l b)) (ap in_form e ∙ f)) ∙ ap Ok e

-- the same of a lent run that the writer filled
pub read_filled : (entry : Entry) (run : List ℕ) → Held entry → write_refusal entry (length run) ≡ 0 → reading_of (written entry run) ≡ Ok entry
read_filled entry run h z = ap reading_of (sym (write_right entry run z)) ∙ read_written entry h (taken entry run z).1

-- ---- read, then written

-- what a line that reads as an entry has passed
pub record Passed (line : List ℕ) (entry : Entry) : Type 0 where
  pub sound : Sound line
  pub form : in_form entry ≡ true
  pub held : entry_of (bytes_of line) ≡ entry

pub passed : (line : List ℕ) (entry : Entry) → reading_of line ≡ Ok entry → Passed line entry
unfolding reading_of
passed line entry e =
    let x = entry_of (bytes_of line) in
    let f = answer_is (read_refusal line) x e in
    let b = both_passed (line_refusal line) _ (sym (read_number line) ∙ let_through (read_refusal line) x e) in
    let g = all_passed ((in_form x, bad_kind) ∷ []) refl b.1 in
    record { sound = sound line b.0; form = ap in_form (sym f) ∙ g.0; held = f }

-- and a line that does not has its refusal
pub refused : (line : List ℕ) (r : Refusal) → reading_of line ≡ Err r → (paper_number r ≡ read_refusal line) × (paper_number r ≡ 0 → ⊥)
unfolding reading_of
refused line r e = let n = read_told line r e in (n, λ z. (refusal_is (read_refusal line) (entry_of (bytes_of line)) e).0 (sym n ∙ z))

module _ (bs : List ℕ) (twelve : length bs ≡ 12) (bytes : Bytes bs) where
  amount_bytes : Bytes (take 8 (drop 3 bs))
  amount_bytes = bytes_take 8 (drop 3 bs) (bytes_drop 3 bs bytes)

  eight : length (take 8 (drop 3 bs)) ≡ 8
  eight = length-take-le 8 (drop 3 bs) (simp length-drop (omega arith))

  amount_below : number_of (take 8 (drop 3 bs)) < 256 ^ 8
  amount_below = subst (λ (n : ℕ). number_of (take 8 (drop 3 bs)) < 256 ^ n) eight (number_below (take 8 (drop 3 bs)) amount_bytes)

  entry_held : Held (entry_of bs)
  unfolding entry_of
  entry_held =
      record {
        kind = byte_at bs 0 bytes;
        day = byte_at bs 1 bytes;
        hour = byte_at bs 2 bytes;
        amount = record { sfits = signed_below 7 (number_of (take 8 (drop 3 bs))) amount_below };
      }

  amount_again : bytes_in 8 (twos_in 8 (signed_in 8 (number_of (take 8 (drop 3 bs))))) ≡ take 8 (drop 3 bs)
  amount_again =
      ap (bytes_in 8) (twos_signed 8 (number_of (take 8 (drop 3 bs))) amount_below)
      ∙ subst (λ (n : ℕ). bytes_in n (number_of (take 8 (drop 3 bs))) ≡ take 8 (drop 3 bs)) eight (bytes_number (take 8 (drop 3 bs)) amount_bytes)

body_again : (bs : List ℕ) → length bs ≡ 12 → Bytes bs → body_of (entry_of bs) ≡ take 11 bs
unfolding entry_of body_of
body_again [] l b = absurd (omega arith)
body_again (x ∷ []) l b = absurd (omega arith)
body_again (x ∷ y ∷ []) l b = absurd (omega arith)
body_again (x ∷ y ∷ z ∷ r) l b = ap (λ (t : List ℕ). x ∷ y ∷ z ∷ t) (amount_again (x ∷ y ∷ z ∷ r) l b)

module _ (line : List ℕ) (entry : Entry) (reads : reading_of line ≡ Ok entry) where
  pub read_held : Held entry
  read_held =
      let p = passed line entry reads in
      subst Held p.held (entry_held (bytes_of line) (twelve line p.sound) (line_bytes line p.sound))

  pub written_read : line_of entry ≡ line
  unfolding line_of
  written_read =
      let p = passed line entry reads in
      ap (λ (x : Entry). digits_of (with_sum (body_of x))) (sym p.held)
      ∙ ap (λ (b : List ℕ). digits_of (with_sum b)) (body_again (bytes_of line) (twelve line p.sound) (line_bytes line p.sound))
      ∙ line_back line p.sound

  -- the same of a lent run of 24 bytes
  pub filled_read : (run : List ℕ) → length run ≡ line_digits → (write_refusal entry (length run) ≡ 0) × (written entry run ≡ line)
  filled_read run l =
      let z = takes entry run l (passed line entry reads).form in
      (z, sym (write_right entry run z) ∙ written_read)
