-- The round trips, over the definitions: a second and a pair's bits are read back from their line, and a line that reads is the line that the writer writes. From the laws of lines and
-- numbers of the ledger's frames, for any width. (proofs/Contracts.antt has both over the calls' contracts.) Assumes nothing.
use Prim.Native.Nat.{ℕ, ◌+◌, ◌^◌, ◌<◌}
use native.Mathlib.Omega.{arith}
use mathlib.Core.Path.{◌≡◌, refl, sym, ap, ◌∙◌, subst}
use mathlib.Core.List.{List, [], ◌∷◌, ◌++◌}
use lib.Dec.{eqb}
use lib.ListN.{length, get_or, take, drop, length-drop}
use lib.Seq.{length-take-le, take-add, drop-drop}
use borrow.Author.Tests.{eqb-true}
use Rattle.std.specs.Prelude.{Ok}
use Rattle.whole.proofs.Choice.{both_passed, all_passed}
use Rattle.units.proofs.Numbered.{same_answer}
use Rattle.units.specs.Refusals.{bad_kind}
use Rattle.frame.specs.Digits.{digits_of, bytes_of}
use Rattle.frame.specs.Numbers.{bytes_in}
use Rattle.frame.specs.Frame.{line_digits, line_refusal, with_sum, closed}
use Rattle.frame.proofs.Numbers.{Bytes, bytes_take, bytes_drop, bytes_append, bytes_are, number_bytes, bytes_number}
use Rattle.frame.proofs.Lines.{Sound, sound, opens, twelve, line_bytes, line_back, made_bytes, made_sound}
use Rattle.frame.proofs.Frames.{close_right}
use Rattle.pair_frame.specs.PairFrame.{pair_kind, number_at, second_in, frequency_in, power_in, sent_refusal, sent_in, sent_of, pair_body, pair_line}
use Rattle.pair_frame.specs.declared.Sent.{Sent}
use Rattle.pair_frame.proofs.PairFrames.{sent_number, sent_right, sent_none}

abbrev pub sent : ℕ → ℕ → ℕ → Sent
sent second f p = record { second = second; frequency = f; power = p }

-- ---- written, then read

module _ (second f p : ℕ) where
  body_bytes : Bytes (pair_body second f p)
  body_bytes = (omega arith, bytes_append (bytes_in 2 second) (bytes_in 4 f ++ bytes_in 4 p) (bytes_are 2 second) (bytes_append (bytes_in 4 f) (bytes_in 4 p) (bytes_are 4 f) (bytes_are 4 p)))

  line_is : bytes_of (pair_line second f p) ≡ with_sum (pair_body second f p)
  line_is = made_bytes (pair_body second f p) refl body_bytes

  pub read_written : second < 2 ^ 16 → f < 2 ^ 32 → p < 2 ^ 32 → sent_of (pair_line second f p) ≡ Ok (sent second f p)
  unfolding sent_in with_sum
  read_written h g k =
      let line = pair_line second f p in
      let e = opens line (made_sound (pair_body second f p) refl body_bytes) in
      let a : second_in (bytes_of line) ≡ second = ap second_in line_is ∙ number_bytes 2 second h in
      let b : frequency_in (bytes_of line) ≡ f = ap frequency_in line_is ∙ number_bytes 4 f g in
      let c : power_in (bytes_of line) ≡ p = ap power_in line_is ∙ number_bytes 4 p k in
      sym (sent_right line e (ap (λ (l : List ℕ). get_or l 0 0) line_is)) ∙ rw (a, b, c)

  -- the same of a lent run that the writer filled
  pub read_filled : (run : List ℕ) → length run ≡ line_digits → second < 2 ^ 16 → f < 2 ^ 32 → p < 2 ^ 32 → sent_of (closed (pair_body second f p) run) ≡ Ok (sent second f p)
  read_filled run l h g k = ap sent_of (sym (close_right (pair_body second f p) run l).1) ∙ read_written h g k

-- ---- read, then written

module _ (line : List ℕ) (second f p : ℕ) (reads : sent_of line ≡ Ok (sent second f p)) where
  number_none : sent_refusal line ≡ 0
  number_none = sent_none line (sent second f p) reads

  passed : Sound line × (get_or (bytes_of line) 0 0 ≡ pair_kind)
  passed =
      let b = both_passed (line_refusal line) _ (sym (sent_number line) ∙ number_none) in
      let g = all_passed ((eqb (get_or (bytes_of line) 0 0) pair_kind, bad_kind) ∷ []) refl b.1 in
      (sound line b.0, eqb-true (get_or (bytes_of line) 0 0) pair_kind g.0)

  held : sent_in (bytes_of line) ≡ sent second f p
  held = let s = passed in same_answer (sent_right line (opens line s.0) s.1 ∙ reads)

-- a part of bytes is the bytes of its number
part_again : (bs : List ℕ) (at n : ℕ) → at + n < length bs → Bytes bs → bytes_in n (number_at at n bs) ≡ take n (drop at bs)
part_again bs at n h b =
    let l : length (take n (drop at bs)) ≡ n = length-take-le n (drop at bs) (simp length-drop (omega arith)) in
    subst (λ (m : ℕ). bytes_in m (number_at at n bs) ≡ take n (drop at bs)) l (bytes_number (take n (drop at bs)) (bytes_take n (drop at bs) (bytes_drop at bs b)))

-- three parts that follow each other are one
abbrev joined : List ℕ → List ℕ → List ℕ → List ℕ
joined a b c = pair_kind ∷ (a ++ (b ++ c))

parts_joined : (x : ℕ) (r : List ℕ) → x ≡ pair_kind → joined (take 2 r) (take 4 (drop 2 r)) (take 4 (drop 6 r)) ≡ x ∷ take 10 r
parts_joined x r e =
    let a = take-add 4 4 (drop 2 r) in
    let b = take-add 2 8 r in
    let d = drop-drop 4 2 r in
    rw (e, b, a, d)

body_again : (bs : List ℕ) → length bs ≡ 12 → get_or bs 0 0 ≡ pair_kind → Bytes bs → pair_body (second_in bs) (frequency_in bs) (power_in bs) ≡ take 11 bs
body_again [] l k b = absurd (omega arith)
body_again (x ∷ r) l k b =
    let bs = x ∷ r in
    let second = part_again bs 1 2 (omega arith) b in
    let f = part_again bs 3 4 (omega arith) b in
    let p = part_again bs 7 4 (omega arith) b in
    ap (λ (y : List ℕ). joined y (bytes_in 4 (frequency_in bs)) (bytes_in 4 (power_in bs))) second
    ∙ ap (λ (y : List ℕ). joined (take 2 r) y (bytes_in 4 (power_in bs))) f
    ∙ ap (joined (take 2 r) (take 4 (drop 2 r))) p
    ∙ parts_joined x r k

module _ (line : List ℕ) (second f p : ℕ) (reads : sent_of line ≡ Ok (sent second f p)) where
  pub written_read : pair_line second f p ≡ line
  unfolding sent_in
  written_read =
      let s = passed line second f p reads in
      let bs = bytes_of line in
      let h = held line second f p reads in
      let a : second_in bs ≡ second = ap (λ (s : Sent). s.second) h in
      let b : frequency_in bs ≡ f = ap (λ (s : Sent). s.frequency) h in
      let c : power_in bs ≡ p = ap (λ (s : Sent). s.power) h in
      rw (sym a, sym b, sym c) (ap (λ (x : List ℕ). digits_of (with_sum x)) (body_again bs (twelve line s.0) s.1 (line_bytes line s.0)) ∙ line_back line s.0)

  pub filled_read : (run : List ℕ) → length run ≡ line_digits → closed (pair_body second f p) run ≡ line
  filled_read run l = sym (close_right (pair_body second f p) run l).1 ∙ written_read
