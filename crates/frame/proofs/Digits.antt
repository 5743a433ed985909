-- Digits and values, bytes and their two digits, each way and back, for lines of any length; and what a loop over a line has left. A single
-- digit by computing every one of them, a line by induction. Assumes nothing.
use Prim.Native.Nat.{ℕ, ◌+◌, ◌-◌, ◌*◌, ◌/◌, ◌%◌, ◌<◌, ◌≤◌}
use native.Mathlib.Omega.{arith}
use native.Mathlib.Numerals.{add-one}
use mathlib.Core.Path.{◌≡◌, refl, sym, ap, ◌∙◌, subst}
use mathlib.Core.Bool.{Bool, true, false, not, ◌&&◌, ◌||◌, and-true}
use mathlib.Core.List.{List, [], ◌∷◌, ◌++◌, append_assoc, append-nil}
use lib.Dec.{ltb, eqb}
use lib.ListN.{length, get_or, take, drop, set, length-set}
use lib.Seq.{take-suc-set, take_all}
use borrow.Author.Tests.{le-ltb, le-leb, lt-leb, ltb-true, ltb-false, eqb-true}
use Rattle.whole.specs.Folds.{fold_to}
use Rattle.whole.proofs.Choice.{clash, and_both, by_test}
use Rattle.whole.proofs.Folds.{all_at}
use Rattle.whole.proofs.Runs.{rest, no_rest}
use Rattle.frame.specs.Digits.{hex_digit_of, hex_value_of, is_hex_digit, all_digits, digits_of, bytes_of}
use Rattle.frame.proofs.Numbers.{Bytes}

-- ---- one digit

-- a value below 16 has a digit, and is the value of that digit
pub digit_is : (v : ℕ) → v < 16 → is_hex_digit (hex_digit_of v) ≡ true
unfolding is_hex_digit hex_digit_of fold_to
digit_is v h = all_at 16 (λ v. is_hex_digit (hex_digit_of v)) refl v h

pub value_digit : (v : ℕ) → v < 16 → hex_value_of (hex_digit_of v) ≡ v
unfolding hex_value_of hex_digit_of fold_to
value_digit v h = eqb-true (hex_value_of (hex_digit_of v)) v (all_at 16 (λ v. eqb (hex_value_of (hex_digit_of v)) v) refl v h)

digit_below : (d : ℕ) → is_hex_digit d ≡ true → d < 71
unfolding is_hex_digit
digit_below d e =
    by_test (ltb d 71)
    (λ (t : ltb d 71 ≡ true). ltb-true d 71 t)
    (λ (t : ltb d 71 ≡ false).
    let h = ltb-false d 71 t in
    clash (simp (le-leb 48 d (omega arith), le-ltb d 58 (omega arith), le-leb 65 d (omega arith), t) at e))

pub digit_from : (d : ℕ) → is_hex_digit d ≡ true → 48 ≤ d
unfolding is_hex_digit
digit_from d e =
    by_test (ltb d 48)
    (λ (t : ltb d 48 ≡ true).
    let h = ltb-true d 48 t in
    clash (simp (lt-leb 48 d h, lt-leb 65 d (omega arith)) at e))
    (λ (t : ltb d 48 ≡ false). ltb-false d 48 t)

-- a digit has a value below 16, and is the digit of that value
abbrev Back : ℕ → Bool
Back d = ltb (hex_value_of d) 16 && eqb (hex_digit_of (hex_value_of d)) d

digit_back : (d : ℕ) → is_hex_digit d ≡ true → (ltb (hex_value_of d) 16 ≡ true) × (eqb (hex_digit_of (hex_value_of d)) d ≡ true)
unfolding is_hex_digit hex_value_of hex_digit_of fold_to
digit_back d e =
    and_both (ltb (hex_value_of d) 16) (eqb (hex_digit_of (hex_value_of d)) d)
    (subst (λ (t : Bool). not t || Back d ≡ true) e (all_at 71 (λ d. not (is_hex_digit d) || Back d) refl d (digit_below d e)))

pub value_below : (d : ℕ) → is_hex_digit d ≡ true → hex_value_of d < 16
value_below d e = ltb-true (hex_value_of d) 16 (digit_back d e).0

pub digit_value : (d : ℕ) → is_hex_digit d ≡ true → hex_digit_of (hex_value_of d) ≡ d
digit_value d e = eqb-true (hex_digit_of (hex_value_of d)) d (digit_back d e).1

-- ---- the digits of bytes

pub length_digits : (bs : List ℕ) → length (digits_of bs) ≡ 2 * length bs
length_digits [] = refl
length_digits (b ∷ bs) = omega (arith, length_digits bs)

pub digits_are : (bs : List ℕ) → Bytes bs → all_digits (digits_of bs) ≡ true
digits_are [] h = refl
digits_are (b ∷ bs) h =
    let p : b / 16 < 16 = omega arith in
    let q : b % 16 < 16 = omega arith in
    rw (digit_is (b / 16), digit_is (b % 16), digits_are bs h.1)

-- bytes are had again from their digits
pub bytes_digits : (bs : List ℕ) → Bytes bs → bytes_of (digits_of bs) ≡ bs
bytes_digits [] h = refl
bytes_digits (b ∷ bs) h =
    let p : b / 16 < 16 = omega arith in
    let q : b % 16 < 16 = omega arith in
    let r : b / 16 * 16 + b % 16 ≡ b = omega arith in
    rw (value_digit (b / 16), value_digit (b % 16), r, bytes_digits bs h.1)

-- ---- the bytes of digits

-- a line of digits: the first two, and the others
two_digits : (h l : ℕ) (ds : List ℕ) → all_digits (h ∷ l ∷ ds) ≡ true → (is_hex_digit h ≡ true) × (is_hex_digit l ≡ true) × (all_digits ds ≡ true)
two_digits h l ds a =
    let p = and_both (is_hex_digit h) (is_hex_digit l && all_digits ds) a in
    let q = and_both (is_hex_digit l) (all_digits ds) p.1 in
    (p.0, q.0, q.1)

pub length_bytes_of : (n : ℕ) (ds : List ℕ) → length ds ≡ 2 * n → length (bytes_of ds) ≡ n
length_bytes_of n [] e = omega arith
length_bytes_of n (h ∷ []) e = absurd (omega arith)
length_bytes_of n (h ∷ l ∷ ds) e = omega (arith, length_bytes_of (n - 1) ds (omega arith))

pub bytes_of_lem : (ds : List ℕ) → all_digits ds ≡ true → Bytes (bytes_of ds)
bytes_of_lem [] a = tt
bytes_of_lem (h ∷ []) a = tt
bytes_of_lem (h ∷ l ∷ ds) a =
    let t = two_digits h l ds a in
    (omega (arith, value_below h t.0, value_below l t.1), bytes_of_lem ds t.2)

-- digits are had again from their bytes
pub digits_bytes : (n : ℕ) (ds : List ℕ) → length ds ≡ 2 * n → all_digits ds ≡ true → digits_of (bytes_of ds) ≡ ds
digits_bytes n [] e a = refl
digits_bytes n (h ∷ []) e a = absurd (omega arith)
digits_bytes n (h ∷ l ∷ ds) e a =
    let t = two_digits h l ds a in
    let v = value_below l t.1 in
    let p : (hex_value_of h * 16 + hex_value_of l) / 16 ≡ hex_value_of h = omega arith in
    let q : (hex_value_of h * 16 + hex_value_of l) % 16 ≡ hex_value_of l = omega arith in
    rw (p, q, digit_value h t.0, digit_value l t.1, digits_bytes (n - 1) ds (omega arith) t.2)

-- ---- loops: a run that is filled from the front, with more to come

fill_next : (run : List ℕ) (i v : ℕ) (more : List ℕ) → i < length run → take (i + 1) (set run i v) ++ more ≡ take i run ++ (v ∷ more)
fill_next run i v more h = rw (add-one, take-suc-set, append_assoc)

fill_done : (run : List ℕ) (n : ℕ) → length run ≤ n → take n run ++ [] ≡ run
fill_done run n h = append-nil (take n run) ∙ take_all n run h

two_left : (l : List ℕ) (i : ℕ) → 2 * i + 1 < length l → drop (2 * i) l ≡ get_or l (2 * i) 0 ∷ get_or l (2 * i + 1) 0 ∷ drop (2 * (i + 1)) l
two_left l i h =
    let m : 2 * (i + 1) ≡ 2 * i + 1 + 1 = omega arith in
    rest l (2 * i) 0 (omega arith) ∙ rw (m, rest l (2 * i + 1) 0 h)

-- a line is decoded into a run, a byte from two digits
module _ (l run : List ℕ) (n i : ℕ) (even : length l ≡ 2 * n) (same : length run ≡ n) where
  abbrev high : ℕ
  high = get_or l (2 * i) 0

  abbrev low : ℕ
  low = get_or l (2 * i + 1) 0

  pub two_next : all_digits (drop (2 * i) l) ≡ true → i < length run → (is_hex_digit high ≡ true) × (is_hex_digit low ≡ true) × (all_digits (drop (2 * (i + 1)) l) ≡ true)
  two_next a h = two_digits high low (drop (2 * (i + 1)) l) (sym (ap all_digits (two_left l i (omega arith))) ∙ a)

  pub decode_next : take i run ++ bytes_of (drop (2 * i) l) ≡ bytes_of l → i < length run
      → take (i + 1) (set run i (hex_value_of high * 16 + hex_value_of low)) ++ bytes_of (drop (2 * (i + 1)) l) ≡ bytes_of l
  decode_next e h = fill_next run i _ _ h ∙ ap (λ (r : List ℕ). take i run ++ bytes_of r) (sym (two_left l i (omega arith))) ∙ e

  pub decode_done : take i run ++ bytes_of (drop (2 * i) l) ≡ bytes_of l → length run ≤ i → run ≡ bytes_of l
  decode_done e h =
      let none : drop (2 * i) l ≡ [] = no_rest l (2 * i) (omega arith) in
      sym (fill_done run i h) ∙ ap (λ (r : List ℕ). take i run ++ bytes_of r) (sym none) ∙ e

-- the digits of a line, tested one by one
and_next : (a b c : Bool) → a && (b && c) ≡ (a && b) && c
and_next true b c = refl
and_next false b c = refl

pub digits_next : (l : List ℕ) (i : ℕ) (all : Bool) → all_digits l ≡ all && all_digits (drop i l) → i < length l
    → all_digits l ≡ (all && is_hex_digit (get_or l i 0)) && all_digits (drop (i + 1) l)
digits_next l i all e h = e ∙ ap (λ (r : List ℕ). all && all_digits r) (rest l i 0 h) ∙ and_next all _ _

pub digits_done : (l : List ℕ) (i : ℕ) (all : Bool) → all_digits l ≡ all && all_digits (drop i l) → length l ≤ i → all ≡ all_digits l
digits_done l i all e h = sym (e ∙ ap (λ (r : List ℕ). all && all_digits r) (no_rest l i h) ∙ and-true all)

-- what `all_digits` goes by
pub ruleset testing = (digits_next, digits_done)

-- bytes are encoded into a run, two digits from a byte
module _ (bs run : List ℕ) (n i : ℕ) (even : n ≡ 2 * length bs) (same : length run ≡ n)
    (left : take (2 * i) run ++ digits_of (drop i bs) ≡ digits_of bs) where
  pub encode_next : i < length bs
      → take (2 * (i + 1)) (set (set run (2 * i) (hex_digit_of (get_or bs i 0 / 16))) (2 * i + 1) (hex_digit_of (get_or bs i 0 % 16))) ++ digits_of (drop (i + 1) bs) ≡ digits_of bs
  encode_next h =
      let m : 2 * (i + 1) ≡ 2 * i + 1 + 1 = omega arith in
      rw m
      (fill_next (set run (2 * i) _) (2 * i + 1) _ _ (simp length-set (omega arith))
      ∙ fill_next run (2 * i) _ _ (omega arith)
      ∙ ap (λ (r : List ℕ). take (2 * i) run ++ digits_of r) (sym (rest bs i 0 h))
      ∙ left)

  pub encode_done : length bs ≤ i → run ≡ digits_of bs
  encode_done h =
      sym (fill_done run (2 * i) (omega arith)) ∙ ap (λ (r : List ℕ). take (2 * i) run ++ digits_of r) (sym (no_rest bs i h)) ∙ left

-- what `encode` and `put_values` go by
pub ruleset encoding = (encode_next, encode_done)

pub ruleset decoding = (two_next, decode_next, decode_done)
