-- Lines are cut one by one: the first is what stands before the first line end, and the others are those of what stands after it; and they are counted by
-- their ends. By induction on the bytes. Assumes nothing.
use Prim.Native.Nat.{ℕ, suc, ◌+◌, ◌-◌, ◌<◌, ◌≤◌}
use native.Mathlib.Omega.{arith}
use mathlib.Core.Path.{◌≡◌, refl, sym, ap, ◌∙◌}
use mathlib.Core.Bool.{Bool, true, false, not, ◌&&◌, and-true, and_assoc}
use mathlib.Core.List.{List, [], ◌∷◌, ◌++◌, append_assoc, append-nil}
use lib.Dec.{eqb, ltb}
use lib.ListN.{length, get_or, take, drop, length-append, length-drop, take-append-drop}
use lib.Seq.{drop-drop, length-take-le, take-length}
use borrow.Author.Tests.{ne_eqb, ltb-false}
use Rattle.std.specs.List.{position, position_or_len}
use Rattle.std.specs.Option.{unwrap_or}
use Rattle.std.proofs.lemmas.List.Recursion.{is_position_or_len}
use Rattle.whole.specs.Choice.{pick}
use Rattle.whole.proofs.Choice.{by_test, clash}
use Rattle.whole.proofs.Runs.{rest, no_rest}
use Rattle.lines.specs.Lines.{line_end, lines_after, lines_of, before_end}
use Rattle.lines.specs.Inner.{ends_of, is_begun, no_end}

-- ---- where a line ends

-- the place that `position` finds, or the length where it finds none
pub first_place : (xs : List ℕ) → length (before_end xs) ≡ position_or_len (λ b. eqb b line_end) xs
first_place = is_position_or_len (λ xs. length (before_end xs)) (λ b. eqb b line_end) refl (λ x xs. by_test (eqb x line_end) (λ (t : eqb x line_end ≡ true). rw t) (λ (t : eqb x line_end ≡ false). rw t (omega arith)))

pub before_le : (xs : List ℕ) → length (before_end xs) ≤ length xs
before_le [] = omega arith
before_le (x ∷ xs) =
    by_test (eqb x line_end)
    (λ (t : eqb x line_end ≡ true). rw t (omega arith))
    (λ (t : eqb x line_end ≡ false). rw t (omega (arith, before_le xs)))

-- what `first_end` goes by: where no byte passes, the line goes to the end
pub first_or_all : (xs : List ℕ) → unwrap_or (position (λ b. eqb b line_end) xs) (length xs) ≡ length (before_end xs)
first_or_all xs =
    let n = position_or_len (λ b. eqb b line_end) xs in
    by_test (ltb n (length xs))
    (λ (t : ltb n (length xs) ≡ true). rw t (sym (first_place xs)))
    (λ (t : ltb n (length xs) ≡ false). rw t (omega (arith, ltb-false n (length xs) t, first_place xs, before_le xs)))

-- past the bytes no line begins
pub none_left : (bytes : List ℕ) (from : ℕ) → length bytes < from → length (before_end (drop from bytes)) ≡ 0
none_left bytes from h = rw (no_rest bytes from (omega arith))

-- and `line_end`, with what stands from a place to the end
pub to_the_end : (bytes : List ℕ) (from : ℕ) → take (length bytes - from) (drop from bytes) ≡ drop from bytes
to_the_end bytes from = ap (λ (k : ℕ). take k (drop from bytes)) (sym (length-drop from bytes)) ∙ take-length (drop from bytes)

pub ruleset past = (none_left, before_le, to_the_end)

pub before_take : (xs : List ℕ) → take (length (before_end xs)) xs ≡ before_end xs
before_take [] = refl
before_take (x ∷ xs) =
    by_test (eqb x line_end)
    (λ (t : eqb x line_end ≡ true). rw t)
    (λ (t : eqb x line_end ≡ false). rw t (ap (λ (r : List ℕ). x ∷ r) (before_take xs)))

-- ---- bytes without a line end

module _ (bytes : List ℕ) (i : ℕ) (none : Bool) (e : no_end bytes ≡ none && no_end (drop i bytes)) where
  pub no_end_next : i < length bytes → no_end bytes ≡ (none && not (eqb (get_or bytes i 0) line_end)) && no_end (drop (i + 1) bytes)
  no_end_next h = e ∙ ap (λ (r : List ℕ). none && no_end r) (rest bytes i 0 h) ∙ sym (and_assoc none _ _)

  pub no_end_done : length bytes ≤ i → none ≡ no_end bytes
  no_end_done h = sym (e ∙ ap (λ (r : List ℕ). none && no_end r) (no_rest bytes i h) ∙ and-true none)

-- what `no_end` goes by
pub ruleset testing = (no_end_next, no_end_done)

-- such bytes stand before the first line end with what follows
before_append : (xs ys : List ℕ) → no_end xs ≡ true → length (before_end (xs ++ ys)) ≡ length xs + length (before_end ys)
before_append [] ys e = omega arith
before_append (x ∷ xs) ys e =
    by_test (eqb x line_end)
    (λ (t : eqb x line_end ≡ true). let z : ◌≡◌ {A = Bool} false true = rw t at e in clash z)
    (λ (t : eqb x line_end ≡ false). let z : no_end xs ≡ true = rw t at e in rw t (omega (arith, before_append xs ys z)))

pub before_past : (n : ℕ) (bytes : List ℕ) → n ≤ length bytes → no_end (take n bytes) ≡ true
    → length (before_end bytes) ≡ n + length (before_end (drop n bytes))
before_past n bytes h e =
    let long = ap (λ (l : List ℕ). length (before_end l)) (sym (take-append-drop n bytes)) ∙ before_append (take n bytes) (drop n bytes) e in
    let block = length-take-le n bytes h in
    omega (arith, long, block)

-- ---- the first line, and the others

pub lines_next : (begun xs : List ℕ) → 0 < length begun + length xs
    → lines_after begun xs ≡ (begun ++ before_end xs) ∷ lines_of (drop (suc (length (before_end xs))) xs)
lines_next begun [] h = rw (ne_eqb (length begun) 0 (λ e. omega arith), append-nil)
lines_next begun (x ∷ xs) h =
    by_test (eqb x line_end)
    (λ (t : eqb x line_end ≡ true). rw (t, append-nil))
    (λ (t : eqb x line_end ≡ false).
    rw t (lines_next (begun ++ (x ∷ [])) xs (omega (arith, length-append begun (x ∷ []))) ∙ rw append_assoc))

pub lines_first : (xs : List ℕ) → 0 < length xs → lines_of xs ≡ before_end xs ∷ lines_of (drop (suc (length (before_end xs))) xs)
lines_first xs h = lines_next [] xs (omega arith)

-- ---- how many there are

-- the lines that end in bytes, and one more where a line is begun at their end
abbrev pub ends_in : Bool → List ℕ → ℕ
ends_in begun [] = pick begun 1 0
ends_in begun (b ∷ bs) = pick (eqb b line_end) 1 0 + ends_in (not (eqb b line_end)) bs

begun_more : (begun : List ℕ) (b : ℕ) → not (eqb (length (begun ++ (b ∷ []))) 0) ≡ true
begun_more begun b = rw (ne_eqb (length (begun ++ (b ∷ []))) 0 (λ e. omega (arith, length-append begun (b ∷ []))))

counts_begun : (t : Bool) (begun : List ℕ) → eqb (length begun) 0 ≡ t → length (pick t [] (begun ∷ [])) ≡ pick (not t) 1 0
counts_begun true begun e = refl
counts_begun false begun e = refl

pub counts : (begun xs : List ℕ) → length (lines_after begun xs) ≡ ends_in (not (eqb (length begun) 0)) xs
counts begun [] = counts_begun (eqb (length begun) 0) begun refl
counts begun (x ∷ xs) =
    by_test (eqb x line_end)
    (λ (t : eqb x line_end ≡ true). let e = counts [] xs in rw t (omega arith))
    (λ (t : eqb x line_end ≡ false). let e = counts (begun ++ (x ∷ [])) xs ∙ ap (λ (s : Bool). ends_in s xs) (begun_more begun x) in rw t (omega (arith, e)))

-- whether a line is begun at the end is up to the last byte
begun_last : (x : ℕ) (xs : List ℕ) → is_begun (x ∷ xs) ≡ not (eqb (get_or (x ∷ xs) (length xs) 0) line_end)
begun_last x xs =
    let last : suc (length xs) - 1 ≡ length xs = omega arith in
    rw (ne_eqb (suc (length xs)) 0 (λ e. absurd (omega arith)), last)

begun_next : (x : ℕ) (xs : List ℕ) → is_begun (x ∷ xs) ≡ pick (eqb (length xs) 0) (not (eqb x line_end)) (is_begun xs)
begun_next x [] = refl
begun_next x (y ∷ ys) = begun_last x (y ∷ ys) ∙ sym (begun_last y ys) ∙ rw (ne_eqb (suc (length ys)) 0 (λ e. absurd (omega arith)))

-- the line ends, and one more where a line is begun at the end
ends_begun : (begun : Bool) (xs : List ℕ) → ends_in begun xs ≡ ends_of xs + pick (pick (eqb (length xs) 0) begun (is_begun xs)) 1 0
ends_begun begun [] = omega arith
ends_begun begun (x ∷ xs) =
    let e = ends_begun (not (eqb x line_end)) xs in
    let some = ne_eqb (suc (length xs)) 0 (λ e. absurd (omega arith)) in
    let last = ap (λ (t : Bool). pick t begun (is_begun (x ∷ xs))) some ∙ begun_next x xs in
    omega (arith, e, ap {B = ℕ} (λ (t : Bool). pick t 1 0) last)

begun_none : (t z : Bool) → pick t false (pick t false z) ≡ pick t false z
begun_none true z = refl
begun_none false z = refl

pub ends_all : (xs : List ℕ) → length (lines_of xs) ≡ ends_of xs + pick (is_begun xs) 1 0
ends_all xs = counts [] xs ∙ ends_begun false xs ∙ ap (λ (t : Bool). ends_of xs + pick t 1 0) (begun_none (eqb (length xs) 0) _)

pub ends_most : (xs : List ℕ) → ends_of xs ≤ length xs
ends_most [] = omega arith
ends_most (x ∷ xs) =
    by_test (eqb x line_end)
    (λ (t : eqb x line_end ≡ true). rw t (omega (arith, ends_most xs)))
    (λ (t : eqb x line_end ≡ false). rw t (omega (arith, ends_most xs)))

pub ends_append : (xs ys : List ℕ) → ends_of (xs ++ ys) ≡ ends_of xs + ends_of ys
ends_append [] ys = omega arith
ends_append (x ∷ xs) ys = omega (arith, ends_append xs ys)

module _ (bytes : List ℕ) (i : ℕ) where
  pub ends_next : i < length bytes → ends_of (drop i bytes) ≡ pick (eqb (get_or bytes i 0) line_end) 1 0 + ends_of (drop (i + 1) bytes)
  ends_next h = ap ends_of (rest bytes i 0 h)

  pub ends_done : length bytes ≤ i → ends_of (drop i bytes) ≡ 0
  ends_done h = ap ends_of (no_rest bytes i h)

-- what `ends_in` goes by
pub ruleset counting = (ends_next, ends_done)

-- and `count`, a run after the other
pub ruleset by_runs = (ends_append, ends_most, ends_all)

-- ---- line by line: the lines from the i-th on are those of the bytes from a place on

some_bytes : (xs : List ℕ) → 0 < length (lines_of xs) → 0 < length xs
some_bytes [] h = absurd (omega arith)
some_bytes (x ∷ xs) h = omega arith

module _ (bytes : List ℕ) (i from : ℕ) (more : i < length (lines_of bytes)) (here : drop i (lines_of bytes) ≡ lines_of (drop from bytes)) where
  abbrev long : ℕ
  long = length (before_end (drop from bytes))

  left_lines : get_or (lines_of bytes) i [] ∷ drop (i + 1) (lines_of bytes) ≡ lines_of (drop from bytes)
  left_lines = sym (rest (lines_of bytes) i [] more) ∙ here

  left_bytes : 0 < length (drop from bytes)
  left_bytes = some_bytes (drop from bytes) (rw (sym left_lines) (omega arith))

  cut_here : get_or (lines_of bytes) i [] ∷ drop (i + 1) (lines_of bytes) ≡ before_end (drop from bytes) ∷ lines_of (drop (suc long) (drop from bytes))
  cut_here = left_lines ∙ lines_first (drop from bytes) left_bytes

  -- the line lies in the run, and it is the bytes from there to its end
  pub line_inside : from + long ≤ length bytes
  line_inside = omega (arith, before_le (drop from bytes), length-drop from bytes, left_bytes)

  pub line_here : take (from + long - from) (drop from bytes) ≡ get_or (lines_of bytes) i []
  line_here =
      let n : from + long - from ≡ long = omega arith in
      ap (λ (k : ℕ). take k (drop from bytes)) n ∙ before_take (drop from bytes) ∙ sym (head_of_lem cut_here)
    where
      head_of_lem : {x y : List ℕ} {xs ys : List (List ℕ)} → x ∷ xs ≡ y ∷ ys → x ≡ y
      head_of_lem e = cc

  -- and the next lines are those of the bytes after it
  pub lines_after_lem : drop (i + 1) (lines_of bytes) ≡ lines_of (drop (from + long + 1) bytes)
  lines_after_lem =
      let k : from + suc long ≡ from + long + 1 = omega arith in
      tail_of cut_here ∙ ap lines_of (drop-drop (suc long) from bytes ∙ ap (λ (k : ℕ). drop k bytes) k)
    where
      tail_of : {x y : List ℕ} {xs ys : List (List ℕ)} → x ∷ xs ≡ y ∷ ys → xs ≡ ys
      tail_of e = cc
