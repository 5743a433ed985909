-- Lines are cut chunk by chunk as they are in the whole input, each kept up to 25 bytes; and no byte past them decides how a line reads.
-- By induction on the bytes. Assumes nothing.
use Prim.Native.Nat.{ℕ, suc, ◌+◌, ◌<◌, ◌≤◌, min}
use native.Mathlib.Omega.{arith}
use native.Mathlib.Numerals.{add-one}
use mathlib.Core.Path.{◌≡◌, refl, sym, ap, ◌∙◌}
use mathlib.Core.Bool.{Bool, true, false}
use mathlib.Core.List.{List, [], ◌∷◌, ◌++◌, append_assoc, append-nil}
use lib.Dec.{eqb, ltb}
use lib.ListN.{length, get_or, take, drop, set, length-append, length-set}
use lib.Seq.{take_all, take-append-le, take-suc-set, length-take-le}
use borrow.Author.Tests.{ne_eqb, lt-ltb, le-ltb, ltb-true, ltb-false}
use Rattle.whole.specs.Choice.{pick}
use Rattle.whole.proofs.Choice.{by_test}
use Rattle.whole.proofs.Runs.{rest, no_rest}
use Rattle.frame.specs.Frame.{read_refusal, reading_of}
use Rattle.lines.specs.Lines.{line_end, before_end}
use Rattle.intake.specs.Inner.{held_in, empty_line, pushed, kept_in, lines_in, left_in}
use Rattle.intake.specs.declared.Line.{Line}

-- ---- bytes kept one by one

pub kept_next : (line : Line) (more : List ℕ) (i : ℕ) → i < length more → kept_in line (drop i more) ≡ kept_in (pushed line (get_or more i 0)) (drop (i + 1) more)
kept_next line more i h = ap (kept_in line) (rest more i 0 h)

pub kept_done : (line : Line) (more : List ℕ) (i : ℕ) → length more ≤ i → kept_in line (drop i more) ≡ line
kept_done line more i h = ap (kept_in line) (no_rest more i h)

-- ---- a chunk is cut line by line: up to its first line end, and from there on

-- a test of a byte, told of both its outcomes
ends_by : (b : Bool) (x : ℕ) (xs : List ℕ) → length (pick b [] (x ∷ before_end xs)) < suc (length xs) → b ≡ false → length (before_end xs) < length xs
ends_by b x xs h e = let g : suc (length (before_end xs)) < suc (length xs) = rw e at h in omega arith

pub lines_cut : (line : Line) (xs : List ℕ) → length (before_end xs) < length xs
    → lines_in line xs ≡ held_in (kept_in line (before_end xs)) ∷ lines_in empty_line (drop (suc (length (before_end xs))) xs)
lines_cut line [] h = absurd (omega arith)
lines_cut line (x ∷ xs) h =
    by_test (eqb x line_end)
    (λ (t : eqb x line_end ≡ true). rw t)
    (λ (t : eqb x line_end ≡ false). rw t (lines_cut (pushed line x) xs (ends_by (eqb x line_end) x xs h t)))

pub left_cut : (line : Line) (xs : List ℕ) → length (before_end xs) < length xs
    → left_in line xs ≡ left_in empty_line (drop (suc (length (before_end xs))) xs)
left_cut line [] h = absurd (omega arith)
left_cut line (x ∷ xs) h =
    by_test (eqb x line_end)
    (λ (t : eqb x line_end ≡ true). rw t)
    (λ (t : eqb x line_end ≡ false). rw t (left_cut (pushed line x) xs (ends_by (eqb x line_end) x xs h t)))

-- no line end is left
no_end_lem : (x : ℕ) (xs : List ℕ) → suc (length xs) ≤ length (before_end (x ∷ xs)) → (eqb x line_end ≡ false) × (length xs ≤ length (before_end xs))
no_end_lem x xs h =
    by_test (eqb x line_end)
    (λ (t : eqb x line_end ≡ true). let z : suc (length xs) ≤ 0 = rw t at h in absurd (omega arith))
    (λ (t : eqb x line_end ≡ false). let z : suc (length xs) ≤ suc (length (before_end xs)) = rw t at h in (t, omega arith))

pub lines_none : (line : Line) (xs : List ℕ) → length xs ≤ length (before_end xs) → lines_in line xs ≡ []
lines_none line [] h = refl
lines_none line (x ∷ xs) h = let n = no_end_lem x xs h in rw n.0 (lines_none (pushed line x) xs n.1)

pub left_none : (line : Line) (xs : List ℕ) → length xs ≤ length (before_end xs) → left_in line xs ≡ kept_in line xs
left_none line [] h = refl
left_none line (x ∷ xs) h = let n = no_end_lem x xs h in rw n.0 (left_none (pushed line x) xs n.1)

-- ---- a line in its array, and the bytes that it stands for

pub record Shows (line : Line) (begun : List ℕ) : Type 0 where
  pub size : length line.bytes ≡ 25
  pub len : line.len ≡ min (length begun) 25
  pub held : held_in line ≡ take 25 begun

pub shows_empty : Shows empty_line []
unfolding empty_line held_in
shows_empty = record { size = refl; len = refl; held = refl }

-- an array of 25 with no byte kept
pub shows_none : (line : Line) → length line.bytes ≡ 25 → line.len ≡ 0 → Shows line []
unfolding held_in
shows_none line s e = record { size = s; len = e; held = rw e }

module _ (l : Line) (cur : List ℕ) (b : ℕ) (s : Shows l cur) where
  longer : length (cur ++ (b ∷ [])) ≡ length cur + 1
  longer = length-append cur (b ∷ [])

  push_held : l.len < 25 → take (l.len + 1) (set l.bytes l.len b) ≡ take 25 (cur ++ (b ∷ []))
  unfolding held_in
  push_held h =
      let n : l.len < length l.bytes = omega (arith, s.size) in
      let c : length cur ≤ 25 = omega (arith, s.len) in
      let d : length (cur ++ (b ∷ [])) ≤ 25 = omega (arith, s.len, longer) in
      rw (add-one, take-suc-set l.bytes l.len b n)
      (ap (λ (r : List ℕ). r ++ (b ∷ [])) (s.held ∙ take_all 25 cur c) ∙ sym (take_all 25 (cur ++ (b ∷ [])) d))

  push_room : l.len < 25 → Shows (pushed l b) (cur ++ (b ∷ []))
  unfolding pushed held_in
  push_room h = rw (lt-ltb l.len 25 h) (record {
    size = length-set l.bytes l.len b ∙ s.size;
    len = omega (arith, s.len, longer);
    held = push_held h;
  })

  push_full : 25 ≤ l.len → Shows (pushed l b) (cur ++ (b ∷ []))
  unfolding pushed
  push_full h = rw (le-ltb l.len 25 h) (record {
    size = s.size;
    len = omega (arith, s.len, longer);
    held = s.held ∙ sym (take-append-le 25 cur (b ∷ []) (omega (arith, s.len)));
  })

  pub shows_push : Shows (pushed l b) (cur ++ (b ∷ []))
  shows_push =
      by_test (ltb l.len 25)
      (λ (t : ltb l.len 25 ≡ true). push_room (ltb-true l.len 25 t))
      (λ (t : ltb l.len 25 ≡ false). push_full (ltb-false l.len 25 t))

pub shows_kept : (l : Line) (cur more : List ℕ) → Shows l cur → Shows (kept_in l more) (cur ++ more)
shows_kept l cur [] s = rw append-nil s
shows_kept l cur (b ∷ bs) s = rw append_assoc at (shows_kept (pushed l b) (cur ++ (b ∷ [])) bs (shows_push l cur b s))

-- ---- a byte past the 25th decides nothing

pub reading_kept : (l : List ℕ) → reading_of (take 25 l) ≡ reading_of l
unfolding reading_of read_refusal
reading_kept l =
    by_test (ltb 25 (length l))
    (λ (t : ltb 25 (length l) ≡ true).
    let h : 25 < length l = ltb-true 25 (length l) t in
    rw (ne_eqb (length (take 25 l)) 24 (λ e. omega (arith, length-take-le 25 l (omega arith))), ne_eqb (length l) 24 (λ e. omega arith)))
    (λ (t : ltb 25 (length l) ≡ false). let h : length l ≤ 25 = ltb-false 25 (length l) t in rw (take_all 25 l h))

-- a line read where it lies reads as the one that is kept
pub reading_here : (line : Line) (more : List ℕ) → length line.bytes ≡ 25 → line.len ≡ 0 → reading_of more ≡ reading_of (held_in (kept_in line more))
reading_here line more s e = sym (ap reading_of (shows_kept line [] more (shows_none line s e)).held ∙ reading_kept more)

-- the kept bytes as a part of the array
pub held_part : (line : Line) → length line.bytes ≡ 25 → take (min line.len 25) line.bytes ≡ held_in line
unfolding held_in
held_part line s =
    by_test (ltb line.len 25)
    (λ (t : ltb line.len 25 ≡ true). let h = ltb-true line.len 25 t in let m : min line.len 25 ≡ line.len = omega arith in rw m)
    (λ (t : ltb line.len 25 ≡ false).
    let h = ltb-false line.len 25 t in
    let m : min line.len 25 ≡ 25 = omega arith in
    rw m (take_all 25 line.bytes (omega arith) ∙ sym (take_all line.len line.bytes (omega arith))))
