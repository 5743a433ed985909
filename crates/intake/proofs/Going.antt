-- A chunk is answered line by line: what is left, after what is done, gives the whole. Assumes nothing.
use Prim.Native.Nat.{ℕ, suc, ◌+◌, ◌-◌, ◌<◌, ◌≤◌}
use native.Mathlib.Omega.{arith}
use mathlib.Core.Path.{◌≡◌, refl, sym, ap, ap₂, subst, ◌∙◌}
use mathlib.Core.Bool.{Bool, true, false}
use mathlib.Core.List.{List, [], ◌∷◌, ◌++◌, append-nil}
use lib.Dec.{eqb}
use borrow.Author.Tests.{eq-eqb, ne_eqb}
use Rattle.whole.specs.Choice.{pick}
use Rattle.whole.proofs.Choice.{clash}
use lib.ListN.{length, take, drop, length-append, length-drop}
use lib.Seq.{drop-drop}
use borrow.Author.Rules.{part_to_end}
use Rattle.lines.specs.Lines.{before_end}
use Rattle.lines.proofs.Lines.{before_take}
use Rattle.intake.specs.Inner.{held_in, empty_line, kept_in, lines_in, left_in, last_in}
use Rattle.text.specs.Text.{put}
use Rattle.book.specs.Book.{Book}
use Rattle.intake.specs.Answers.{answer_to, book_after, answers_to, book_after_all}
use Rattle.intake.specs.declared.Line.{Line}
use Rattle.text.proofs.Places.{put_put, put_nothing}
use Rattle.intake.proofs.Cutting.{lines_cut, left_cut, lines_none, left_none}

-- of lines `all` from a book and a place in out, `ls` are left at the book, place and run of now
pub record Left (first : Book) (all : List (List ℕ)) (run : List ℕ) (start : ℕ) (book : Book) (ls : List (List ℕ)) (out : List ℕ) (at : ℕ) : Type 0 where
  pub books : book_after_all first all ≡ book_after_all book ls
  pub place : start + length (answers_to first all) ≡ at + length (answers_to book ls)
  pub text : put run start (answers_to first all) ≡ put out at (answers_to book ls)

pub left_start : (book : Book) (ls : List (List ℕ)) (out : List ℕ) (at : ℕ) → Left book ls out at book ls out at
left_start book ls out at = record { books = refl; place = refl; text = refl }

module _ (first : Book) (all : List (List ℕ)) (run : List ℕ) (start : ℕ) where
  pub left_next : (book next : Book) (line : List ℕ) (ls : List (List ℕ)) (out after : List ℕ) (at to : ℕ)
      → Left first all run start book (line ∷ ls) out at → at + length (answer_to book line) ≤ length out
      → next ≡ book_after book line → to ≡ at + length (answer_to book line) → after ≡ put out at (answer_to book line)
      → Left first all run start next ls after to
  left_next book next line ls out after at to l h n p q =
      let s = answer_to book line in
      let t = answers_to (book_after book line) ls in
      let g = length-append s t in
      record {
        books = l.books ∙ ap (λ (b : Book). book_after_all b ls) (sym n);
        place = l.place ∙ (let e : at + length (s ++ t) ≡ to + length t = omega arith in e) ∙ ap (λ (b : Book). to + length (answers_to b ls)) (sym n);
        text = l.text ∙ sym (put_put out at s t h) ∙ ap₂ (λ (r : List ℕ) (k : ℕ). put r k t) (sym q) (sym p) ∙ ap (λ (b : Book). put after to (answers_to b ls)) (sym n);
      }

  pub left_done : (book : Book) (out : List ℕ) (at : ℕ) → Left first all run start book [] out at
      → (book ≡ book_after_all first all) × ((at ≡ start + length (answers_to first all)) × (out ≡ put run start (answers_to first all)))
  left_done book out at l = (sym l.books, (omega (arith, l.place), sym (l.text ∙ put_nothing out at)))

-- ---- the next line of a chunk, and none

module _ (line : Line) (chunk : List ℕ) (from end : ℕ) (e : end ≡ from + length (before_end (drop from chunk))) where
  more : end < length chunk → length (before_end (drop from chunk)) < length (drop from chunk)
  more h = omega (arith, length-drop from chunk)

  part : take (end - from) (drop from chunk) ≡ before_end (drop from chunk)
  part = let n : end - from ≡ length (before_end (drop from chunk)) = omega arith in rw n (before_take (drop from chunk))

  past : drop (suc (length (before_end (drop from chunk)))) (drop from chunk) ≡ drop (end + 1) chunk
  past = let n : from + suc (length (before_end (drop from chunk))) ≡ end + 1 = omega arith in drop-drop _ from chunk ∙ ap (λ (k : ℕ). drop k chunk) n

  pub lines_go : end < length chunk → lines_in line (drop from chunk) ≡ held_in (kept_in line (take (end - from) (drop from chunk))) ∷ lines_in empty_line (drop (end + 1) chunk)
  lines_go h = lines_cut line (drop from chunk) (more h) ∙ ap₂ (λ (x y : List ℕ). held_in (kept_in line x) ∷ lines_in empty_line y) (sym part) past

  pub left_go : end < length chunk → left_in line (drop from chunk) ≡ left_in empty_line (drop (end + 1) chunk)
  left_go h = left_cut line (drop from chunk) (more h) ∙ ap (left_in empty_line) past

  pub lines_stop : length chunk ≤ end → lines_in line (drop from chunk) ≡ []
  lines_stop h = lines_none line (drop from chunk) (omega (arith, length-drop from chunk))

  pub left_stop : length chunk ≤ end → left_in line (drop from chunk) ≡ kept_in line (take (length chunk - from) (drop from chunk))
  left_stop h = left_none line (drop from chunk) (omega (arith, length-drop from chunk)) ∙ ap (kept_in line) (sym (part_to_end chunk from))

-- the next line of a chunk answered: the others are left
pub left_line : (first : Book) (all : List (List ℕ)) (run : List ℕ) (start : ℕ) (book next : Book) (line begun : Line) (chunk : List ℕ) (from end : ℕ) (out after : List ℕ) (at to : ℕ)
    → end ≡ from + length (before_end (drop from chunk)) → end < length chunk → begun ≡ empty_line
    → Left first all run start book (lines_in line (drop from chunk)) out at →
    let held = held_in (kept_in line (take (end - from) (drop from chunk))) in
    at + length (answer_to book held) ≤ length out → next ≡ book_after book held → to ≡ at + length (answer_to book held) → after ≡ put out at (answer_to book held)
    → Left first all run start next (lines_in begun (drop (end + 1) chunk)) after to
left_line first all run start book next line begun chunk from end out after at to e l b left h n p q =
    let held = held_in (kept_in line (take (end - from) (drop from chunk))) in
    let ls = lines_in empty_line (drop (end + 1) chunk) in
    let cut = subst (λ (r : List (List ℕ)). Left first all run start book r out at) (lines_go line chunk from end e l) left in
    subst (λ (x : Line). Left first all run start next (lines_in x (drop (end + 1) chunk)) after to) (sym b)
    (left_next first all run start book next held ls out after at to cut h n p q)

-- no line more: all are answered
pub left_all : (first : Book) (all : List (List ℕ)) (run : List ℕ) (start : ℕ) (book : Book) (line : Line) (chunk : List ℕ) (from end : ℕ) (out : List ℕ) (at : ℕ)
    → end ≡ from + length (before_end (drop from chunk)) → length chunk ≤ end
    → Left first all run start book (lines_in line (drop from chunk)) out at
    → (book ≡ book_after_all first all) × ((at ≡ start + length (answers_to first all)) × (out ≡ put run start (answers_to first all)))
left_all first all run start book line chunk from end out at e l left =
    left_done first all run start book out at
    (subst (λ (r : List (List ℕ)). Left first all run start book r out at) (lines_stop line chunk from end e l) left)

-- ---- the line at the input's end

module _ (book : Book) (line : Line) where
  pub last_none : line.len ≡ 0 → (book_after_all book (last_in line) ≡ book) × (answers_to book (last_in line) ≡ [])
  unfolding last_in
  last_none e = ends (eqb line.len 0) (eq-eqb line.len 0 e)
    where
      ends : (t : Bool) → t ≡ true → (book_after_all book (pick t [] (held_in line ∷ [])) ≡ book) × (answers_to book (pick t [] (held_in line ∷ [])) ≡ [])
      ends true q = (refl, refl)
      ends false q = clash q

  pub last_some : (line.len ≡ 0 → ⊥) → (book_after_all book (last_in line) ≡ book_after book (held_in line)) × (answers_to book (last_in line) ≡ answer_to book (held_in line))
  unfolding last_in
  last_some e = ends (eqb line.len 0) (ne_eqb line.len 0 e)
    where
      ends : (t : Bool) → t ≡ false →
          (book_after_all book (pick t [] (held_in line ∷ [])) ≡ book_after book (held_in line)) × (answers_to book (pick t [] (held_in line ∷ [])) ≡ answer_to book (held_in line))
      ends true q = clash (sym q)
      ends false q = (refl, append-nil (answer_to book (held_in line)))

  -- the same one by one, as `last_line` comes to it
  pub last_book_none : line.len ≡ 0 → book_after_all book (last_in line) ≡ book
  last_book_none e = (last_none e).0

  pub last_answers_none : line.len ≡ 0 → answers_to book (last_in line) ≡ []
  last_answers_none e = (last_none e).1

  pub last_book_some : (line.len ≡ 0 → ⊥) → book_after_all book (last_in line) ≡ book_after book (held_in line)
  last_book_some e = (last_some e).0

  pub last_answers_some : (line.len ≡ 0 → ⊥) → answers_to book (last_in line) ≡ answer_to book (held_in line)
  last_answers_some e = (last_some e).1

pub ruleset last_one = (last_book_none, last_answers_none, last_book_some, last_answers_some, put_nothing)
