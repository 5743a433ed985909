-- The program's whole output is the transcript of its whole input, however the input was cut into chunks. By induction on the chunks. Assumes
-- nothing.
use Prim.Native.Nat.{ℕ, suc, ◌+◌, ◌≤◌, ◌<◌}
use mathlib.Core.Path.{◌≡◌, refl, sym, ap, ap₂, ◌∙◌}
use mathlib.Core.Bool.{Bool, true, false}
use mathlib.Core.List.{List, [], ◌∷◌, ◌++◌, map, append_assoc}
use native.Mathlib.Omega.{arith}
use lib.Dec.{eqb, ltb}
use lib.IntN.{ℤ, pos}
use lib.ListN.{length, take, replicate}
use borrow.Author.Tests.{eq-eqb, ne_eqb, ltb-true, ltb-false}
use Rattle.whole.specs.Choice.{pick}
use Rattle.whole.proofs.Choice.{by_test}
use Rattle.units.specs.Limits.{month_places}
use Rattle.history.specs.Board.{fresh}
use Rattle.head.proofs.Heads.{fresh_in}
use Rattle.lines.specs.Lines.{line_end, lines_after, lines_of}
use Rattle.intake.specs.Text.{total_text}
use Rattle.book.specs.Book.{Book}
use Rattle.intake.specs.Answers.{first_book, most_lines, answer_to, book_after, answers_to, book_after_all, book_total, ledger_transcript}
use Rattle.book.specs.Inner.{book_of}
use Rattle.book.proofs.Calls.{book_all}
use Rattle.intake.specs.Inner.{held_in, empty_line, pushed, lines_in, left_in, last_in, first_progress, chunk_text, chunk_book, chunk_state, last_text}
use Rattle.intake.specs.declared.Line.{Line}
use Rattle.intake.specs.declared.Progress.{Progress}
use Rattle.intake.proofs.Cutting.{Shows, shows_empty, shows_push, reading_kept}
use Rattle.account.specs.Account.{line_ends}
use Rattle.account.specs.Prints.{input_of}
use Rattle.intake.proofs.Counting.{answered_none, answered_one}

-- ---- past the most lines nothing is answered and nothing changes

pub ignored : (book : Book) (ls : List (List ℕ)) → most_lines ≤ book.count → (answers_to book ls ≡ []) × (book_after_all book ls ≡ book)
ignored book [] h = (refl, refl)
ignored book (l ∷ ls) h =
    let n = answered_none book l h in
    let i = ignored book ls h in (
      ap₂ (λ (s : List ℕ) (b : Book). s ++ answers_to b ls) n.0 n.1 ∙ i.0,
      ap (λ (b : Book). book_after_all b ls) n.1 ∙ i.1,
    )

-- ---- lines, one chunk after the other

append_by : (l m : Line) (xs ys : List ℕ) (t : Bool)
    → lines_in empty_line (xs ++ ys) ≡ lines_in empty_line xs ++ lines_in (left_in empty_line xs) ys → lines_in m (xs ++ ys) ≡ lines_in m xs ++ lines_in (left_in m xs) ys
    → pick t (held_in l ∷ lines_in empty_line (xs ++ ys)) (lines_in m (xs ++ ys))
    ≡ pick t (held_in l ∷ lines_in empty_line xs) (lines_in m xs) ++ lines_in (pick t (left_in empty_line xs) (left_in m xs)) ys
append_by l m xs ys true p q = ap (λ (r : List (List ℕ)). held_in l ∷ r) p
append_by l m xs ys false p q = q

lines_append : (l : Line) (xs ys : List ℕ) → lines_in l (xs ++ ys) ≡ lines_in l xs ++ lines_in (left_in l xs) ys
lines_append l [] ys = refl
lines_append l (x ∷ xs) ys = append_by l (pushed l x) xs ys (eqb x line_end) (lines_append empty_line xs ys) (lines_append (pushed l x) xs ys)

left_by_lem : (m : Line) (xs ys : List ℕ) (t : Bool) → left_in empty_line (xs ++ ys) ≡ left_in (left_in empty_line xs) ys → left_in m (xs ++ ys) ≡ left_in (left_in m xs) ys
    → pick t (left_in empty_line (xs ++ ys)) (left_in m (xs ++ ys)) ≡ left_in (pick t (left_in empty_line xs) (left_in m xs)) ys
left_by_lem m xs ys true p q = p
left_by_lem m xs ys false p q = q

left_append : (l : Line) (xs ys : List ℕ) → left_in l (xs ++ ys) ≡ left_in (left_in l xs) ys
left_append l [] ys = refl
left_append l (x ∷ xs) ys = left_by_lem (pushed l x) xs ys (eqb x line_end) (left_append empty_line xs ys) (left_append (pushed l x) xs ys)

-- all the lines of an input from a line that has begun
abbrev lines_from : Line → List ℕ → List (List ℕ)
lines_from l xs = lines_in l xs ++ last_in (left_in l xs)

-- they are the input's, each up to 25 bytes
last_by : (l : Line) (cur : List ℕ) → Shows l cur → last_in l ≡ map (take 25) (pick (eqb (length cur) 0) [] (cur ∷ []))
unfolding last_in
last_by l cur s =
    by_test (ltb 0 (length cur))
    (λ (t : ltb 0 (length cur) ≡ true).
    let h = ltb-true 0 (length cur) t in
    rw (ne_eqb (length cur) 0 (λ e. omega arith), ne_eqb l.len 0 (λ e. omega (arith, s.len)), s.held))
    (λ (t : ltb 0 (length cur) ≡ false).
    let h = ltb-false 0 (length cur) t in
    rw (eq-eqb (length cur) 0 (omega arith), eq-eqb l.len 0 (omega (arith, s.len))))

whole_by : (l m : Line) (cur more : List ℕ) (xs : List ℕ) (t : Bool) → held_in l ≡ take 25 cur
    → lines_from empty_line xs ≡ map (take 25) (lines_after [] xs)
    → lines_from m xs ≡ map (take 25) (lines_after more xs)
    → pick t (held_in l ∷ lines_in empty_line xs) (lines_in m xs) ++ last_in (pick t (left_in empty_line xs) (left_in m xs))
    ≡ map (take 25) (pick t (cur ∷ lines_after [] xs) (lines_after more xs))
whole_by l m cur more xs true h p q = rw (h, p)
whole_by l m cur more xs false h p q = q

whole : (l : Line) (cur xs : List ℕ) → Shows l cur → lines_from l xs ≡ map (take 25) (lines_after cur xs)
whole l cur [] s = last_by l cur s
whole l cur (x ∷ xs) s =
    whole_by l (pushed l x) cur (cur ++ (x ∷ [])) xs (eqb x line_end) s.held (whole empty_line [] xs shows_empty)
    (whole (pushed l x) (cur ++ (x ∷ [])) xs (shows_push l cur x s))

-- ---- what is answered to lines up to 25 bytes is what is answered to the lines

answer_kept : (book : Book) (l : List ℕ) → answer_to book (take 25 l) ≡ answer_to book l
unfolding answer_to
answer_kept book l = rw (reading_kept l)

book_kept_25 : (book : Book) (l : List ℕ) → book_after book (take 25 l) ≡ book_after book l
unfolding book_after
book_kept_25 book l = rw (reading_kept l)

answers_kept : (book : Book) (ls : List (List ℕ)) → answers_to book (map (take 25) ls) ≡ answers_to book ls
answers_kept book [] = refl
answers_kept book (l ∷ ls) =
    ap₂ (λ (s : List ℕ) (b : Book). s ++ answers_to b (map (take 25) ls)) (answer_kept book l) (book_kept_25 book l)
    ∙ ap (λ (r : List ℕ). answer_to book l ++ r) (answers_kept (book_after book l) ls)

books_kept : (book : Book) (ls : List (List ℕ)) → book_after_all book (map (take 25) ls) ≡ book_after_all book ls
books_kept book [] = refl
books_kept book (l ∷ ls) = ap (λ (b : Book). book_after_all b (map (take 25) ls)) (book_kept_25 book l) ∙ books_kept (book_after book l) ls

-- ---- lines answered one part after the other

answers_append : (book : Book) (ls ms : List (List ℕ)) → answers_to book (ls ++ ms) ≡ answers_to book ls ++ answers_to (book_after_all book ls) ms
answers_append book [] ms = refl
answers_append book (l ∷ ls) ms =
    ap (λ (r : List ℕ). answer_to book l ++ r) (answers_append (book_after book l) ls ms)
    ∙ sym (append_assoc (answer_to book l) (answers_to (book_after book l) ls) (answers_to (book_after_all (book_after book l) ls) ms))

books_append : (book : Book) (ls ms : List (List ℕ)) → book_after_all book (ls ++ ms) ≡ book_after_all (book_after_all book ls) ms
books_append book [] ms = refl
books_append book (l ∷ ls) ms = books_append (book_after book l) ls ms

-- ---- the program

-- what `feed` writes for chunk after chunk, each from the state and the two runs that the one before left, and then what `finish` writes
abbrev pub output_from : Progress → List Bool → List ℤ → List (List ℕ) → List ℕ
output_from state marks amounts [] = last_text state marks amounts
output_from state marks amounts (c ∷ cs) =
    chunk_text state c marks amounts
    ++ output_from (chunk_state state c marks amounts) (chunk_book state c marks amounts).board.marks (chunk_book state c marks amounts).board.amounts cs

abbrev ends_with : Book → List (List ℕ) → List ℕ
ends_with book ls = answers_to book ls ++ total_text (book_total (book_after_all book ls))

ends_append : (book : Book) (ls ms : List (List ℕ)) → ends_with book (ls ++ ms) ≡ answers_to book ls ++ ends_with (book_after_all book ls) ms
ends_append book ls ms =
    ap₂ (λ (s : List ℕ) (b : Book). s ++ total_text (book_total b)) (answers_append book ls ms) (books_append book ls ms)
    ∙ append_assoc (answers_to book ls) (answers_to (book_after_all book ls) ms) (total_text (book_total (book_after_all (book_after_all book ls) ms)))

from_append : (l : Line) (xs ys : List ℕ) → lines_from l (xs ++ ys) ≡ lines_in l xs ++ lines_from (left_in l xs) ys
from_append l xs ys = rw (lines_append l xs ys, left_append l xs ys, append_assoc)

output_is : (state : Progress) (marks : List Bool) (amounts : List ℤ) (cs : List (List ℕ))
    → output_from state marks amounts cs ≡ ends_with (book_of state.cover marks amounts) (lines_from state.line (input_of cs))
output_is state marks amounts [] = refl
output_is state marks amounts (c ∷ cs) =
    let book = book_of state.cover marks amounts in
    let ls = lines_in state.line c in
    ap (λ (r : List ℕ). answers_to book ls ++ r)
    (output_is (chunk_state state c marks amounts) (chunk_book state c marks amounts).board.marks (chunk_book state c marks amounts).board.amounts cs
    ∙ ap (λ (b : Book). ends_with b (lines_from (left_in state.line c) (input_of cs))) (book_all (chunk_book state c marks amounts)))
    ∙ sym (ap (ends_with book) (from_append state.line c (input_of cs)) ∙ ends_append book ls (lines_from (left_in state.line c) (input_of cs)))

-- a transcript, by the lines as they are kept
kept_transcript : (input : List ℕ) → ends_with first_book (lines_from empty_line input) ≡ ledger_transcript input
unfolding ledger_transcript
kept_transcript input =
    ap (ends_with first_book) (whole empty_line [] input shows_empty)
    ∙ ap₂ (λ (s : List ℕ) (b : Book). s ++ total_text (book_total b)) (answers_kept first_book (lines_of input)) (books_kept first_book (lines_of input))

-- the first state and a month's empty places are the first book
pub first_book_lem : book_of first_progress.cover (replicate month_places false) (replicate month_places (pos 0)) ≡ first_book
unfolding first_progress fresh
first_book_lem i = record { count = 0; opened = false; days = 0; board = fresh_in 0 i }

-- "Given .. it prints": from the first state and a month's empty places, any cutting of an input gives its transcript
pub output_transcript : (cs : List (List ℕ)) → output_from first_progress (replicate month_places false) (replicate month_places (pos 0)) cs ≡ ledger_transcript (input_of cs)
unfolding first_progress fresh
output_transcript cs =
    output_is first_progress (replicate month_places false) (replicate month_places (pos 0)) cs
    ∙ ap (λ (b : Book). ends_with b (lines_from empty_line (input_of cs))) first_book_lem
    ∙ kept_transcript (input_of cs)

-- ---- "It reads at most 1,000,000 lines and ignores the rest": once they have ended no further byte changes the transcript, also inside a line

ended_lines : (l : Line) (xs : List ℕ) → length (lines_in l xs) ≡ line_ends xs
ended_lines l [] = refl
ended_lines l (x ∷ xs) =
    by_test (eqb x line_end)
    (λ (t : eqb x line_end ≡ true). rw t (ap suc (ended_lines empty_line xs)))
    (λ (t : eqb x line_end ≡ false). rw t (ended_lines (pushed l x) xs))

count_next : (book : Book) (l : List ℕ) → (most_lines ≤ book.count → most_lines ≤ (book_after book l).count) × (book.count < most_lines → (book_after book l).count ≡ book.count + 1)
count_next book l = (
  λ h. let n = ap (λ (b : Book). b.count) (answered_none book l h).1 in omega arith,
  λ h. ap (λ (b : Book). b.count) (answered_one book l h).1,
)

count_all : (book : Book) (ls : List (List ℕ)) → most_lines ≤ book.count + length ls → most_lines ≤ (book_after_all book ls).count
count_all book [] h = omega arith
count_all book (l ∷ ls) h =
    by_test (ltb book.count most_lines)
    (λ (t : ltb book.count most_lines ≡ true).
    let n = (count_next book l).1 (ltb-true book.count most_lines t) in count_all (book_after book l) ls (omega arith))
    (λ (t : ltb book.count most_lines ≡ false).
    let n = (count_next book l).0 (ltb-false book.count most_lines t) in count_all (book_after book l) ls (omega arith))

-- what the lines that ended have printed, and the total
ended_with : (xs : List ℕ) (ms : List (List ℕ)) → most_lines ≤ line_ends xs →
    let done = lines_in empty_line xs in
    ends_with first_book (done ++ ms) ≡ answers_to first_book done ++ total_text (book_total (book_after_all first_book done))
ended_with xs ms h =
    let done = lines_in empty_line xs in
    let book = book_after_all first_book done in
    let i = ignored book ms (count_all first_book done (omega (arith, ended_lines empty_line xs))) in
    ends_append first_book done ms
    ∙ ap₂ (λ (s : List ℕ) (b : Book). answers_to first_book done ++ (s ++ total_text (book_total b))) i.0 i.1

pub ended : (xs ys : List ℕ) → most_lines ≤ line_ends xs → ledger_transcript (xs ++ ys) ≡ ledger_transcript xs
ended xs ys h =
    sym (kept_transcript (xs ++ ys))
    ∙ ap (ends_with first_book) (from_append empty_line xs ys)
    ∙ ended_with xs (lines_from (left_in empty_line xs) ys) h
    ∙ sym (ended_with xs (last_in (left_in empty_line xs)) h)
    ∙ kept_transcript xs
