-- What stands between tokens: one separator is as good as another, several are as one, and a comment is as the line end after it. So columns parted by
-- spaces, tabs or commas, with carriage returns and comments, ask what the plain text asks. From any state both inputs lead to the same one, and what
-- stands before them leads both to the same state. Assumes nothing.
use Prim.Native.Nat.{ℕ}
use mathlib.Core.Path.{◌≡◌, refl, sym, ap₂, ◌∙◌, subst}
use mathlib.Core.Bool.{Bool, true, false, not, ◌&&◌, ◌||◌}
use mathlib.Core.List.{List, [], ◌∷◌, ◌++◌}
use lib.Dec.{eqb}
use lib.IntN.{ℤ}
use borrow.Author.Tests.{eqb-true, not-true}
use Rattle.whole.specs.Choice.{pick}
use Rattle.whole.proofs.Choice.{by_test, clash, and_both}
use Rattle.tokens.specs.Bytes.{line_byte, hash, separates, parts, is_letter}
use Rattle.tokens.specs.Tokens.{is_between, is_comment, begins_word, after}
use Rattle.asked.specs.Asking.{start_state, fault_in, finished, line_after, begins, stepped, state_next}
use Rattle.transcript.specs.Questions.{Posed, posed_of, numbers_with, numbers_stepped, questions_from, questions}
use Rattle.transcript.specs.Written.{all_of}
use Rattle.tokens.specs.declared.Token.{Token}
use Rattle.tokens.specs.declared.Token.TheVariants.{Between, Comment, Word, Sign, Number, Below, Other}
use Rattle.asked.specs.declared.Asked.{Asked}
use Rattle.asked.specs.declared.State.{State}

-- ---- a separator

record Parts (b : ℕ) : Type 0 where
  pub parts_it : parts b ≡ true
  pub no_letter : is_letter b ≡ false
  pub no_hash : eqb b hash ≡ false

one_of_five : (b : ℕ) → separates b ≡ true → Parts b
unfolding separates parts is_letter
one_of_five b e =
    by_test (eqb b 32) (λ (t : eqb b 32 ≡ true). at 32 t (record { parts_it = refl; no_letter = refl; no_hash = refl }))
    (λ (t₁ : eqb b 32 ≡ false).
    by_test (eqb b 9) (λ (t : eqb b 9 ≡ true). at 9 t (record { parts_it = refl; no_letter = refl; no_hash = refl }))
    (λ (t₂ : eqb b 9 ≡ false).
    by_test (eqb b 44) (λ (t : eqb b 44 ≡ true). at 44 t (record { parts_it = refl; no_letter = refl; no_hash = refl }))
    (λ (t₃ : eqb b 44 ≡ false).
    by_test (eqb b 13) (λ (t : eqb b 13 ≡ true). at 13 t (record { parts_it = refl; no_letter = refl; no_hash = refl }))
    (λ (t₄ : eqb b 13 ≡ false). at 10 (rw (t₁, t₂, t₃, t₄) at e) (record { parts_it = refl; no_letter = refl; no_hash = refl })))))
  where
    at : (k : ℕ) → eqb b k ≡ true → Parts k → Parts b
    at k t p = subst Parts (sym (eqb-true b k t)) p

-- one that ends no line
abbrev pub is_gap : ℕ → Bool
is_gap b = separates b && not (eqb b line_byte)

-- ---- what begins no question

no_third : (x y : Bool) → (x && (y && false)) ≡ false
no_third true true = refl
no_third true false = refl
no_third false true = refl
no_third false false = refl

no_begin : (s : State) (b : ℕ) → is_letter b ≡ false → begins s b ≡ false
unfolding begins begins_word
no_begin s b e = rw e (no_third s.asked.opened (is_between s.token))

no_second : (x y : Bool) → (x && (false && y)) ≡ false
no_second true y = refl
no_second false y = refl

-- ---- one step

-- after a gap
abbrev gapped : State → State
gapped s = record { asked = finished s.asked s.line s.token; token = pick (is_comment s.token) Comment Between; line = s.line }

from_gap : (s : State) (n : List ℤ) (b : ℕ) (ys : List ℕ) → is_gap b ≡ true
    → questions_from s n (b ∷ ys) ≡ questions_from (gapped s) (numbers_with s.asked.count s.token n) ys
unfolding stepped after line_after numbers_stepped
from_gap s n b ys e =
    let g = and_both (separates b) (not (eqb b line_byte)) e in
    let p = one_of_five b g.0 in
    rw (no_begin s b p.no_letter, p.parts_it, p.no_hash, not-true (eqb b line_byte) g.1)

-- a token that a separator changes nothing of
abbrev quiet : Token → Bool
quiet t = is_between t || is_comment t

record Unmoved (asked : Asked) (line : ℕ) (t : Token) (n : List ℤ) : Type 0 where
  pub asked_is : finished asked line t ≡ asked
  pub token_is : pick (is_comment t) Comment Between ≡ t
  pub numbers_is : numbers_with asked.count t n ≡ n

unmoved : (asked : Asked) (line : ℕ) (t : Token) (n : List ℤ) → quiet t ≡ true → Unmoved asked line t n
unfolding numbers_with fault_in
unmoved asked line Between n e = record { asked_is = refl; token_is = refl; numbers_is = refl }
unmoved asked line Comment n e = record { asked_is = refl; token_is = refl; numbers_is = refl }
unmoved asked line (Word code) n e = clash e
unmoved asked line Sign n e = clash e
unmoved asked line (Number size) n e = clash e
unmoved asked line (Below size) n e = clash e
unmoved asked line Other n e = clash e

idle : (s : State) (n : List ℤ) (b : ℕ) (ys : List ℕ) → quiet s.token ≡ true → is_gap b ≡ true → questions_from s n (b ∷ ys) ≡ questions_from s n ys
idle s n b ys q e =
    let w = unmoved s.asked s.line s.token n q in
    from_gap s n b ys e
    ∙ ap₂ (λ (x : State) (m : List ℤ). questions_from x m ys) (λ i. record { asked = w.asked_is i; token = w.token_is i; line = s.line }) w.numbers_is

quiet_after : (t : Token) (b : ℕ) → quiet (after t b) ≡ true
unfolding after
quiet_after t b =
    by_test (eqb b line_byte) (λ (u : eqb b line_byte ≡ true). rw u)
    (λ (u : eqb b line_byte ≡ false).
    by_test (eqb b hash || is_comment t)
    (λ (v : (eqb b hash || is_comment t) ≡ true). rw (u, v))
    (λ (v : (eqb b hash || is_comment t) ≡ false). rw (u, v)))

-- ---- what stands before

before : (xs u v : List ℕ) → ((s : State) (n : List ℤ) → questions_from s n u ≡ questions_from s n v)
    → (s : State) (n : List ℤ) → questions_from s n (xs ++ u) ≡ questions_from s n (xs ++ v)
before [] u v h s n = h s n
before (x ∷ xs) u v h s n =
    ap₂ (λ (p : List Posed) (q : List Posed). pick (begins s x) (posed_of s.asked n ∷ p) q)
    (before xs u v h (stepped (state_next s) x) []) (before xs u v h (stepped s x) (numbers_stepped s x n))

-- ---- the three laws

-- a space, a tab, a comma or a carriage return, whichever
pub alike : (xs : List ℕ) (b c : ℕ) (ys : List ℕ) → is_gap b ≡ true → is_gap c ≡ true → questions (xs ++ (b ∷ ys)) ≡ questions (xs ++ (c ∷ ys))
unfolding questions
alike xs b c ys e f = before xs (b ∷ ys) (c ∷ ys) (λ s n. from_gap s n b ys e ∙ sym (from_gap s n c ys f)) start_state []

-- one more after a separator or a line end
pub once : (xs : List ℕ) (b c : ℕ) (ys : List ℕ) → separates b ≡ true → is_gap c ≡ true → questions (xs ++ (b ∷ c ∷ ys)) ≡ questions (xs ++ (b ∷ ys))
unfolding questions stepped
once xs b c ys e f = before xs (b ∷ c ∷ ys) (b ∷ ys) step start_state []
  where
    step : (s : State) (n : List ℤ) → questions_from s n (b ∷ c ∷ ys) ≡ questions_from s n (b ∷ ys)
    step s n =
        let p = one_of_five b e in
        let q : quiet (stepped s b).token ≡ true = rw p.parts_it (quiet_after s.token b) in
        rw (no_begin s b p.no_letter) (idle (stepped s b) (numbers_stepped s b n) c ys q f)

-- a comment: bytes that end no line, from a state in one
module _ (asked : Asked) (line : ℕ) (n : List ℤ) where
  abbrev within : State
  within = record { asked = asked; token = Comment; line = line }

  commented : (c : ℕ) (ys : List ℕ) → eqb c line_byte ≡ false → questions_from within n (c ∷ ys) ≡ questions_from within n ys
  unfolding begins begins_word stepped after line_after numbers_stepped numbers_with fault_in
  commented c ys e =
      let b = no_second asked.opened (is_letter c) in
      by_test (parts c)
      (λ (t : parts c ≡ true).
      by_test (eqb c hash) (λ (u : eqb c hash ≡ true). rw (b, t, e, u)) (λ (u : eqb c hash ≡ false). rw (b, t, e, u)))
      (λ (t : parts c ≡ false). rw (b, t))

  in_comment : (cs ys : List ℕ) → all_of (λ c. not (eqb c line_byte)) cs ≡ true → questions_from within n (cs ++ ys) ≡ questions_from within n ys
  in_comment [] ys e = refl
  in_comment (c ∷ cs) ys e =
      let a = and_both (not (eqb c line_byte)) (all_of (λ c. not (eqb c line_byte)) cs) e in
      commented c (cs ++ ys) (not-true (eqb c line_byte) a.0) ∙ in_comment cs ys a.1

-- the `#`, and the line end after it
opens : (s : State) (n : List ℤ) (zs : List ℕ) → let a = finished s.asked s.line s.token in let m = numbers_with s.asked.count s.token n in
    questions_from s n (hash ∷ zs) ≡ questions_from (within a s.line m) m zs
unfolding is_letter parts separates stepped after line_after numbers_stepped
opens s n zs = rw (no_begin s hash refl)

closes : (s : State) (n : List ℤ) (ys : List ℕ) → let a = finished s.asked s.line s.token in let m = numbers_with s.asked.count s.token n in
    questions_from (within a s.line m) m (line_byte ∷ ys) ≡ questions_from s n (line_byte ∷ ys)
unfolding is_letter parts separates stepped after line_after numbers_stepped numbers_with fault_in
closes s n ys =
    let a = finished s.asked s.line s.token in
    let m = numbers_with s.asked.count s.token n in
    rw (no_begin (within a s.line m) line_byte refl, no_begin s line_byte refl)

pub comment : (xs cs ys : List ℕ) → all_of (λ c. not (eqb c line_byte)) cs ≡ true → questions (xs ++ (hash ∷ (cs ++ (line_byte ∷ ys)))) ≡ questions (xs ++ (line_byte ∷ ys))
unfolding questions
comment xs cs ys e = before xs (hash ∷ (cs ++ (line_byte ∷ ys))) (line_byte ∷ ys) step start_state []
  where
    step : (s : State) (n : List ℤ) → questions_from s n (hash ∷ (cs ++ (line_byte ∷ ys))) ≡ questions_from s n (line_byte ∷ ys)
    step s n =
        opens s n (cs ++ (line_byte ∷ ys))
        ∙ in_comment (finished s.asked s.line s.token) s.line (numbers_with s.asked.count s.token n) cs (line_byte ∷ ys) e
        ∙ closes s n ys
