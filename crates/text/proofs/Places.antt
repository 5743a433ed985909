-- A text put at a place of a run: two texts put one after the other are their join put once. Assumes nothing.
use Prim.Native.Nat.{ℕ, ◌+◌, ◌-◌, ◌≤◌, ◌<◌}
use mathlib.Core.Path.{◌≡◌, sym, ap, ap₂, ◌∙◌}
use mathlib.Core.Bool.{true, false}
use mathlib.Core.List.{List, [], ◌∷◌, ◌++◌, append_assoc}
use native.Mathlib.Nat.{add-zero, add_assoc}
use native.Mathlib.Omega.{arith}
use lib.Dec.{leb}
use lib.ListN.{length, take, drop, replicate, length-append, length-drop, take-append-drop}
use lib.Seq.{take_at, drop-append-add, drop-drop, length-take-le}
use borrow.Rule.Slice.PartMut.{put_mid, Post-is}
use borrow.Author.Tests.{le-leb, lt-leb, leb-true, leb-false}
use Rattle.whole.proofs.Choice.{by_test}
use Rattle.text.specs.Text.{put, fits, place_after, with_text}

drop_past : (p q : List ℕ) (n m : ℕ) → length p ≡ n → drop (n + m) (p ++ q) ≡ drop m q
drop_past p q n m e = rw (← e) (drop-append-add p q m)

pub put_nothing : (out : List ℕ) (at : ℕ) → put out at [] ≡ out
unfolding put
put_nothing out at = rw add-zero (take-append-drop at out)

-- with a text put, the run is as long as before
pub length_put : (out : List ℕ) (at : ℕ) (text : List ℕ) → at + length text ≤ length out → length (put out at text) ≡ length out
unfolding put
length_put out at text h =
    let a : length (take at out) ≡ at = length-take-le at out (omega arith) in
    let d = length-drop (at + length text) out in
    simp (length-append) (omega arith)

module _ (out : List ℕ) (at : ℕ) (s : List ℕ) (h : at + length s ≤ length out) where
  before : List ℕ
  before = take at out ++ s

  length_before : length before ≡ at + length s
  unfolding before
  length_before = length-append (take at out) s ∙ ap (λ (k : ℕ). k + length s) (length-take-le at out (omega arith))

  parted : put out at s ≡ before ++ drop (at + length s) out
  unfolding put before
  parted = sym (append_assoc (take at out) s (drop (at + length s) out))

  -- what stands up to the place after the text
  pub put_front : take (at + length s) (put out at s) ≡ take at out ++ s
  unfolding before
  put_front = ap (take (at + length s)) parted ∙ take_at before (drop (at + length s) out) (at + length s) length_before

module _ (out : List ℕ) (at : ℕ) (s t : List ℕ) (h : at + length s ≤ length out) where
  pub put_put : put (put out at s) (at + length s) t ≡ put out at (s ++ t)
  unfolding put before
  put_put = go (put out at s) (parted out at s h)
    where
      go : (r : List ℕ) → r ≡ before out at s h ++ drop (at + length s) out → put r (at + length s) t ≡ put out at (s ++ t)
      go r e =
          rw (e, take_at (before out at s h) (drop (at + length s) out) (at + length s) (length_before out at s h), drop_past (before out at s h) (drop (at + length s) out) (at + length s) (length t) (length_before out at s h), drop-drop, length-append, append_assoc, append_assoc, add_assoc)

-- a text put after another, each with the place after it
pub put_then : (out mid last : List ℕ) (at a b : ℕ) (s t : List ℕ) → at + length s ≤ length out
    → a ≡ at + length s → mid ≡ put out at s → b ≡ a + length t → last ≡ put mid a t
    → (b ≡ at + length (s ++ t)) × (last ≡ put out at (s ++ t))
put_then out mid last at a b s t h p q p₂ q₂ =
    (p₂ ∙ omega (arith, length-append s t), q₂ ∙ ap₂ (λ (m : List ℕ) (k : ℕ). put m k t) q p ∙ put_put out at s t h)

-- a text copied into the part of the run that it takes
pub copied : (out : List ℕ) (at : ℕ) (text : List ℕ) → put_mid at (at + length text - at) out text ≡ put out at text
unfolding put
copied out at text = ap (λ (r : List ℕ). take at out ++ (text ++ r)) (Post-is at (at + length text) out (omega arith))

-- ---- a text that fits, and one that does not

-- the test without a sum that could pass 64 bits
pub fits_not : (room at long : ℕ) → room < at → leb (at + long) room ≡ false
fits_not room at long h = lt-leb (at + long) room (omega arith)

pub fits_from : (room at long : ℕ) → at ≤ room → leb long (room - at) ≡ fits room at long
fits_from room at long h =
    by_test (leb long (room - at))
    (λ (t : leb long (room - at) ≡ true). let g = leb-true long (room - at) t in t ∙ sym (le-leb (at + long) room (omega arith)))
    (λ (t : leb long (room - at) ≡ false). let g = leb-false long (room - at) t in t ∙ sym (lt-leb (at + long) room (omega arith)))

pub ruleset fitting = (fits_not, fits_from)

module _ (out : List ℕ) (at : ℕ) (text : List ℕ) (h : at + length text ≤ length out) where
  pub place_fits_lem : place_after out at text ≡ at + length text
  unfolding place_after
  place_fits_lem = rw (le-leb (at + length text) (length out) h)

  pub text_fits : with_text out at text ≡ put out at text
  unfolding with_text
  text_fits = rw (le-leb (at + length text) (length out) h)

module _ (out : List ℕ) (at : ℕ) (text : List ℕ) (h : length out < at + length text) where
  pub place_same : place_after out at text ≡ at
  unfolding place_after
  place_same = rw (lt-leb (at + length text) (length out) h)

  pub text_same : with_text out at text ≡ out
  unfolding with_text
  text_same = rw (lt-leb (at + length text) (length out) h)

-- what `put` goes by
pub ruleset putting = (place_fits_lem, text_fits, place_same, text_same, copied, leb-true, leb-false)

-- the length of the run is what it was
pub length_with : (out : List ℕ) (at : ℕ) (text : List ℕ) → length (with_text out at text) ≡ length out
length_with out at text =
    by_test (leb (at + length text) (length out))
    (λ (t : leb (at + length text) (length out) ≡ true). let h = leb-true (at + length text) (length out) t in ap length (text_fits out at text h) ∙ length_put out at text h)
    (λ (t : leb (at + length text) (length out) ≡ false). let h = leb-false (at + length text) (length out) t in ap length (text_same out at text h))

-- a text where it fits, with the place after it; and another after it: they are their join
pub with_first : (out mid : List ℕ) (at a : ℕ) (s : List ℕ) → at + length s ≤ length out
    → a ≡ place_after out at s → mid ≡ with_text out at s → (a ≡ at + length s) × (mid ≡ put out at s)
with_first out mid at a s h p q = (p ∙ place_fits_lem out at s h, q ∙ text_fits out at s h)

pub with_then : (out mid last : List ℕ) (at a b : ℕ) (s t : List ℕ) → at + length (s ++ t) ≤ length out
    → a ≡ at + length s → mid ≡ put out at s → b ≡ place_after mid a t → last ≡ with_text mid a t
    → (b ≡ at + length (s ++ t)) × (last ≡ put out at (s ++ t))
with_then out mid last at a b s t h p q p₂ q₂ =
    let l = length-append s t in
    let m = ap length q ∙ length_put out at s (omega arith) in
    let g : a + length t ≤ length mid = omega arith in
    put_then out mid last at a b s t (omega arith) p q (p₂ ∙ place_fits_lem mid a t g) (q₂ ∙ text_fits mid a t g)

-- digits after a sign, in a run of signs
module _ (digits : List ℕ) (h : length digits ≤ 20) where
  pub minus_place : place_after (replicate 21 45) 1 digits ≡ 1 + length digits
  minus_place = place_fits_lem (replicate 21 45) 1 digits (omega arith)

  pub minus_text : take (1 + length digits) (with_text (replicate 21 45) 1 digits) ≡ 45 ∷ digits
  minus_text = ap (take (1 + length digits)) (text_fits (replicate 21 45) 1 digits (omega arith)) ∙ put_front (replicate 21 45) 1 digits (omega arith)
