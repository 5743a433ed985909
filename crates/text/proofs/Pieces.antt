-- A line that is put piece by piece from the start of a run: each piece after those before it. By the laws of places. Assumes nothing.
use Prim.Native.Nat.{ℕ, ◌+◌, ◌≤◌}
use mathlib.Core.Path.{◌≡◌, sym, ap₂, ◌∙◌}
use mathlib.Core.List.{List, ◌++◌}
use native.Mathlib.Nat.{zero-add}
use native.Mathlib.Omega.{arith}
use lib.ListN.{length, take, length-append}
use lib.Seq.{take-append_seam}
use Rattle.text.specs.Text.{put, place_after, with_text}
use Rattle.text.proofs.Places.{place_fits_lem, text_fits, put_then, with_then}

-- what stands at the start of a run, and the place after it
abbrev pub Begun : List ℕ → List ℕ → List ℕ → ℕ → Type 0
Begun out text mid a = (a ≡ length text) × (mid ≡ put out 0 text)

pub begin : (out mid : List ℕ) (a : ℕ) (s : List ℕ) → length s ≤ length out → a ≡ place_after out 0 s → mid ≡ with_text out 0 s → Begun out s mid a
begin out mid a s h p q =
    let g : 0 + length s ≤ length out = omega arith in
    (p ∙ place_fits_lem out 0 s g ∙ zero-add (length s), q ∙ text_fits out 0 s g)

-- one piece more
pub more : (out mid last : List ℕ) (a b : ℕ) (s t : List ℕ) → length s + length t ≤ length out → Begun out s mid a
    → b ≡ place_after mid a t → last ≡ with_text mid a t → Begun out (s ++ t) last b
more out mid last a b s t h e p q =
    let l = length-append s t in
    let w = with_then out mid last 0 a b s t (omega arith) (e.0 ∙ sym (zero-add (length s))) e.1 p q in
    (w.0 ∙ zero-add (length (s ++ t)), w.1)

-- the same of a piece that is known to fit
pub further : (out mid last : List ℕ) (a b : ℕ) (s t : List ℕ) → length s ≤ length out → Begun out s mid a
    → b ≡ a + length t → last ≡ put mid a t → Begun out (s ++ t) last b
further out mid last a b s t h e p q =
    let w = put_then out mid last 0 a b s t (omega arith) (e.0 ∙ sym (zero-add (length s))) e.1 p q in
    (w.0 ∙ zero-add (length (s ++ t)), w.1)

-- what was put is read back
pub front_put : (out text : List ℕ) → take (length text) (put out 0 text) ≡ text
unfolding put
front_put out text = take-append_seam text _

pub begun_front : (out text : List ℕ) {mid : List ℕ} {a : ℕ} → Begun out text mid a → take a mid ≡ text
begun_front out text b = ap₂ take b.0 b.1 ∙ front_put out text
