-- The reply over the contract as the toolchain reads it: whatever meets `reply`'s contract and is accepted has put the question's text at the start
-- of the lent run, and says how long it is. The contract is made of equations, so that this follows from the definitions. Assumes nothing.
use Prim.Native.Nat.{ℕ}
use mathlib.Core.Path.{◌≡◌, sym, ap, ap₂, ◌∙◌}
use mathlib.Core.Bool.{true, false}
use mathlib.Core.List.{List}
use native.Mathlib.Omega.{arith}
use lib.Dec.{leb}
use lib.IntN.{ℤ}
use lib.ListN.{length, take}
use lib.Seq.{take-append_seam}
use Rattle.whole.proofs.Choice.{by_test}
use Rattle.text.specs.Text.{put}
use Rattle.question.specs.Inner.{room, answered, printed}
use Rattle.question.specs.Questions.{reply_text}
use Rattle.question.specs.declared.Answered.{Answered}
use Rattle.transcript.specs.Calls.{Replies}

-- what an accepted call wrote, in a run with room
written : (out text : List ℕ) → (answered (length out) text).refusal ≡ 0 → take (answered (length out) text).written (printed out text) ≡ text
unfolding answered printed put
written out text z =
    by_test (leb room (length out))
    (λ (t : leb room (length out) ≡ true). rw t (take-append_seam text _))
    (λ (t : leb room (length out) ≡ false). let n : ◌≡◌ {A = ℕ} 1 0 = rw t at z in absurd (omega arith))

pub replied : {word line found place : ℕ} {numbers : List ℤ} {text : List ℕ} → Replies word line found place numbers text → text ≡ reply_text word line found place numbers
replied r =
    let h = r.handed in
    let out = h.1.1.1.1.1.0.now in
    let said = reply_text h.0 h.1.0 h.1.1.0 h.1.1.1.0 h.1.1.1.1.0.now in
    let p = r.post in
    let z : (answered (length out) said).refusal ≡ 0 = sym (ap (λ (a : Answered). a.refusal) p.0) ∙ r.accepted in
    let given : take r.answer.written r.exit.1.1.1.1.1.0.now ≡ said =
    ap₂ (λ (a : Answered) (o : List ℕ). take a.written o) p.0 p.1.0 ∙ written out said z in
    rw (r.is_word, r.is_line, r.is_found, r.is_place, r.is_numbers, r.is_text) at given
