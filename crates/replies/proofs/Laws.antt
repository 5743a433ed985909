-- What a chunk and the input's end come to, from what the calls answer. By computing. Assumes nothing.
use Prim.Native.Nat.{ℕ, ◌≤◌, min}
use mathlib.Core.Path.{◌≡◌, refl, sym, ◌∙◌}
use mathlib.Core.Bool.{true, false}
use mathlib.Core.List.{List}
use native.Mathlib.Omega.{arith}
use lib.Dec.{eqb, leb}
use lib.IntN.{ℤ}
use lib.ListN.{length, take}
use lib.Seq.{take_all}
use borrow.Author.Tests.{leb-true, leb-false, le-leb}
use Rattle.whole.proofs.Choice.{by_test, and_both}
use Rattle.text.specs.Text.{put}
use Rattle.asked.specs.Inner as asking
use Rattle.asked.specs.Asking.{most_numbers}
use Rattle.asked.specs.Inner.{read_of, read_run, end_of, end_run}
use Rattle.asked.specs.declared.State.{State}
use Rattle.asked.specs.declared.Reached.{Reached}
use Rattle.question.specs.Inner.{room, answered, printed}
use Rattle.question.specs.declared.Answered.{Answered}
use Rattle.replies.specs.Inner.{reached_text, replied_to, runs_fit_in, replied_of, replied_run, replied_out, last_replied, last_replied_run, last_replied_out}
use Rattle.replies.specs.declared.Replied.{Replied}

-- no more than there are
pub take_least : {A : Type 0} (n : ℕ) (run : List A) → take (min n (length run)) run ≡ take n run
take_least n run =
    by_test (leb n (length run))
    (λ (t : leb n (length run) ≡ true). let h = leb-true n (length run) t in let e : min n (length run) ≡ n = omega arith in rw e)
    (λ (t : leb n (length run) ≡ false). let h = leb-false n (length run) t in take_all (min n (length run)) run (omega arith) ∙ sym (take_all n run (omega arith)))

-- a reply where there is room
pub said : (out left text : List ℕ) (r : Answered) → room ≤ length out → r ≡ answered (length out) text → left ≡ printed out text
    → (r.written ≡ length text) × (left ≡ put out 0 text)
unfolding answered printed
said out left text r h e o = rw (e, o, le-leb room (length out) h) (refl, refl)

pub has_room : (numbers out : ℕ) → runs_fit_in numbers out ≡ true → room ≤ out
unfolding runs_fit_in
has_room numbers out t = leb-true room out (and_both (eqb numbers most_numbers) (leb room out) t).1

pub numbers_fit : (run : List ℤ) (out : ℕ) → runs_fit_in (length run) out ≡ true → asking.is_run run ≡ true
unfolding runs_fit_in
numbers_fit run out t = (and_both (eqb (length run) most_numbers) (leb room out) t).0

-- where the runs fit: what was reached and left, and what is answered of it
module _ (state : State) (run left : List ℤ) (out said : List ℕ) (reached : Reached) (answer : Replied) (t : runs_fit_in (length run) (length out) ≡ true)
    (a : answer ≡ replied_to reached left) (o : said ≡ put out 0 (reached_text reached left)) where
  -- of a chunk
  pub fed : (chunk : List ℕ) → reached ≡ read_of state chunk run → left ≡ read_run state chunk run
      → (answer ≡ replied_of state chunk run out) × ((left ≡ replied_run state chunk run out) × (said ≡ replied_out state chunk run out))
  unfolding replied_of replied_run replied_out read_of read_run
  fed chunk r l = rw (t, a, o, l, r, numbers_fit run (length out) t) (refl, (refl, refl))

  -- of the input's end
  pub finished : reached ≡ end_of state run → left ≡ end_run state run
      → (answer ≡ last_replied state run out) × ((left ≡ last_replied_run state run out) × (said ≡ last_replied_out state run out))
  unfolding last_replied last_replied_run last_replied_out end_of end_run
  finished r l = rw (t, a, o, l, r, numbers_fit run (length out) t) (refl, (refl, refl))
