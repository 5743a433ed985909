-- A line in a run with room, and in one without: what is answered and what is left. By the test of the room. Assumes nothing.
use Prim.Native.Nat.{ℕ, ◌≤◌, ◌<◌}
use mathlib.Core.Path.{◌≡◌, refl}
use mathlib.Core.List.{List}
use native.Mathlib.Omega.{arith}
use lib.ListN.{length}
use borrow.Author.Tests.{le-leb, lt-leb}
use Rattle.text.specs.Text.{put}
use Rattle.question.specs.Inner.{room, answered, printed}
use Rattle.question.specs.declared.Answered.{Answered}

-- what a call answers and leaves, and that no more was written than there is
abbrev pub Says : List ℕ → List ℕ → Answered → List ℕ → Type 0
Says out text answer left = (answer ≡ answered (length out) text) × ((left ≡ printed out text) × (answer.written ≤ length out))

pub no_room : (out text : List ℕ) → length out < room → Says out text (record { refusal = 1; written = 0 }) out
unfolding answered printed
no_room out text h = rw (lt-leb room (length out) h) (refl, (refl, omega arith))

pub with_room : (out text left : List ℕ) (written : ℕ) → room ≤ length out → written ≡ length text → left ≡ put out 0 text → written ≤ room → Says out text (record { refusal = 0; written = written }) left
unfolding answered printed
with_room out text left written h w l s = rw (le-leb room (length out) h) (rw w, (l, omega arith))
