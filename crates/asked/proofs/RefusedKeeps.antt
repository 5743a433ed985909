-- Demand 1: a refused call has its number only, beside the state that was handed in, and leaves the lent run as it was. By the one test of its length.
-- Assumes nothing.
use Prim.Native.Nat.{ℕ}
use mathlib.Core.Path.{refl}
use mathlib.Core.Bool.{false}
use mathlib.Core.List.{List}
use lib.IntN.{ℤ}
use contract.Lifetimes.{Lfts}
use denote.Triple.Clauses.{AtExit}
use borrow.Fn.Kinds.{Dens, ended_of}
use Rattle.whole.specs.Refused.{RefusedKeeps}
use Rattle.words.proofs.Refusing.{bare_by, left_by_lem}
use Rattle.asked.specs.Asking.{nothing}
use Rattle.asked.specs.Inner.{is_run, reached_of, read_of, read_run, end_of, end_run}
use Rattle.asked.specs.declared.State.{State}
use Rattle.asked.specs.declared.Reached.{Reached}
use Rattle.asked.proofs.read.Reads as read
use Rattle.asked.proofs.read.Kinds as read_kinds
use Rattle.asked.proofs.end.Reads as end
use Rattle.asked.proofs.end.Kinds as end_kinds

number : Reached → ℕ
number x = x.refusal

bare : State → ℕ → Reached
bare state k = record { refusal = k; asked = nothing; state = state; taken = 0; ended = false }

-- `read`'s state, and its run of numbers as it was lent and as it is left
abbrev read_state : (κs : Lfts 2) → Dens κs read_kinds.ps → State
read_state κs a = a.0

abbrev read_lent : (κs : Lfts 2) → Dens κs read_kinds.ps → List ℤ
read_lent κs a = a.1.1.0.now

abbrev read_left : (κs : Lfts 2) → AtExit (ended_of 2 read_kinds.ps read_kinds.r) κs → List ℤ
read_left κs s = s.1.1.0.now

read_refused_keeps : RefusedKeeps 2 read_kinds.ps read_kinds.r (λ κs x. number x) (λ κs a. bare (read_state κs a)) read_lent read_left read.Post
unfolding number bare read_of read_run reached_of
read_refused_keeps κs a x s p f =
    let b = is_run (read_lent κs a) in
    let keeps = bare (read_state κs a) in
    (bare_by number keeps 1 b _ refl refl p.0 f, left_by_lem number keeps 1 b _ refl refl p.0 f _ _ p.1)

-- the same of `end`
abbrev end_state : (κs : Lfts 1) → Dens κs end_kinds.ps → State
end_state κs a = a.0

abbrev end_lent : (κs : Lfts 1) → Dens κs end_kinds.ps → List ℤ
end_lent κs a = a.1.0.now

abbrev end_left : (κs : Lfts 1) → AtExit (ended_of 1 end_kinds.ps end_kinds.r) κs → List ℤ
end_left κs s = s.1.0.now

end_refused_keeps : RefusedKeeps 1 end_kinds.ps end_kinds.r (λ κs x. number x) (λ κs a. bare (end_state κs a)) end_lent end_left end.Post
unfolding number bare end_of end_run reached_of
end_refused_keeps κs a x s p f =
    let b = is_run (end_lent κs a) in
    let keeps = bare (end_state κs a) in
    (bare_by number keeps 1 b _ refl refl p.0 f, left_by_lem number keeps 1 b _ refl refl p.0 f _ _ p.1)
