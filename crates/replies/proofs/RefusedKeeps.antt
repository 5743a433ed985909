-- Demand 1: a refused call has its number only, beside the state that was handed in, and leaves both lent runs as they were. By the one test of their
-- lengths. Assumes nothing.
use Prim.Native.Nat.{ℕ}
use mathlib.Core.Path.{refl, ap₂}
use mathlib.Core.List.{List}
use lib.IntN.{ℤ}
use lib.ListN.{length}
use contract.Lifetimes.{Lfts}
use denote.Triple.Clauses.{AtExit}
use borrow.Fn.Kinds.{Dens, ended_of}
use Rattle.whole.specs.Refused.{RefusedKeeps}
use Rattle.words.proofs.Refusing.{bare_by, left_by_lem}
use Rattle.asked.specs.declared.State.{State}
use Rattle.replies.specs.Inner.{replied_to, runs_fit_in, replied_of, replied_run, replied_out, last_replied, last_replied_run, last_replied_out}
use Rattle.replies.specs.declared.Replied.{Replied}
use Rattle.replies.proofs.feed.Reads as feed
use Rattle.replies.proofs.feed.Kinds as feed_kinds
use Rattle.replies.proofs.finish.Reads as finish
use Rattle.replies.proofs.finish.Kinds as finish_kinds

number : Replied → ℕ
number x = x.refusal

bare : State → ℕ → Replied
bare state k = record { refusal = k; state = state; taken = 0; written = 0 }

-- both runs
runs : List ℤ → List ℕ → List ℤ × List ℕ
runs numbers out = (numbers, out)

-- `feed`'s state, and its two runs as they were lent and as they are left
abbrev feed_state : (κs : Lfts 3) → Dens κs feed_kinds.ps → State
feed_state κs a = a.0

abbrev feed_lent : (κs : Lfts 3) → Dens κs feed_kinds.ps → List ℤ × List ℕ
feed_lent κs a = runs a.1.1.0.now a.1.1.1.0.now

abbrev feed_left : (κs : Lfts 3) → AtExit (ended_of 3 feed_kinds.ps feed_kinds.r) κs → List ℤ × List ℕ
feed_left κs s = runs s.1.1.0.now s.1.1.1.0.now

feed_refused_keeps : RefusedKeeps 3 feed_kinds.ps feed_kinds.r (λ κs x. number x) (λ κs a. bare (feed_state κs a)) feed_lent feed_left feed.Post
unfolding number bare runs replied_to replied_of replied_run replied_out
feed_refused_keeps κs a x s p f =
    let lent = feed_lent κs a in
    let b = runs_fit_in (length lent.0) (length lent.1) in
    let keeps = bare (feed_state κs a) in
    (bare_by number keeps 1 b _ refl refl p.0 f, ap₂ runs (left_by_lem number keeps 1 b _ refl refl p.0 f _ _ p.1.0) (left_by_lem number keeps 1 b _ refl refl p.0 f _ _ p.1.1.0))

-- the same of `finish`
abbrev finish_state : (κs : Lfts 2) → Dens κs finish_kinds.ps → State
finish_state κs a = a.0

abbrev finish_lent : (κs : Lfts 2) → Dens κs finish_kinds.ps → List ℤ × List ℕ
finish_lent κs a = runs a.1.0.now a.1.1.0.now

abbrev finish_left : (κs : Lfts 2) → AtExit (ended_of 2 finish_kinds.ps finish_kinds.r) κs → List ℤ × List ℕ
finish_left κs s = runs s.1.0.now s.1.1.0.now

finish_refused_keeps : RefusedKeeps 2 finish_kinds.ps finish_kinds.r (λ κs x. number x) (λ κs a. bare (finish_state κs a)) finish_lent finish_left finish.Post
unfolding number bare runs replied_to last_replied last_replied_run last_replied_out
finish_refused_keeps κs a x s p f =
    let lent = finish_lent κs a in
    let b = runs_fit_in (length lent.0) (length lent.1) in
    let keeps = bare (finish_state κs a) in
    (bare_by number keeps 1 b _ refl refl p.0 f, ap₂ runs (left_by_lem number keeps 1 b _ refl refl p.0 f _ _ p.1.0) (left_by_lem number keeps 1 b _ refl refl p.0 f _ _ p.1.1.0))
