-- Demand 1: a refused reply has its number only and leaves the lent run as it was. By the one test of its room. Assumes nothing.
use Prim.Native.Nat.{ℕ}
use mathlib.Core.Path.{refl}
use mathlib.Core.List.{List}
use lib.Dec.{leb}
use lib.ListN.{length}
use contract.Lifetimes.{Lfts}
use denote.Triple.Clauses.{AtExit}
use borrow.Fn.Kinds.{Dens, ended_of}
use Rattle.whole.specs.Refused.{RefusedKeeps}
use Rattle.words.proofs.Refusing.{bare_by, left_by_lem}
use Rattle.question.specs.Inner.{room, answered, printed}
use Rattle.question.specs.declared.Answered.{Answered}
use Rattle.question.proofs.reply.Reads as reply
use Rattle.question.proofs.reply.Kinds as reply_kinds

number : Answered → ℕ
number x = x.refusal

bare : ℕ → Answered
bare k = record { refusal = k; written = 0 }

-- the run that the line is put into, as it was lent and as it is left
abbrev lent : (κs : Lfts 2) → Dens κs reply_kinds.ps → List ℕ
lent κs a = a.1.1.1.1.1.0.now

abbrev left : (κs : Lfts 2) → AtExit (ended_of 2 reply_kinds.ps reply_kinds.r) κs → List ℕ
left κs s = s.1.1.1.1.1.0.now

reply_refused_keeps : RefusedKeeps 2 reply_kinds.ps reply_kinds.r (λ κs x. number x) (λ κs a. bare) lent left reply.Post
unfolding number bare answered printed
reply_refused_keeps κs a x s p f =
    let b = leb room (length (lent κs a)) in
    (bare_by number bare 1 b _ refl refl p.0 f, left_by_lem number bare 1 b _ refl refl p.0 f _ _ p.1.0)
