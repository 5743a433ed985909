-- Demand 1 of the program's calls: a refusal gives its number only, beside the state that was handed in, and leaves every lent run as it was. By the number. Assumes nothing.
use Prim.Native.Nat.{ℕ}
use mathlib.Core.Path.{refl}
use Rattle.whole.specs.Refused.{RefusedKeeps}
use Rattle.whole.proofs.Refused.{refused_bare, refused_left}
use Rattle.board.specs.Calls.{lent_marks, lent_amounts}
use Rattle.intake.specs.Calls.{lent_chunk, lent_out, all_runs}
use Rattle.intake.specs.Inner.{fed_number, end_number, fed_of, fed_marks, fed_amounts, fed_out, finished_of, end_marks, end_amounts, end_out}
use Rattle.intake.specs.declared.Fed.{Fed}
use Rattle.intake.specs.declared.Finished.{Finished}
use Rattle.intake.proofs.feed.Reads as feed_reads
use Rattle.intake.proofs.feed.Kinds as feed_kinds
use Rattle.intake.proofs.finish.Reads as finish_reads
use Rattle.intake.proofs.finish.Kinds as finish_kinds

feed_refused_keeps : RefusedKeeps 4 feed_kinds.ps feed_kinds.r (λ κs x. x.refusal) (λ κs a k. record { refusal = k; state = a.0; written = 0 })
    (λ κs a. all_runs a.1) (λ κs s. all_runs s.1) feed_reads.Post
unfolding fed_of fed_marks fed_amounts fed_out
feed_refused_keeps κs a x s p f =
    let number : Fed → ℕ = λ r. r.refusal in
    let k = fed_number a.0 (lent_chunk a) (lent_marks a.1) (lent_amounts a.1) (lent_out a.1) in
    let bare : ℕ → Fed = λ k. record { refusal = k; state = a.0; written = 0 } in (
      refused_bare number bare k _ refl refl p.0 f,
      λ i. (
        refused_left number bare k _ refl refl p.0 _ _ p.1.0 f i,
        refused_left number bare k _ refl refl p.0 _ _ p.1.1.0 f i,
        refused_left number bare k _ refl refl p.0 _ _ p.1.1.1.0 f i,
      ),
    )

finish_refused_keeps : RefusedKeeps 3 finish_kinds.ps finish_kinds.r (λ κs x. x.refusal) (λ κs a k. record { refusal = k; written = 0 })
    (λ κs a. all_runs a) (λ κs s. all_runs s) finish_reads.Post
unfolding finished_of end_marks end_amounts end_out
finish_refused_keeps κs a x s p f =
    let number : Finished → ℕ = λ r. r.refusal in
    let k = end_number a.0 (lent_marks a) (lent_amounts a) (lent_out a) in
    let bare : ℕ → Finished = λ k. record { refusal = k; written = 0 } in (
      refused_bare number bare k _ refl refl p.0 f,
      λ i. (
        refused_left number bare k _ refl refl p.0 _ _ p.1.0 f i,
        refused_left number bare k _ refl refl p.0 _ _ p.1.1.0 f i,
        refused_left number bare k _ refl refl p.0 _ _ p.1.1.1.0 f i,
      ),
    )
