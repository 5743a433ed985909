-- Demand 1 of the calls in place: a refusal gives its number only and leaves the two lent runs as they were. By the type, which has nothing beside a refusal, and by the number. Assumes nothing.
use Prim.Native.Nat.{ℕ}
use mathlib.Core.Path.{◌≡◌, sym, ap, ◌∙◌}
use mathlib.Core.Bool.{Bool}
use mathlib.Core.List.{List}
use lib.IntN.{ℤ}
use Rattle.whole.specs.Refused.{RefusedKeeps, RefusedBare}
use Rattle.whole.proofs.Choice.{kept_old}
use Rattle.std.specs.Prelude.{Result}
use Rattle.units.specs.Refusals.{told_number, refused_as, result_by}
use Rattle.units.specs.declared.refusal.Refusal.{Refusal}
use Rattle.units.proofs.Numbered.{bare, number_some}
use Rattle.history.specs.Rules.{Deed}
use Rattle.history.specs.Board.{Board}
use Rattle.history.specs.Inner.{handed_at}
use Rattle.head.specs.Rules.{Fee, Item}
use Rattle.head.specs.Inner.{board_in}
use Rattle.head.specs.declared.Head.{Head}
use Rattle.board.specs.Board.{place_ruled, place_handed}
use Rattle.board.specs.Calls.{lent_marks, lent_amounts, lent_runs}
use Rattle.board.proofs.Core.{open_refused}
use Rattle.board.proofs.post_in.Reads as post_in_reads
use Rattle.board.proofs.post_in.Kinds as post_in_kinds
use Rattle.board.proofs.replace_in.Reads as replace_in_reads
use Rattle.board.proofs.replace_in.Kinds as replace_in_kinds
use Rattle.board.proofs.withdraw_in.Reads as withdraw_in_reads
use Rattle.board.proofs.withdraw_in.Kinds as withdraw_in_kinds
use Rattle.board.proofs.open_in.Reads as open_in_reads
use Rattle.board.proofs.open_in.Kinds as open_in_kinds
use Rattle.board.proofs.total_in.Reads as total_in_reads
use Rattle.board.proofs.total_in.Kinds as total_in_kinds
use Rattle.board.proofs.hour_in.Reads as hour_in_reads
use Rattle.board.proofs.hour_in.Kinds as hour_in_kinds
use Rattle.board.proofs.check_in.Reads as check_in_reads
use Rattle.board.proofs.check_in.Kinds as check_in_kinds

-- both runs of a board
abbrev runs : Board Fee Bool ℤ → List Bool × List ℤ
runs b = (b.marks, b.amounts)

-- what a refused call at a place leaves
left_as_was : (head : Head) (ms ns : List Bool) (xs ys : List ℤ) (place : ℕ) (deed : Deed Item) (x : Result (Unit {0}) Refusal) → x ≡ result_by (place_ruled head ms xs place deed) tt
    → board_in head ns ys ≡ place_handed head ms xs place deed → (told_number x ≡ 0 → ⊥) → ◌≡◌ {A = List Bool × List ℤ} (ns, ys) (ms, xs)
unfolding handed_at
left_as_was head ms ns xs ys place deed x answer left f =
    ap runs (left ∙ kept_old _ (board_in head ms xs) (number_some (place_ruled head ms xs place deed) tt (λ z. f (ap told_number answer ∙ z))))

post_in_refused_keeps : RefusedKeeps 2 post_in_kinds.ps post_in_kinds.r (λ κs x. told_number x) (λ κs a k. refused_as k) (λ κs a. lent_runs a) (λ κs s. lent_runs s) post_in_reads.Post
post_in_refused_keeps κs a x s p f = (bare x f, left_as_was a.0 (lent_marks a) (lent_marks s) (lent_amounts a) (lent_amounts s) _ _ x p.0 p.1 f)

replace_in_refused_keeps : RefusedKeeps 2 replace_in_kinds.ps replace_in_kinds.r (λ κs x. told_number x) (λ κs a k. refused_as k) (λ κs a. lent_runs a) (λ κs s. lent_runs s) replace_in_reads.Post
replace_in_refused_keeps κs a x s p f = (bare x f, left_as_was a.0 (lent_marks a) (lent_marks s) (lent_amounts a) (lent_amounts s) _ _ x p.0 p.1 f)

withdraw_in_refused_keeps : RefusedKeeps 2 withdraw_in_kinds.ps withdraw_in_kinds.r (λ κs x. told_number x) (λ κs a k. refused_as k) (λ κs a. lent_runs a) (λ κs s. lent_runs s) withdraw_in_reads.Post
withdraw_in_refused_keeps κs a x s p f = (bare x f, left_as_was a.0 (lent_marks a) (lent_marks s) (lent_amounts a) (lent_amounts s) _ _ x p.0 p.1 f)

open_in_refused_keeps : RefusedKeeps 2 open_in_kinds.ps open_in_kinds.r (λ κs x. told_number x) (λ κs a k. refused_as k) (λ κs a. lent_runs a) (λ κs s. lent_runs s) open_in_reads.Post
open_in_refused_keeps κs a x s p f =
    let left = sym (open_refused a.0 (lent_marks a) (lent_amounts a) (λ z. f (ap told_number p.0 ∙ z))) in (
      bare x f,
      λ i. ((p.1.0 ∙ ap (λ (b : Board Fee Bool ℤ). b.marks) left) i, (p.1.1 ∙ ap (λ (b : Board Fee Bool ℤ). b.amounts) left) i),
    )

-- ---- the read-outs

hour_in_refused_keeps : RefusedBare 1 hour_in_kinds.ps hour_in_kinds.r (λ κs x. told_number x) (λ κs a k. refused_as k) hour_in_reads.Post
hour_in_refused_keeps κs a x s p f = bare x f

check_in_refused_keeps : RefusedBare 1 check_in_kinds.ps check_in_kinds.r (λ κs x. told_number x) (λ κs a k. refused_as k) check_in_reads.Post
check_in_refused_keeps κs a x s p f = bare x f

total_in_refused_keeps : RefusedBare 1 total_in_kinds.ps total_in_kinds.r (λ κs x. told_number x) (λ κs a k. refused_as k) total_in_reads.Post
total_in_refused_keeps κs a x s p f = bare x f
