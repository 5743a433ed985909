-- Answers that meet a public function's contract are equal, and so is what each leaves in the lent runs: the contracts are equations.
-- Assumes nothing.
use mathlib.Core.Path.{sym, ◌∙◌}
use Rattle.whole.specs.Determined.{Determined, LeftDetermined}
use Rattle.replies.proofs.feed.Reads as feed
use Rattle.replies.proofs.feed.Kinds as feed_kinds
use Rattle.replies.proofs.finish.Reads as finish
use Rattle.replies.proofs.finish.Kinds as finish_kinds

feed_determined : Determined 3 feed_kinds.ps feed_kinds.r feed.Post
feed_determined κs a x y s t p q = p.0 ∙ sym q.0

feed_numbers_determined : LeftDetermined 3 feed_kinds.ps feed_kinds.r (λ κs s. s.1.1.0.now) feed.Post
feed_numbers_determined κs a x y s t p q = p.1.0 ∙ sym q.1.0

feed_out_determined : LeftDetermined 3 feed_kinds.ps feed_kinds.r (λ κs s. s.1.1.1.0.now) feed.Post
feed_out_determined κs a x y s t p q = p.1.1.0 ∙ sym q.1.1.0

finish_determined : Determined 2 finish_kinds.ps finish_kinds.r finish.Post
finish_determined κs a x y s t p q = p.0 ∙ sym q.0

finish_numbers_determined : LeftDetermined 2 finish_kinds.ps finish_kinds.r (λ κs s. s.1.0.now) finish.Post
finish_numbers_determined κs a x y s t p q = p.1.0 ∙ sym q.1.0

finish_out_determined : LeftDetermined 2 finish_kinds.ps finish_kinds.r (λ κs s. s.1.1.0.now) finish.Post
finish_out_determined κs a x y s t p q = p.1.1.0 ∙ sym q.1.1.0
