-- Answers that meet the public function's contract are equal: the contract is one equation. Assumes nothing.
use mathlib.Core.Path.{sym, ◌∙◌}
use Rattle.whole.specs.Determined.{Determined}
use Rattle.reached.proofs.reached.Reads as reached
use Rattle.reached.proofs.reached.Kinds as reached_kinds

reached_determined : Determined 2 reached_kinds.ps reached_kinds.r reached.Post
reached_determined κs a x y s t p q = p ∙ sym q
