-- Answers that meet the public function's contract are equal: the contract is one equation. Assumes nothing.
use mathlib.Core.Path.{sym, ◌∙◌}
use Rattle.whole.specs.Determined.{Determined}
use Rattle.rules.proofs.answer.Reads as answer
use Rattle.rules.proofs.answer.Kinds as answer_kinds

answer_determined : Determined 2 answer_kinds.ps answer_kinds.r answer.Post
answer_determined κs a x y s t p q = p ∙ sym q
