-- Answers that meet the public function's contract are equal: it is an equation. Assumes nothing.
use mathlib.Core.Path.{sym, ◌∙◌}
use Rattle.whole.specs.Determined.{Determined}
use Rattle.frames.proofs.answer.Reads as answer
use Rattle.frames.proofs.answer.Kinds as answer_kinds

answer_determined : Determined 3 answer_kinds.ps answer_kinds.r answer.Post
answer_determined κs a x y s t p q = p ∙ sym q
