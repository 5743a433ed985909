-- Answers that meet the public function's contract are equal: the contract is one equation. Assumes nothing.
use mathlib.Core.Path.{sym, ◌∙◌}
use Rattle.whole.specs.Determined.{Determined}
use Rattle.words.proofs.question_of.Reads as question_of_lem
use Rattle.words.proofs.question_of.Kinds as question_of_kinds

question_of_determined : Determined 0 question_of_kinds.ps question_of_kinds.r question_of_lem.Post
question_of_determined κs a x y s t p q = p ∙ sym q
