-- Answers that meet a public function's contract are equal: each contract is one equation. Assumes nothing.
use mathlib.Core.Path.{sym, ◌∙◌}
use Rattle.whole.specs.Determined.{Determined}
use Rattle.tokens.proofs.step.Reads as step
use Rattle.tokens.proofs.step.Kinds as step_kinds
use Rattle.tokens.proofs.number.Reads as number
use Rattle.tokens.proofs.number.Kinds as number_kinds

step_determined : Determined 0 step_kinds.ps step_kinds.r step.Post
step_determined κs a x y s t p q = p ∙ sym q

number_determined : Determined 0 number_kinds.ps number_kinds.r number.Post
number_determined κs a x y s t p q = p ∙ sym q
