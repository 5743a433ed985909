-- Answers that meet a public function's contract are equal: each contract is an equation. Assumes nothing.
use mathlib.Core.Path.{sym, ◌∙◌}
use Rattle.whole.specs.Determined.{Determined}
use Rattle.lines.proofs.count.Reads as count
use Rattle.lines.proofs.count.Kinds as count_kinds
use Rattle.lines.proofs.line_end.Reads as line_end_lem
use Rattle.lines.proofs.line_end.Kinds as line_end_kinds

count_determined : Determined 1 count_kinds.ps count_kinds.r count.Post
count_determined κs a x y s t p q = p ∙ sym q

line_end_determined : Determined 1 line_end_kinds.ps line_end_kinds.r line_end_lem.Post
line_end_determined κs a x y s t p q = p ∙ sym q
