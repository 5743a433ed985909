-- Answers that meet a public function's contract are equal: each contract is one equation. Assumes nothing.
use mathlib.Core.Path.{sym, ◌∙◌}
use Rattle.whole.specs.Determined.{Determined}
use Rattle.units.proofs.to_kilowatts.Reads as to_kilowatts
use Rattle.units.proofs.to_kilowatts.Kinds as to_kilowatts_kinds
use Rattle.units.proofs.refusal.Refusal.number.Reads as number
use Rattle.units.proofs.refusal.Refusal.number.Kinds as number_kinds

to_kilowatts_determined : Determined 0 to_kilowatts_kinds.ps to_kilowatts_kinds.r to_kilowatts.Post
to_kilowatts_determined κs a x y s t p q = p ∙ sym q

number_determined : Determined 0 number_kinds.ps number_kinds.r number.Post
number_determined κs a x y s t p q = p ∙ sym q
