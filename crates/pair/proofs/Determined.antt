-- Answers that meet a public function's contract are equal: each contract is an equation. Assumes nothing.
use mathlib.Core.Path.{sym, ◌∙◌}
use Rattle.whole.specs.Determined.{Determined}
use Rattle.pair.proofs.convert.Reads as convert
use Rattle.pair.proofs.convert.Kinds as convert_kinds
use Rattle.pair.proofs.from_bits.Reads as from_bits
use Rattle.pair.proofs.from_bits.Kinds as from_bits_kinds

convert_determined : Determined 0 convert_kinds.ps convert_kinds.r convert.Post
convert_determined κs a x y s t p q = p ∙ sym q

from_bits_determined : Determined 0 from_bits_kinds.ps from_bits_kinds.r from_bits.Post
from_bits_determined κs a x y s t p q = p ∙ sym q
