-- Demand 1: a refusal of a public function's contract gives its number only. By the type: a refusal has nothing beside it. Assumes nothing.
use Rattle.whole.specs.Refused.{RefusedBare}
use Rattle.units.specs.Refusals.{told_number, refused_as}
use Rattle.units.proofs.Numbered.{bare}
use Rattle.pair.proofs.convert.Reads as convert
use Rattle.pair.proofs.convert.Kinds as convert_kinds
use Rattle.pair.proofs.from_bits.Reads as from_bits
use Rattle.pair.proofs.from_bits.Kinds as from_bits_kinds

convert_refused_keeps : RefusedBare 0 convert_kinds.ps convert_kinds.r (λ κs x. told_number x) (λ κs a k. refused_as k) convert.Post
convert_refused_keeps κs a x s p f = bare x f

from_bits_refused_keeps : RefusedBare 0 from_bits_kinds.ps from_bits_kinds.r (λ κs x. told_number x) (λ κs a k. refused_as k) from_bits.Post
from_bits_refused_keeps κs a x s p f = bare x f
