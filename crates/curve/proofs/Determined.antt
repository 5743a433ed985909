-- Answers that meet a public function's contract are equal: each contract is one equation. Assumes nothing.
use mathlib.Core.Path.{sym, ◌∙◌}
use Rattle.whole.specs.Determined.{Determined}
use Rattle.curve.proofs.curve.Reads as curve
use Rattle.curve.proofs.curve.Kinds as curve_kinds
use Rattle.curve.proofs.place.Reads as place
use Rattle.curve.proofs.place.Kinds as place_kinds
use Rattle.curve.proofs.pairs.Reads as pairs
use Rattle.curve.proofs.pairs.Kinds as pairs_kinds

curve_determined : Determined 0 curve_kinds.ps curve_kinds.r curve.Post
curve_determined κs a x y s t p q = p ∙ sym q

place_determined : Determined 0 place_kinds.ps place_kinds.r place.Post
place_determined κs a x y s t p q = p ∙ sym q

pairs_determined : Determined 0 pairs_kinds.ps pairs_kinds.r pairs.Post
pairs_determined κs a x y s t p q = p ∙ sym q
