-- Answers that meet a public function's contract are equal: each contract is one equation. Assumes nothing.
use mathlib.Core.Path.{sym, ◌∙◌}
use Rattle.whole.specs.Determined.{Determined}
use Rattle.bands.proofs.check.Reads as check
use Rattle.bands.proofs.check.Kinds as check_kinds
use Rattle.bands.proofs.factor.Reads as factor
use Rattle.bands.proofs.factor.Kinds as factor_kinds

check_determined : Determined 2 check_kinds.ps check_kinds.r check.Post
check_determined κs a x y s t p q = p ∙ sym q

factor_determined : Determined 2 factor_kinds.ps factor_kinds.r factor.Post
factor_determined κs a x y s t p q = p ∙ sym q
