-- Answers that meet a public function's contract are equal: the contract is one equation. Assumes nothing.
use mathlib.Core.Path.{sym, ◌∙◌}
use Rattle.whole.specs.Determined.{Determined}
use Rattle.rate.proofs.hourly_rate.Reads as hourly_rate_lem
use Rattle.rate.proofs.hourly_rate.Kinds as hourly_rate_kinds
use Rattle.rate.proofs.earlier_fits.Reads as earlier_fits
use Rattle.rate.proofs.earlier_fits.Kinds as earlier_fits_kinds
use Rattle.rate.proofs.are_scores.Reads as are_scores_lem
use Rattle.rate.proofs.are_scores.Kinds as are_scores_kinds

hourly_rate_determined : Determined 2 hourly_rate_kinds.ps hourly_rate_kinds.r hourly_rate_lem.Post
hourly_rate_determined κs a x y s t p q = p ∙ sym q

earlier_fits_determined : Determined 0 earlier_fits_kinds.ps earlier_fits_kinds.r earlier_fits.Post
earlier_fits_determined κs a x y s t p q = p ∙ sym q

are_scores_determined : Determined 1 are_scores_kinds.ps are_scores_kinds.r are_scores_lem.Post
are_scores_determined κs a x y s t p q = p ∙ sym q
