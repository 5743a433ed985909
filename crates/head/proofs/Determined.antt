-- Answers that meet a public function's contract are equal: the contracts are equations. Assumes nothing.
use mathlib.Core.Path.{sym, ◌∙◌}
use Rattle.whole.specs.Determined.{Determined}
use Rattle.head.proofs.places.Reads as places_reads
use Rattle.head.proofs.places.Kinds as places_kinds
use Rattle.head.proofs.place_of.Reads as place_of_reads
use Rattle.head.proofs.place_of.Kinds as place_of_kinds
use Rattle.head.proofs.«open».Reads as open_reads
use Rattle.head.proofs.«open».Kinds as open_kinds
use Rattle.head.proofs.fits.Reads as fits_reads
use Rattle.head.proofs.fits.Kinds as fits_kinds
use Rattle.head.proofs.set_basic_fee.Reads as set_basic_fee_reads
use Rattle.head.proofs.set_basic_fee.Kinds as set_basic_fee_kinds
use Rattle.head.proofs.set_excess_fee.Reads as set_excess_fee_reads
use Rattle.head.proofs.set_excess_fee.Kinds as set_excess_fee_kinds
use Rattle.head.proofs.close.Reads as close_reads
use Rattle.head.proofs.close.Kinds as close_kinds

places_determined : Determined 0 places_kinds.ps places_kinds.r places_reads.Post
places_determined κs a x y s t p q = p ∙ sym q

place_of_determined : Determined 0 place_of_kinds.ps place_of_kinds.r place_of_reads.Post
place_of_determined κs a x y s t p q = p ∙ sym q

open_determined : Determined 0 open_kinds.ps open_kinds.r open_reads.Post
open_determined κs a x y s t p q = p ∙ sym q

fits_determined : Determined 0 fits_kinds.ps fits_kinds.r fits_reads.Post
fits_determined κs a x y s t p q = p ∙ sym q

set_basic_fee_determined : Determined 0 set_basic_fee_kinds.ps set_basic_fee_kinds.r set_basic_fee_reads.Post
set_basic_fee_determined κs a x y s t p q = p ∙ sym q

set_excess_fee_determined : Determined 0 set_excess_fee_kinds.ps set_excess_fee_kinds.r set_excess_fee_reads.Post
set_excess_fee_determined κs a x y s t p q = p ∙ sym q

close_determined : Determined 0 close_kinds.ps close_kinds.r close_reads.Post
close_determined κs a x y s t p q = p ∙ sym q
