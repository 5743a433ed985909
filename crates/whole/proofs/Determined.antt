-- Answers that meet a public function's contract are equal: each contract is one equation. Assumes nothing.
use mathlib.Core.Path.{sym, ◌∙◌}
use Rattle.whole.specs.Determined.{Determined}
use Rattle.whole.proofs.unless.Reads as unless
use Rattle.whole.proofs.unless.Kinds as unless_kinds
use Rattle.whole.proofs.or_else.Reads as or_else_lem
use Rattle.whole.proofs.or_else.Kinds as or_else_kinds
use Rattle.whole.proofs.at.Reads as at
use Rattle.whole.proofs.at.Kinds as at_kinds
use Rattle.whole.proofs.within.Reads as within
use Rattle.whole.proofs.within.Kinds as within_kinds
use Rattle.whole.proofs.all_within.Reads as all_within
use Rattle.whole.proofs.all_within.Kinds as all_within_kinds
use Rattle.whole.proofs.size.Reads as size
use Rattle.whole.proofs.size.Kinds as size_kinds
use Rattle.whole.proofs.nearest.Reads as nearest
use Rattle.whole.proofs.nearest.Kinds as nearest_kinds
use Rattle.whole.proofs.away.Reads as away
use Rattle.whole.proofs.away.Kinds as away_kinds
use Rattle.whole.proofs.sum.Reads as sum
use Rattle.whole.proofs.sum.Kinds as sum_kinds

unless_determined : Determined 0 unless_kinds.ps unless_kinds.r unless.Post
unless_determined κs a x y s t p q = p ∙ sym q

or_else_determined : Determined 0 or_else_kinds.ps or_else_kinds.r or_else_lem.Post
or_else_determined κs a x y s t p q = p ∙ sym q

at_determined : Determined 1 at_kinds.ps at_kinds.r at.Post
at_determined κs a x y s t p q = p ∙ sym q

within_determined : Determined 0 within_kinds.ps within_kinds.r within.Post
within_determined κs a x y s t p q = p ∙ sym q

all_within_determined : Determined 1 all_within_kinds.ps all_within_kinds.r all_within.Post
all_within_determined κs a x y s t p q = p ∙ sym q

size_determined : Determined 0 size_kinds.ps size_kinds.r size.Post
size_determined κs a x y s t p q = p ∙ sym q

nearest_determined : Determined 0 nearest_kinds.ps nearest_kinds.r nearest.Post
nearest_determined κs a x y s t p q = p ∙ sym q

away_determined : Determined 0 away_kinds.ps away_kinds.r away.Post
away_determined κs a x y s t p q = p ∙ sym q

sum_determined : Determined 1 sum_kinds.ps sum_kinds.r sum.Post
sum_determined κs a x y s t p q = p ∙ sym q
