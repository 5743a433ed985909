-- Answers that meet a public function's contract are equal: the contracts are equations. Assumes nothing.
use mathlib.Core.Path.{sym, ◌∙◌}
use Rattle.whole.specs.Determined.{Determined}
use Rattle.month.proofs.Month.«open».Reads as open_reads
use Rattle.month.proofs.Month.«open».Kinds as open_kinds
use Rattle.month.proofs.Month.post.Reads as post_reads
use Rattle.month.proofs.Month.post.Kinds as post_kinds
use Rattle.month.proofs.Month.replace.Reads as replace_reads
use Rattle.month.proofs.Month.replace.Kinds as replace_kinds
use Rattle.month.proofs.Month.withdraw.Reads as withdraw_reads
use Rattle.month.proofs.Month.withdraw.Kinds as withdraw_kinds
use Rattle.month.proofs.Month.set_basic_fee.Reads as set_basic_fee_reads
use Rattle.month.proofs.Month.set_basic_fee.Kinds as set_basic_fee_kinds
use Rattle.month.proofs.Month.set_excess_fee.Reads as set_excess_fee_reads
use Rattle.month.proofs.Month.set_excess_fee.Kinds as set_excess_fee_kinds
use Rattle.month.proofs.Month.close.Reads as close_reads
use Rattle.month.proofs.Month.close.Kinds as close_kinds
use Rattle.month.proofs.Month.hour.Reads as hour_reads
use Rattle.month.proofs.Month.hour.Kinds as hour_kinds
use Rattle.month.proofs.Month.day.Reads as day_reads
use Rattle.month.proofs.Month.day.Kinds as day_kinds
use Rattle.month.proofs.Month.basic_fee.Reads as basic_fee_reads
use Rattle.month.proofs.Month.basic_fee.Kinds as basic_fee_kinds
use Rattle.month.proofs.Month.excess_fee.Reads as excess_fee_reads
use Rattle.month.proofs.Month.excess_fee.Kinds as excess_fee_kinds
use Rattle.month.proofs.Month.total.Reads as total_reads
use Rattle.month.proofs.Month.total.Kinds as total_kinds
use Rattle.month.proofs.Month.standing.Reads as standing_reads
use Rattle.month.proofs.Month.standing.Kinds as standing_kinds

open_determined : Determined 0 open_kinds.ps open_kinds.r open_reads.Post
open_determined κs a x y s t p q = p ∙ sym q

post_determined : Determined 0 post_kinds.ps post_kinds.r post_reads.Post
post_determined κs a x y s t p q = p ∙ sym q

replace_determined : Determined 0 replace_kinds.ps replace_kinds.r replace_reads.Post
replace_determined κs a x y s t p q = p ∙ sym q

withdraw_determined : Determined 0 withdraw_kinds.ps withdraw_kinds.r withdraw_reads.Post
withdraw_determined κs a x y s t p q = p ∙ sym q

set_basic_fee_determined : Determined 0 set_basic_fee_kinds.ps set_basic_fee_kinds.r set_basic_fee_reads.Post
set_basic_fee_determined κs a x y s t p q = p ∙ sym q

set_excess_fee_determined : Determined 0 set_excess_fee_kinds.ps set_excess_fee_kinds.r set_excess_fee_reads.Post
set_excess_fee_determined κs a x y s t p q = p ∙ sym q

close_determined : Determined 0 close_kinds.ps close_kinds.r close_reads.Post
close_determined κs a x y s t p q = p ∙ sym q

hour_determined : Determined 0 hour_kinds.ps hour_kinds.r hour_reads.Post
hour_determined κs a x y s t p q = p ∙ sym q

day_determined : Determined 0 day_kinds.ps day_kinds.r day_reads.Post
day_determined κs a x y s t p q = p ∙ sym q

basic_fee_determined : Determined 0 basic_fee_kinds.ps basic_fee_kinds.r basic_fee_reads.Post
basic_fee_determined κs a x y s t p q = p ∙ sym q

excess_fee_determined : Determined 0 excess_fee_kinds.ps excess_fee_kinds.r excess_fee_reads.Post
excess_fee_determined κs a x y s t p q = p ∙ sym q

total_determined : Determined 0 total_kinds.ps total_kinds.r total_reads.Post
total_determined κs a x y s t p q = p ∙ sym q

standing_determined : Determined 0 standing_kinds.ps standing_kinds.r standing_reads.Post
standing_determined κs a x y s t p q = p ∙ sym q
