-- Demand 1 of the month ledger: a refusal gives its number only, and the ledger that was handed in is as it was. By the type: a refusal has nothing beside it. Assumes nothing.
use Rattle.whole.specs.Refused.{RefusedBare}
use Rattle.units.specs.Refusals.{told_number, refused_as}
use Rattle.units.proofs.Numbered.{bare}
use Rattle.month.proofs.Month.«open».Reads as open_reads
use Rattle.month.proofs.Month.«open».Kinds as open_kinds
use Rattle.month.proofs.Month.post.Reads as post_reads
use Rattle.month.proofs.Month.post.Kinds as post_kinds
use Rattle.month.proofs.Month.replace.Reads as replace_reads
use Rattle.month.proofs.Month.replace.Kinds as replace_kinds
use Rattle.month.proofs.Month.withdraw.Reads as withdraw_reads
use Rattle.month.proofs.Month.withdraw.Kinds as withdraw_kinds
use Rattle.month.proofs.Month.set_basic_fee.Reads as set_basic_fee_reads
use Rattle.month.proofs.Month.set_basic_fee.Kinds as set_basic_fee_kinds
use Rattle.month.proofs.Month.set_excess_fee.Reads as set_excess_fee_reads
use Rattle.month.proofs.Month.set_excess_fee.Kinds as set_excess_fee_kinds
use Rattle.month.proofs.Month.close.Reads as close_reads
use Rattle.month.proofs.Month.close.Kinds as close_kinds
use Rattle.month.proofs.Month.hour.Reads as hour_reads
use Rattle.month.proofs.Month.hour.Kinds as hour_kinds
use Rattle.month.proofs.Month.day.Reads as day_reads
use Rattle.month.proofs.Month.day.Kinds as day_kinds
use Rattle.month.proofs.Month.basic_fee.Reads as basic_fee_reads
use Rattle.month.proofs.Month.basic_fee.Kinds as basic_fee_kinds
use Rattle.month.proofs.Month.excess_fee.Reads as excess_fee_reads
use Rattle.month.proofs.Month.excess_fee.Kinds as excess_fee_kinds
use Rattle.month.proofs.Month.total.Reads as total_reads
use Rattle.month.proofs.Month.total.Kinds as total_kinds
use Rattle.month.proofs.Month.standing.Reads as standing_reads
use Rattle.month.proofs.Month.standing.Kinds as standing_kinds

-- ---- the calls

open_refused_keeps : RefusedBare 0 open_kinds.ps open_kinds.r (λ κs x. told_number x) (λ κs a k. refused_as k) open_reads.Post
open_refused_keeps κs a x s p f = bare x f

post_refused_keeps : RefusedBare 0 post_kinds.ps post_kinds.r (λ κs x. told_number x) (λ κs a k. refused_as k) post_reads.Post
post_refused_keeps κs a x s p f = bare x f

replace_refused_keeps : RefusedBare 0 replace_kinds.ps replace_kinds.r (λ κs x. told_number x) (λ κs a k. refused_as k) replace_reads.Post
replace_refused_keeps κs a x s p f = bare x f

withdraw_refused_keeps : RefusedBare 0 withdraw_kinds.ps withdraw_kinds.r (λ κs x. told_number x) (λ κs a k. refused_as k) withdraw_reads.Post
withdraw_refused_keeps κs a x s p f = bare x f

set_basic_fee_refused_keeps : RefusedBare 0 set_basic_fee_kinds.ps set_basic_fee_kinds.r (λ κs x. told_number x) (λ κs a k. refused_as k) set_basic_fee_reads.Post
set_basic_fee_refused_keeps κs a x s p f = bare x f

set_excess_fee_refused_keeps : RefusedBare 0 set_excess_fee_kinds.ps set_excess_fee_kinds.r (λ κs x. told_number x) (λ κs a k. refused_as k) set_excess_fee_reads.Post
set_excess_fee_refused_keeps κs a x s p f = bare x f

close_refused_keeps : RefusedBare 0 close_kinds.ps close_kinds.r (λ κs x. told_number x) (λ κs a k. refused_as k) close_reads.Post
close_refused_keeps κs a x s p f = bare x f

-- ---- the read-outs

hour_refused_keeps : RefusedBare 0 hour_kinds.ps hour_kinds.r (λ κs x. told_number x) (λ κs a k. refused_as k) hour_reads.Post
hour_refused_keeps κs a x s p f = bare x f

day_refused_keeps : RefusedBare 0 day_kinds.ps day_kinds.r (λ κs x. told_number x) (λ κs a k. refused_as k) day_reads.Post
day_refused_keeps κs a x s p f = bare x f

basic_fee_refused_keeps : RefusedBare 0 basic_fee_kinds.ps basic_fee_kinds.r (λ κs x. told_number x) (λ κs a k. refused_as k) basic_fee_reads.Post
basic_fee_refused_keeps κs a x s p f = bare x f

excess_fee_refused_keeps : RefusedBare 0 excess_fee_kinds.ps excess_fee_kinds.r (λ κs x. told_number x) (λ κs a k. refused_as k) excess_fee_reads.Post
excess_fee_refused_keeps κs a x s p f = bare x f

total_refused_keeps : RefusedBare 0 total_kinds.ps total_kinds.r (λ κs x. told_number x) (λ κs a k. refused_as k) total_reads.Post
total_refused_keeps κs a x s p f = bare x f

standing_refused_keeps : RefusedBare 0 standing_kinds.ps standing_kinds.r (λ κs x. told_number x) (λ κs a k. refused_as k) standing_reads.Post
standing_refused_keeps κs a x s p f = bare x f
