-- Demand 1 of the calls on the head: a refusal gives its number only, and the head that was handed in is as it was. By the type: a refusal has nothing beside it. Assumes nothing.
use Rattle.whole.specs.Refused.{RefusedBare}
use Rattle.units.specs.Refusals.{told_number, refused_as}
use Rattle.units.proofs.Numbered.{bare}
use Rattle.head.proofs.«open».Reads as open_reads
use Rattle.head.proofs.«open».Kinds as open_kinds
use Rattle.head.proofs.set_basic_fee.Reads as set_basic_fee_reads
use Rattle.head.proofs.set_basic_fee.Kinds as set_basic_fee_kinds
use Rattle.head.proofs.set_excess_fee.Reads as set_excess_fee_reads
use Rattle.head.proofs.set_excess_fee.Kinds as set_excess_fee_kinds
use Rattle.head.proofs.close.Reads as close_reads
use Rattle.head.proofs.close.Kinds as close_kinds

open_refused_keeps : RefusedBare 0 open_kinds.ps open_kinds.r (λ κs x. told_number x) (λ κs a k. refused_as k) open_reads.Post
open_refused_keeps κs a x s p f = bare x f

set_basic_fee_refused_keeps : RefusedBare 0 set_basic_fee_kinds.ps set_basic_fee_kinds.r (λ κs x. told_number x) (λ κs a k. refused_as k) set_basic_fee_reads.Post
set_basic_fee_refused_keeps κs a x s p f = bare x f

set_excess_fee_refused_keeps : RefusedBare 0 set_excess_fee_kinds.ps set_excess_fee_kinds.r (λ κs x. told_number x) (λ κs a k. refused_as k) set_excess_fee_reads.Post
set_excess_fee_refused_keeps κs a x s p f = bare x f

close_refused_keeps : RefusedBare 0 close_kinds.ps close_kinds.r (λ κs x. told_number x) (λ κs a k. refused_as k) close_reads.Post
close_refused_keeps κs a x s p f = bare x f
