-- A refused sReg hour is its number alone, beside `Outside`, and leaves the lent run as it was: answer and run go by one number. Assumes nothing.
use mathlib.Core.Path.{sym, ap, ◌∙◌}
use lib.ListN.{length}
use Rattle.whole.specs.Refused.{RefusedKeeps}
use Rattle.sreg_hour.specs.Hour.{refused_sreg}
use Rattle.sreg_hour.specs.Calls.{sreg_handed, sreg_run}
use Rattle.sreg_hour.specs.declared.Settled.{Settled}
use Rattle.sreg_hour.proofs.Laws.{refusal_is, refused_is, scores_refused}
use Rattle.sreg_hour.proofs.sreg_hour.Reads as sreg_hour_reads
use Rattle.sreg_hour.proofs.sreg_hour.Kinds as sreg_hour_kinds

sreg_hour_refused_keeps : RefusedKeeps 6 sreg_hour_kinds.ps sreg_hour_kinds.r (λ κs r. r.hour.refusal) (λ κs a k. refused_sreg k) sreg_run sreg_run sreg_hour_reads.Post
sreg_hour_refused_keeps κs a r s p f =
    let h = sreg_handed κs a in
    let run = sreg_run κs a in
    let number = ap (λ (x : Settled). x.hour.refusal) p.0 ∙ refusal_is h (length run) in
    (p.0 ∙ refused_is h (length run) (λ z. f (number ∙ z)) ∙ sym (ap refused_sreg number), p.1 ∙ scores_refused h run (λ z. f (number ∙ z)))
