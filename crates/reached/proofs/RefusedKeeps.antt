-- A refused question has its number, every field 0 and the answer no: the answer goes by the call's number. Assumes nothing.
use mathlib.Core.Path.{refl}
use Rattle.whole.specs.Refused.{RefusedBare}
use Rattle.whole.proofs.Refused.{refused_bare}
use Rattle.reached.specs.Reached.{verdict_refusal, no_verdict, hour_reached}
use Rattle.reached.specs.declared.Verdict.{Verdict}
use Rattle.reached.proofs.reached.Reads as reached
use Rattle.reached.proofs.reached.Kinds as reached_kinds

reached_refused_keeps : RefusedBare 2 reached_kinds.ps reached_kinds.r (λ κs x. x.refusal) (λ κs a. no_verdict) reached.Post
unfolding hour_reached
reached_refused_keeps κs (earlier, (scores, (threshold, end))) x s p f =
    refused_bare (λ (r : Verdict). r.refusal) no_verdict (verdict_refusal earlier.now scores.now threshold) _ refl refl p f
