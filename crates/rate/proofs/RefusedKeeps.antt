-- Refused scores have their number and a rate of 0 beside it: the answer goes by the call's number. Assumes nothing.
use mathlib.Core.Path.{refl}
use Rattle.whole.specs.Refused.{RefusedBare}
use Rattle.whole.proofs.Refused.{refused_bare}
use Rattle.rate.specs.Rolling.{scores_refusal, no_rate, hourly_rate}
use Rattle.rate.specs.declared.Rated.{Rated}
use Rattle.rate.proofs.hourly_rate.Reads as hourly_rate_lem
use Rattle.rate.proofs.hourly_rate.Kinds as hourly_rate_kinds

hourly_rate_refused_keeps : RefusedBare 2 hourly_rate_kinds.ps hourly_rate_kinds.r (λ κs x. x.refusal) (λ κs a. no_rate) hourly_rate_lem.Post
unfolding hourly_rate
hourly_rate_refused_keeps κs (earlier, (scores, end)) x s p f = refused_bare (λ (r : Rated). r.refusal) no_rate (scores_refusal earlier.now scores.now) _ refl refl p f
