-- A refused hour is its number alone: the answer goes by one number. Assumes nothing.
use Prim.Native.Nat.{ℕ}
use mathlib.Core.Path.{refl}
use Rattle.whole.specs.Refused.{RefusedBare}
use Rattle.whole.proofs.Refused.{refused_bare}
use Rattle.units.specs.Limits.{is_factor}
use Rattle.bands.specs.Bands.{bands_fit}
use Rattle.settlement.specs.Settlement.{granted_hour, refused_hour, earned_by, settled_of, at_refusal, settled_at, earned_at}
use Rattle.settlement.specs.declared.Settlement.{Settlement}
use Rattle.settlement.proofs.settled_at.Reads as settled_at_reads
use Rattle.settlement.proofs.settled_at.Kinds as settled_at_kinds
use Rattle.settlement.proofs.earned_at.Reads as earned_at_reads
use Rattle.settlement.proofs.earned_at.Kinds as earned_at_kinds

abbrev number : Settlement → ℕ
number r = r.refusal

settled_at_refused_keeps : RefusedBare 2 settled_at_kinds.ps settled_at_kinds.r (λ κs r. number r) (λ κs a k. refused_hour k) settled_at_reads.Post
unfolding settled_at settled_of earned_by granted_hour refused_hour
settled_at_refused_keeps κs a r s p f =
    refused_bare number refused_hour (at_refusal a.0 (bands_fit a.1.0.now a.1.1.0.now) a.1.1.1.0 a.1.1.1.1.0) _ refl refl p f

earned_at_refused_keeps : RefusedBare 0 earned_at_kinds.ps earned_at_kinds.r (λ κs r. number r) (λ κs a k. refused_hour k) earned_at_reads.Post
unfolding earned_at earned_by granted_hour refused_hour
earned_at_refused_keeps κs a r s p f =
    refused_bare number refused_hour (at_refusal a.0 (is_factor a.1.0) a.1.1.0 a.1.1.1.0) _ refl refl p f
