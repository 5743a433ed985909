-- Fit bands are never turned away: an answer that meets the contract is no refusal there, and its factor is that of the first record whose threshold is
-- at most the rate. Stated over the contracts as the toolchain reads them; by the tests of the rule. Assumes nothing.
use Prim.Native.Nat.{ℕ, ◌≤◌}
use mathlib.Core.Path.{◌≡◌, ◌∙◌}
use mathlib.Core.List.{List}
use lib.IntN.{ℤ, pos}
use lib.ListN.{get_or}
use borrow.Author.Tests.{le-leb}
use borrow.Fn.Kinds.{ended_of}
use contract.Lifetimes.{Lfts}
use denote.Ref.{Bor}
use denote.Triple.Clauses.{AtExit}
use Rattle.units.specs.Limits.{most_score}
use Rattle.bands.specs.Bands.{first_place}
use Rattle.std.specs.Prelude.{Result, Ok}
use Rattle.units.specs.declared.refusal.Refusal.{Refusal}
use Rattle.units.proofs.Numbered.{answered_ok}
use Rattle.bands.proofs.Laws.{bands_pass, lookup_passes, first_is, factor_granted}
use Rattle.bands.specs.Accepted.{BandsFit, First}
use Rattle.bands.proofs.check.Reads as check
use Rattle.bands.proofs.check.Kinds as check_kinds
use Rattle.bands.proofs.factor.Reads as factor
use Rattle.bands.proofs.factor.Kinds as factor_kinds

pub check_accepted : (κs : Lfts 2) (thresholds factors : Bor (List ℤ)) (x : Result (Unit {0}) Refusal) (s : AtExit (ended_of 2 check_kinds.ps check_kinds.r) κs)
    → check.Post κs (thresholds, (factors, tt)) x s → BandsFit thresholds.now factors.now → x ≡ Ok (tt {0})
check_accepted κs thresholds factors x s p f = p ∙ answered_ok (tt {0}) (bands_pass f)

pub factor_accepted : (κs : Lfts 2) (thresholds factors : Bor (List ℤ)) (rate : ℕ) (x : Result ℤ Refusal) (s : AtExit (ended_of 2 factor_kinds.ps factor_kinds.r) κs)
    → factor.Post κs (thresholds, (factors, (rate, tt))) x s → BandsFit thresholds.now factors.now → rate ≤ most_score →
    let place = first_place thresholds.now (pos rate) in
    (x ≡ Ok (get_or factors.now place (pos 0))) × First thresholds.now factors.now rate place
factor_accepted κs thresholds factors rate x s p f h = (
  p ∙ factor_granted thresholds.now factors.now rate (lookup_passes thresholds.now factors.now rate (bands_pass f) h),
  first_is (record { bands = f; rating = le-leb rate most_score h }),
)
