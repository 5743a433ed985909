-- A frequency from 55,000 to 65,000 mHz with a reference from 59,500 to 60,500 is not turned away, and has the two lines' bounds, each corner moved with the reference. Stated over the contract as
-- the toolchain reads it. Assumes nothing.
use mathlib.Core.Path.{◌≡◌, ◌∙◌}
use contract.Lifetimes.{Lfts}
use denote.Triple.Clauses.{AtExit}
use borrow.Fn.Kinds.{ended_of}
use Rattle.std.specs.Prelude.{Result, Ok}
use Rattle.units.specs.declared.refusal.Refusal.{Refusal}
use Rattle.units.specs.declared.Millihertz.{Millihertz}
use Rattle.curve.specs.Curve.{upper_by, lower_by}
use Rattle.curve.specs.Moved.{CurveFits}
use Rattle.curve.specs.declared.Bounds.{Bounds}
use Rattle.curve.proofs.Limits.{fit_curve, curve_granted}
use Rattle.curve.proofs.curve.Reads as curve
use Rattle.curve.proofs.curve.Kinds as curve_kinds

pub curve_accepted : (κs : Lfts 0) (frequency reference : Millihertz) (x : Result Bounds Refusal) (s : AtExit (ended_of 0 curve_kinds.ps curve_kinds.r) κs)
    → curve.Post κs (frequency, (reference, tt)) x s → CurveFits frequency reference
    → x ≡ Ok (record { upper = upper_by reference.0 frequency.0; lower = lower_by reference.0 frequency.0 })
curve_accepted κs frequency reference x s p e = p ∙ curve_granted frequency reference (fit_curve frequency reference e)
