-- Demand 1: a refusal of a public function's contract gives its number only; the run is lent to be read. `factor_of` is stated
-- over `clauses`, as in Determined.antt, and `check_bands` answers nothing but a number. By the type: a refusal has nothing beside it. Assumes nothing.
use mathlib.Core.Path.{◌≡◌}
use seplogic.Ra.Ura.{Ura}
use base.Logic.{SProp, ent}
use contract.Lifetimes.{Lfts}
use contract.Monad.{Fun, fact, fact_mono}
use denote.Triple.Clauses.{AtExit}
use denote.Triple.Entry.{Args}
use types.Logic.{Logic}
use prog.Memory.{Memory}
use prog.Routine.{Routine}
use lib.IntN.{ℤ}
use Rattle.std.specs.Prelude.{Result}
use Rattle.units.specs.Refusals.{told_number, refused_as}
use Rattle.units.specs.declared.refusal.Refusal.{Refusal}
use Rattle.units.proofs.Numbered.{bare}
use Rattle.records.specs.contracts.factor_of as factor_of

module _ {M : Type 1} {𝓤 : Ura M} (𝓛 : Logic 𝓤) (mem : Memory → SProp 𝓤) (run : Routine → Fun 𝓤) where
  factor_of_refused_keeps : (κs : Lfts 1) (a : Args factor_of.signature κs) (x : Result ℤ Refusal) (s : AtExit factor_of.ended κs) →
      ent 𝓤 ((factor_of.clauses 𝓛 mem run κs a).ensures tt x s) (fact 𝓤 ((told_number x ≡ 0 → ⊥) → x ≡ refused_as (told_number x)))
  factor_of_refused_keeps κs a x s = fact_mono 𝓤 _ _ (λ e. bare x)
