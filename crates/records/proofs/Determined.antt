-- Answers that meet a public function's contract are equal: each contract is one equation. Assumes nothing.
use mathlib.Core.Path.{◌≡◌, sym, ◌∙◌}
use seplogic.Ra.Ura.{Ura}
use base.Logic.{SProp, ent, sep, fst∗, snd∗}
use contract.Lifetimes.{Lfts}
use contract.Monad.{Fun, fact, fact_i, fact_use}
use denote.Triple.Clauses.{Ended, AtExit, Clauses}
use denote.Triple.Entry.{Args, Res}
use types.Logic.{Logic}
use prog.Memory.{Memory}
use prog.Routine.{Routine}
use Rattle.records.specs.contracts.check_bands as check_bands
use Rattle.records.specs.contracts.factor_of as factor_of

-- The contract here is the clause `ensures` as the toolchain reads it off the source, a proposition of the logic that programs are proved
-- in (the older toolchain had no `Reads` of a function that takes a slice of structs); there it is that two answers which meet it are equal.
module _ {M : Type 1} (𝓤 : Ura M) where
  abbrev WalkedDetermined : (T : Ended) → Clauses 𝓤 T → Type 1
  WalkedDetermined T c =
      (κs : Lfts T.signature.lifetimes) (a : Args T.signature κs) (g : (c κs a).ghost) (x y : Res T.signature κs) (s t : AtExit T κs) →
      ent 𝓤 (sep 𝓤 ((c κs a).ensures g x s) ((c κs a).ensures g y t)) (fact 𝓤 (x ≡ y))

  both_equal : {X : Type 0} (x y z : X) → ent 𝓤 (sep 𝓤 (fact 𝓤 (x ≡ z)) (fact 𝓤 (y ≡ z))) (fact 𝓤 (x ≡ y))
  both_equal x y z =
      let P = sep 𝓤 (fact 𝓤 (x ≡ z)) (fact 𝓤 (y ≡ z)) in
      fact_use 𝓤 (x ≡ z) (fst∗ 𝓤 (fact 𝓤 (x ≡ z)) (fact 𝓤 (y ≡ z)))
      (λ (p : x ≡ z). fact_use 𝓤 (y ≡ z) (snd∗ 𝓤 (fact 𝓤 (x ≡ z)) (fact 𝓤 (y ≡ z))) (λ (q : y ≡ z). fact_i 𝓤 (x ≡ y) P (p ∙ sym q)))

  module _ (𝓛 : Logic 𝓤) (mem : Memory → SProp 𝓤) (run : Routine → Fun 𝓤) where
    check_bands_determined : WalkedDetermined check_bands.ended (check_bands.clauses 𝓛 mem run)
    check_bands_determined κs a g x y s t = both_equal x y _

    factor_of_determined : WalkedDetermined factor_of.ended (factor_of.clauses 𝓛 mem run)
    factor_of_determined κs a g x y s t = both_equal x y _
