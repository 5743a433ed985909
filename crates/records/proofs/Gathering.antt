-- Columns answer as the records that were gathered into them: up to 16 records are all in the columns, and of more it is known that they
-- are too many, which is 5 either way. By induction on the records. Assumes nothing.
use Prim.Native.Nat.{ℕ, ◌+◌, ◌≤◌, ◌<◌}
use mathlib.Core.Path.{◌≡◌, refl, sym, ap, ◌∙◌}
use mathlib.Core.Bool.{true, false, and-false}
use mathlib.Core.List.{List, [], ◌∷◌, ◌++◌, append_assoc, append-nil}
use native.Mathlib.Omega.{arith}
use native.Mathlib.Numerals.{add-one}
use lib.Dec.{leb, ltb}
use lib.IntN.{ℤ}
use lib.ListN.{length, set, take, length-set, length-map}
use lib.Seq.{take-suc-set}
use borrow.Author.Tests.{ltb-true, ltb-false, leb-true, leb-false, lt-ltb, le-ltb, le-leb, lt-leb}
use Rattle.whole.proofs.Choice.{by_test}
use Rattle.units.specs.Limits.{most_bands}
use Rattle.records.specs.declared.Band.{Band}
use Rattle.records.specs.declared.Columns.{Columns}
use Rattle.units.specs.Refusals.{result_by}
use Rattle.bands.specs.Bands.{bands_fit, bands_refusal, factor_refusal, factor_answer}
use Rattle.records.specs.Records.{thresholds_of, factors_of, records_refusal, records_answer}
use Rattle.records.specs.Inner.{none, next, gathered, passing, refusal_in, gathered_answer}

-- the filled places of a column with one number more
one_more_lem : (l : List ℤ) (n : ℕ) (x : ℤ) (xs : List ℤ) → n < length l → take (n + 1) (set l n x) ++ xs ≡ take n l ++ (x ∷ xs)
one_more_lem l n x xs h = rw (add-one, take-suc-set l n x h, append_assoc)

pub gathered_end : (c : Columns) → gathered c [] ≡ c
unfolding gathered
gathered_end c = refl

module _ (c : Columns) (b : Band) (bs : List Band) where
  abbrev stored : Columns
  stored = record { thresholds = set c.thresholds c.count b.threshold; factors = set c.factors c.count b.factor; count = c.count + 1 }

  abbrev passed_over : Columns
  passed_over = record { thresholds = c.thresholds; factors = c.factors; count = most_bands + 1 }

  gathered_stored : c.count < most_bands → gathered c (b ∷ bs) ≡ gathered stored bs
  unfolding gathered next
  gathered_stored h = ap (λ (d : Columns). gathered d bs) (rw (lt-ltb c.count most_bands h, next))

  gathered_over : most_bands ≤ c.count → gathered c (b ∷ bs) ≡ gathered passed_over bs
  unfolding gathered next
  gathered_over h = ap (λ (d : Columns). gathered d bs) (rw (le-ltb c.count most_bands h, next))

-- g are the columns c with all of these records besides
record Holds (c : Columns) (bands : List Band) (g : Columns) : Type 0 where
  count : g.count ≡ c.count + length bands
  thresholds : take g.count g.thresholds ≡ take c.count c.thresholds ++ thresholds_of bands
  factors : take g.count g.factors ≡ take c.count c.factors ++ factors_of bands

holds : (c : Columns) (bands : List Band) → length c.thresholds ≡ most_bands → length c.factors ≡ most_bands → c.count + length bands ≤ most_bands → Holds c bands (gathered c bands)
holds c [] t f h = rw gathered_end (record { count = omega arith; thresholds = sym (append-nil _); factors = sym (append-nil _) })
holds c (b ∷ bs) t f h =
    let r = holds (stored c b bs) bs (simp length-set t) (simp length-set f) (omega arith) in
    rw (gathered_stored c b bs (omega arith))
    (record {
      count = omega (arith, r.count);
      thresholds = r.thresholds ∙ one_more_lem c.thresholds c.count b.threshold (thresholds_of bs) (omega arith);
      factors = r.factors ∙ one_more_lem c.factors c.count b.factor (factors_of bs) (omega arith);
    })

too_many_lem : (c : Columns) (bands : List Band) → c.count ≤ most_bands + 1 → most_bands < c.count + length bands → (gathered c bands).count ≡ most_bands + 1
too_many_lem c [] m h = rw gathered_end (omega arith)
too_many_lem c (b ∷ bs) m h =
    by_test (ltb c.count most_bands)
    (λ (e : ltb c.count most_bands ≡ true).
    let l = ltb-true c.count most_bands e in
    rw (gathered_stored c b bs l) (too_many_lem (stored c b bs) bs (omega arith) (omega arith)))
    (λ (e : ltb c.count most_bands ≡ false).
    rw (gathered_over c b bs (ltb-false c.count most_bands e)) (too_many_lem (passed_over c b bs) bs (omega arith) (omega arith)))

many_unfit : (ts fs : List ℤ) → most_bands < length ts → bands_fit ts fs ≡ false
unfolding bands_fit
many_unfit ts fs h = rw (lt-leb (length ts) most_bands h, and-false)

module _ (bands : List Band) where
  abbrev columns : Columns
  columns = gathered none bands

  abbrev Same : Type 0
  Same = (rate : ℕ) → gathered_answer columns rate ≡ records_answer bands rate

  same_few : length bands ≤ most_bands → Same
  unfolding none gathered_answer records_answer
  same_few h rate =
      let r = holds none bands refl refl (omega arith) in
      let e : leb columns.count most_bands ≡ true = le-leb columns.count most_bands (omega (arith, r.count)) in
      rw (e, r.thresholds, r.factors)

  same_many : most_bands < length bands → Same
  unfolding none gathered_answer records_answer factor_answer factor_refusal
  same_many h rate =
      let n : columns.count ≡ most_bands + 1 = too_many_lem none bands (omega arith) (omega arith) in
      let u : bands_fit (thresholds_of bands) (factors_of bands) ≡ false = many_unfit (thresholds_of bands) (factors_of bands) (simp length-map h) in
      rw (n, u)

  pub answer_in_lem : Same
  answer_in_lem =
      by_test (leb (length bands) most_bands) (λ (e : leb (length bands) most_bands ≡ true). same_few (leb-true (length bands) most_bands e))
      (λ (e : leb (length bands) most_bands ≡ false). same_many (leb-false (length bands) most_bands e))

  -- the number alone, by the answer at rate 0
  pub refusal_in_lem : refusal_in (gathered none bands) ≡ result_by (records_refusal bands) (tt {0})
  unfolding refusal_in records_refusal records_answer bands_refusal factor_answer factor_refusal
  refusal_in_lem =
      ap passing (answer_in_lem 0)
      ∙ by_test (bands_fit (thresholds_of bands) (factors_of bands)) (λ e. rw e) (λ e. rw e)
