-- A turn adds one number more, which lies in the range, so that the sum fits.
use Rattle.std.proofs.Common.{rules, ◌≡◌, ℕ, ◌+◌, ◌*◌, ◌<◌, ◌≤◌, Bool, pos, get_or, length, true, false, sym, ◌∙◌, ℤ, ◌+ℤ◌, List, SFits, to_z}
use Rattle.std.specs.Int.{w64}
use mir.Facts.{to_z-of_z}
use Rattle.std.specs.Prelude.{None}
use mathlib.Core.Bool.{◌&&◌, and-false}
use native.Mathlib.Omega.{arith}
use borrow.Author.Tests.{le-leb, lt-leb}
use Rattle.whole.specs.Folds.{all_to, sum_to}
use Rattle.whole.specs.Whole.{minus, Within, in_range, all_in_range}
use Rattle.whole.specs.Inner.{most_terms, most_term, summed}
use Rattle.whole.proofs.Choice.{both}
use Rattle.whole.proofs.Folds.{fold_none, fold_step, all_at, all_fails}
use Rattle.whole.proofs.Signed.{signed}
use Rattle.whole.proofs.Sums.{in_within, sum_within}
use Rattle.whole.proofs.sum.Goals as goal

pub returns-then-run-gt-MOST_TERMS : goal.returns-then-run-gt-MOST_TERMS
unfolding summed
returns-then-run-gt-MOST_TERMS c = rw (lt-leb _ _ c.if-run-gt-MOST_TERMS.true)

pub loop-x-init : goal.loop-x-init
loop-x-init c = (fold_none true ◌&&◌ _, sym (fold_none (pos 0) ◌+ℤ◌ _))

module _ (run : List ℤ) (i : ℕ) (inside : i < length run) where
  abbrev small : ℕ → Bool
  small k = in_range (minus most_term) (pos most_term) (get_or run k (pos 0))

  -- one outside: no sum is taken
  outside : false ≡ small i → summed run ≡ None
  unfolding summed all_in_range
  outside e = let f : all_in_range (minus most_term) (pos most_term) run ≡ false = all_fails (length run) small i inside (sym e) in rw (f, and-false)

  module _ (all : all_to i small ≡ true) (e : true ≡ small i) where
    more : all_to (i + 1) small ≡ true
    more = fold_step true ◌&&◌ _ _ ∙ both all (sym e)

    -- the sum with the number at i fits
    fits : length run ≤ most_terms → SFits w64 (sum_to i (λ k. get_or run k (pos 0)) +ℤ get_or run i (pos 0))
    fits n =
        let each : (k : ℕ) → k < i + 1 → Within most_term (get_or run k (pos 0)) = λ k h. in_within (all_at (i + 1) small more k h) in
        let w : Within (most_term * i) (sum_to i (λ k. get_or run k (pos 0))) = sum_within i (λ k. get_or run k (pos 0)) (λ k h. each k (omega arith)) in
        let x : Within most_term (get_or run i (pos 0)) = each i (omega arith) in
        omega signed

pub returns-then-not-within : goal.returns-then-not-within
returns-then-not-within c = let f : SFits w64 (get_or c.args.run.now c.loop-x.x-index (pos 0)) = search rules in
    sym (outside c.args.run.now c.loop-x.x-index c.loop-x-test.true (rw (to_z-of_z f) at c.if-not-within.ensures))

pub overflow_add-sum : goal.overflow_add-sum
overflow_add-sum c = let f : SFits w64 (get_or c.args.run.now c.loop-x.x-index (pos 0)) = search rules in
    rw (to_z-of_z f, c.loop-x.invariant.1) (fits c.args.run.now c.loop-x.x-index c.loop-x-test.true c.loop-x.invariant.0 (rw (to_z-of_z f) at c.if-not-within.ensures) c.if-run-gt-MOST_TERMS.false)

pub loop-x-preserved : goal.loop-x-preserved
loop-x-preserved c = let f : SFits w64 (get_or c.args.run.now c.loop-x.x-index (pos 0)) = search rules in (
  more c.args.run.now c.loop-x.x-index c.loop-x-test.true c.loop-x.invariant.0 (rw (to_z-of_z f) at c.if-not-within.ensures),
  rw (to_z-of_z (overflow_add-sum c), to_z-of_z f, c.loop-x.invariant.1) (sym (fold_step (pos 0) ◌+ℤ◌ _ _)),
)

pub returns : goal.returns
unfolding summed all_in_range
returns c = let n : c.loop-x.x-index ≡ length c.args.run.now = omega arith in
    let e : all_in_range (minus most_term) (pos most_term) c.args.run.now ≡ true = rw n at c.loop-x.invariant.0 in
    let s : to_z w64 c.loop-x.sum-bits ≡ sum_to (length c.args.run.now) (λ k. get_or c.args.run.now k (pos 0)) = rw n at c.loop-x.invariant.1 in
    rw (le-leb (length c.args.run.now) most_terms c.if-run-gt-MOST_TERMS.false, e, s)
