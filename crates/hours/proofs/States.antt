-- The state that is handed in, by its three numbers: which it is by a kind, and what the kind does not use. By the tests of the definition, one after the other. Assumes nothing.
use Rattle.std.proofs.Common.{◌≡◌, ℕ, true, false, ℤ, pos, arith}
use Rattle.whole.proofs.Bounds.{in_range_lem}
use Rattle.whole.proofs.Choice.{by_test}
use Rattle.whole.proofs.Signed.{inside, signed}
use Rattle.units.specs.Units.{kilowatts}
use Rattle.sreg.specs.declared.EventState.TheVariants.{Outside, Responding, Holding, Recovering}
use Rattle.numbers.specs.Numbers.{byte_of}
use Rattle.hours.specs.Hours.{equals, state_asked, no_state}

same : (z : ℤ) (n : ℕ) → z ≡ pos n → equals z (pos n) ≡ true
same z n e = in_range_lem (omega (signed, e))

other : (z : ℤ) (n : ℕ) → (z ≡ pos n → ⊥) → equals z (pos n) ≡ false
other z n f = by_test (equals z (pos n)) (λ t. absurd (f (omega (signed, inside t)))) (λ e. e)

-- a number is not another
apart : (z : ℤ) (m n : ℕ) → z ≡ pos m → (m ≡ n → ⊥) → equals z (pos n) ≡ false
apart z m n e f = other z n (λ g. f (omega (signed, e, g)))

module _ (kind power count : ℤ) where
  pub outside : kind ≡ pos 0 → power ≡ pos 0 → count ≡ pos 0 → Outside ≡ state_asked kind power count
  unfolding state_asked
  outside k p n = rw (same kind 0 k, same power 0 p, same count 0 n)

  pub responding : kind ≡ pos 1 → Responding (kilowatts power) (byte_of count) ≡ state_asked kind power count
  unfolding state_asked
  responding k = rw (apart kind 1 0 k (λ e. omega (arith, e)), same kind 1 k)

  pub holding : kind ≡ pos 2 → count ≡ pos 0 → Holding (kilowatts power) ≡ state_asked kind power count
  unfolding state_asked
  holding k n = rw (apart kind 2 0 k (λ e. omega (arith, e)), apart kind 2 1 k (λ e. omega (arith, e)), same kind 2 k, same count 0 n)

  pub recovering : kind ≡ pos 3 → power ≡ pos 0 → Recovering (byte_of count) ≡ state_asked kind power count
  unfolding state_asked
  recovering k p = rw (apart kind 3 0 k (λ e. omega (arith, e)), apart kind 3 1 k (λ e. omega (arith, e)), apart kind 3 2 k (λ e. omega (arith, e)), same kind 3 k, same power 0 p)

  -- a number that the kind does not use, and another kind
  pub outside_power : kind ≡ pos 0 → (power ≡ pos 0 → ⊥) → no_state ≡ state_asked kind power count
  unfolding state_asked
  outside_power k f = rw (same kind 0 k, other power 0 f, apart kind 0 1 k (λ e. omega (arith, e)), apart kind 0 2 k (λ e. omega (arith, e)), apart kind 0 3 k (λ e. omega (arith, e)))

  pub outside_count : kind ≡ pos 0 → power ≡ pos 0 → (count ≡ pos 0 → ⊥) → no_state ≡ state_asked kind power count
  unfolding state_asked
  outside_count k p f = rw (same kind 0 k, same power 0 p, other count 0 f, apart kind 0 1 k (λ e. omega (arith, e)), apart kind 0 2 k (λ e. omega (arith, e)), apart kind 0 3 k (λ e. omega (arith, e)))

  pub holding_count : kind ≡ pos 2 → (count ≡ pos 0 → ⊥) → no_state ≡ state_asked kind power count
  unfolding state_asked
  holding_count k f = rw (apart kind 2 0 k (λ e. omega (arith, e)), apart kind 2 1 k (λ e. omega (arith, e)), same kind 2 k, other count 0 f, apart kind 2 3 k (λ e. omega (arith, e)))

  pub recovering_power : kind ≡ pos 3 → (power ≡ pos 0 → ⊥) → no_state ≡ state_asked kind power count
  unfolding state_asked
  recovering_power k f = rw (apart kind 3 0 k (λ e. omega (arith, e)), apart kind 3 1 k (λ e. omega (arith, e)), apart kind 3 2 k (λ e. omega (arith, e)), same kind 3 k, other power 0 f)

  pub no_kind : (kind ≡ pos 0 → ⊥) → (kind ≡ pos 1 → ⊥) → (kind ≡ pos 2 → ⊥) → (kind ≡ pos 3 → ⊥) → no_state ≡ state_asked kind power count
  unfolding state_asked
  no_kind a b c d = rw (other kind 0 a, other kind 1 b, other kind 2 c, other kind 3 d)

-- what `state_asked` goes by
pub ruleset stating = (outside, responding, holding, recovering, outside_power, outside_count, holding_count, recovering_power, no_kind)
