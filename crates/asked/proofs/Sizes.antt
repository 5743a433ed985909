-- A number that is kept finds room, and a question that is opened has the same count. By the tests. Assumes nothing.
use Prim.Native.Nat.{ℕ, ◌<◌}
use mathlib.Core.Path.{◌≡◌}
use mathlib.Core.Bool.{true, false}
use lib.Dec.{ltb}
use borrow.Author.Tests.{ltb-true}
use Rattle.whole.specs.Choice.{unless}
use Rattle.whole.proofs.Choice.{by_test, passed, both_passed}
use Rattle.tokens.specs.Tokens.{token_number}
use Rattle.tokens.specs.declared.Token.{Token}
use Rattle.asked.specs.Asking.{most_numbers, asking, fault_in, token_fault, named}
use Rattle.asked.specs.declared.Asked.{Asked}

-- a number that is kept finds room
pub kept_room_lem : (count : ℕ) (token : Token) → token_fault count token ≡ 0 → count < most_numbers
unfolding fault_in
kept_room_lem count token h =
    ltb-true count most_numbers (passed (ltb count most_numbers) 103 0 (both_passed (token_number token).fault (unless (ltb count most_numbers) 104 0) h).1).0

-- a question that is opened has the same count
pub count_asking : (asked : Asked) (line : ℕ) → (asking asked line).count ≡ asked.count
unfolding asking named
count_asking asked line =
    by_test asked.opened
    (λ (t : asked.opened ≡ true). rw t)
    (λ (t : asked.opened ≡ false). rw t)
