-- `frame::digit::put_values` meets its contract. The loop's invariant: the bytes put, and then those of the digits that are left, are the
-- bytes of all; and the digits left are allowed.
use Rattle.std.proofs.Common.{◌≡◌, ◌*◌, ◌++◌, true, take, drop}
use Rattle.frame.specs.Digits.{all_digits, bytes_of}
use Rattle.frame.proofs.digit.put_values.Given as goal

abbrev pub invariant-loop-i : goal.invariant-loop-i
invariant-loop-i l =
    (all_digits (drop (2 * l.i) l.line) ≡ true)
    × (take l.i l.bytes ++ bytes_of (drop (2 * l.i) l.line) ≡ bytes_of l.line)
