-- `frame::digit::encode` meets its contract. The loop's invariant: the digits put, and then those of the bytes that are left, are the digits
-- of all.
use Rattle.std.proofs.Common.{◌≡◌, ◌*◌, ◌++◌, take, drop}
use Rattle.frame.specs.Digits.{digits_of}
use Rattle.frame.proofs.digit.encode.Given as goal

abbrev pub invariant-loop-i : goal.invariant-loop-i
invariant-loop-i l = take (2 * l.i) l.line ++ digits_of (drop l.i l.bytes) ≡ digits_of l.bytes
