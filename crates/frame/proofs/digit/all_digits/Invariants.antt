-- `frame::digit::all_digits` meets its contract. The loop's invariant: what was found, and then the digits left, decide.
use Rattle.std.proofs.Common.{◌≡◌, ◌&&◌, drop}
use Rattle.frame.specs.Digits.{all_digits}
use Rattle.frame.proofs.digit.all_digits.Given as goal

abbrev pub invariant-loop-d : goal.invariant-loop-d
invariant-loop-d l = all_digits l.line ≡ l.all && all_digits (drop l.d-index l.line)
