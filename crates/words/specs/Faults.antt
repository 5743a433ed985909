-- The faults of a question that cannot be answered (docs/DESK.md, "Reading").
use Rattle.std.specs.Prelude.{ℕ}

abbrev pub not_question : ℕ
not_question = 101

abbrev pub too_large : ℕ
too_large = 102

abbrev pub too_few : ℕ
too_few = 103

abbrev pub too_many : ℕ
too_many = 104

abbrev pub not_number : ℕ
not_number = 105
