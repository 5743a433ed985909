-- The shape of a question's numbers: single ones, then lists, each with its count before it, then so many, or groups of so many (docs/DESK.md, "Questions").
use Rattle.std.specs.Prelude.{ℕ, ◌+◌, ◌-◌, ◌*◌, ◌%◌, Bool, true, List, [], ◌∷◌, eqb, leb, ℤ, pos, length, get_or}
use Rattle.whole.specs.Choice.{pick, in_order}
use Rattle.whole.specs.Whole.{up, in_range}
use Rattle.numbers.specs.Numbers.{number}
use Rattle.words.specs.Faults.{too_few, too_many}
use Rattle.words.specs.declared.Shape.{Shape}
use Rattle.numbers.specs.declared.Span.{Span}
use Rattle.numbers.specs.declared.Places.{Places}

-- "N outside 0 to 100 counts as 0 for the count of numbers"
abbrev pub is_count : ℤ → Bool
is_count = in_range (pos 0) (pos 100)

-- how many entries a count says that there are
unfoldable pub said : ℤ → ℕ
said z = pick (is_count z) (up z) 0

-- a list whose count stands at a place, its entries of so many numbers; of 0 numbers, no list
unfoldable pub list_at : List ℤ → ℕ → ℕ → Span
list_at n at width =
    pick (eqb width 0) (record { start = at; end = at; counted = true })
    (record { start = at + 1; end = at + 1 + width * said (number n at); counted = is_count (number n at) })

-- what is wrong with the count of numbers, those from a place on being so many, or so many and then groups
unfoldable pub end_fault : List ℤ → ℕ → ℕ → ℕ → ℕ
end_fault n at tail group =
    let left = length n - (at + tail) in
    in_order ((leb (at + tail) (length n), too_few) ∷ pick (eqb group 0) (eqb left 0, too_many) (eqb (left % group) 0, too_few) ∷ [])

-- A QUESTION'S NUMBERS, CUT BY THEIR SHAPE
unfoldable pub cut_of : Shape → List ℤ → Places
cut_of s n =
    let first = list_at n s.head (get_or s.lists 0 0) in
    let second = list_at n first.end (get_or s.lists 1 0) in
    let third = list_at n second.end (get_or s.lists 2 0) in
    let fourth = list_at n third.end (get_or s.lists 3 0) in
    record {
      fault = end_fault n fourth.end s.tail s.group;
      first = first;
      second = second;
      third = third;
      fourth = fourth;
      tail = fourth.end;
    }
