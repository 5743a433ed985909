-- Document 01, "Numbers that are turned away": each number once, with the paper's words.
use Rattle.std.specs.Prelude.{ℕ, eqb, Result, Ok, Err}
use Rattle.whole.specs.Choice.{pick}
use Rattle.units.specs.declared.refusal.Refusal.{Refusal}
use Rattle.units.specs.declared.refusal.Refusal.TheVariants.{WrongLength, BadCapacity, BadMoney, BadReading, BadBands, NotInMonth, PlaceFilled, PlaceEmpty, MonthClosed, BadTransfer, BadDigit, BadSum, BadKind, NotOpen, BadEnergy, BadAmount, NotFinite, WrongSecond, BadReference, NotReachable}

-- a run or line of the wrong length
abbrev pub wrong_length : ℕ
wrong_length = 1

-- capacity outside 1 to 100,000 kW
abbrev pub bad_capacity : ℕ
bad_capacity = 2

-- a price outside 0 to 10,000,000; average cost (ten-thousandths of a dollar) outside 0 to 1,000,000; ledger amount outside -10^9 to 10^9;
-- loss fee outside 0 to 10^11
abbrev pub bad_money : ℕ
bad_money = 3

-- power outside -200,000 to 200,000 or frequency outside 55,000 to 65,000; a score or rate handed in outside 0 to 100
abbrev pub bad_reading : ℕ
bad_reading = 4

-- bands against the rule, a list of 0 or more than 16 records included; a threshold that is asked about, above 100 (document 02, #106)
abbrev pub bad_bands : ℕ
bad_bands = 5

-- days not 28 to 31, day not in the month, hour above 23
abbrev pub not_in_month : ℕ
not_in_month = 6

-- place filled
abbrev pub place_filled : ℕ
place_filled = 7

-- place empty (replace, withdraw, read-out)
abbrev pub place_empty : ℕ
place_empty = 8

-- month closed
abbrev pub month_closed : ℕ
month_closed = 9

-- a transfer target outside -100,000 to 100,000 kW, or a figure outside -100 to 100 MW in the conversion
abbrev pub bad_transfer : ℕ
bad_transfer = 10

-- a digit not allowed
abbrev pub bad_digit : ℕ
bad_digit = 11

-- frame sum wrong
abbrev pub bad_sum : ℕ
bad_sum = 12

-- kind unknown, or an unused field not zero
abbrev pub bad_kind : ℕ
bad_kind = 13

-- program: frame before a month is open (a refused open opens none), or a second open
abbrev pub not_open : ℕ
not_open = 14

-- energy outside 0 to 100,000,000 kWh; voltage outside 1 to 1,000,000 V
abbrev pub bad_energy : ℕ
bad_energy = 15

-- joint call: amount outside -10^9 to 10^9
abbrev pub bad_amount : ℕ
bad_amount = 16

-- a single that is NaN or infinite (document 02, #105)
abbrev pub not_finite : ℕ
not_finite = 17

-- a second out of order (document 02, #105)
abbrev pub wrong_second : ℕ
wrong_second = 18

-- a reference outside 59,500 to 60,500 (document 02, #107)
abbrev pub bad_reference : ℕ
bad_reference = 19

-- a handed-in ledger that no run of calls from a fresh month hands back
abbrev pub not_reachable : ℕ
not_reachable = 22

-- the number of each
abbrev pub paper_number : Refusal → ℕ
paper_number WrongLength = wrong_length
paper_number BadCapacity = bad_capacity
paper_number BadMoney = bad_money
paper_number BadReading = bad_reading
paper_number BadBands = bad_bands
paper_number NotInMonth = not_in_month
paper_number PlaceFilled = place_filled
paper_number PlaceEmpty = place_empty
paper_number MonthClosed = month_closed
paper_number BadTransfer = bad_transfer
paper_number BadDigit = bad_digit
paper_number BadSum = bad_sum
paper_number BadKind = bad_kind
paper_number NotOpen = not_open
paper_number BadEnergy = bad_energy
paper_number BadAmount = bad_amount
paper_number NotFinite = not_finite
paper_number WrongSecond = wrong_second
paper_number BadReference = bad_reference
paper_number NotReachable = not_reachable

-- the number of an answer, 0 where it is no refusal
abbrev pub told_number : {A : Type 0} → Result A Refusal → ℕ
told_number (Ok a) = 0
told_number (Err r) = paper_number r

-- the refusal of a number, and the answer that is that refusal and nothing else
abbrev pub refusal_numbered : ℕ → Refusal
refusal_numbered k =
    pick (eqb k wrong_length) WrongLength
    (pick (eqb k bad_capacity) BadCapacity
    (pick (eqb k bad_money) BadMoney
    (pick (eqb k bad_reading) BadReading
    (pick (eqb k bad_bands) BadBands
    (pick (eqb k not_in_month) NotInMonth
    (pick (eqb k place_filled) PlaceFilled
    (pick (eqb k place_empty) PlaceEmpty
    (pick (eqb k month_closed) MonthClosed
    (pick (eqb k bad_transfer) BadTransfer
    (pick (eqb k bad_digit) BadDigit
    (pick (eqb k bad_sum) BadSum
    (pick (eqb k bad_kind) BadKind
    (pick (eqb k not_open) NotOpen
    (pick (eqb k bad_energy) BadEnergy
    (pick (eqb k bad_amount) BadAmount
    (pick (eqb k not_finite) NotFinite
    (pick (eqb k wrong_second) WrongSecond
    (pick (eqb k bad_reference) BadReference
    NotReachable))))))))))))))))))

abbrev pub refused_as : {A : Type 0} → ℕ → Result A Refusal
refused_as k = Err (refusal_numbered k)

-- what a call answers by its refusals in order: that number, or, where it is 0, the answer
abbrev pub result_by : {A : Type 0} → ℕ → A → Result A Refusal
result_by k a = pick (eqb k 0) (Ok a) (refused_as k)
