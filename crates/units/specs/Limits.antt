-- Document 01, "Numbers that are turned away": the limits of what may be handed in, each once. The code has the same in src/limits.rt.
use Rattle.std.specs.Prelude.{ℕ, ◌*◌, ◌/◌, Bool, ◌&&◌, List, leb, ℤ, pos}
use Rattle.whole.specs.Whole.{minus, in_range, all_in_range}

-- ---- powers, in kW; frequencies, in mHz

-- "capacity outside 1 to 100,000 kW"
abbrev pub most_capacity : ℕ
most_capacity = 100000

abbrev pub is_capacity : ℤ → Bool
is_capacity = in_range (pos 1) (pos most_capacity)

-- "power outside -200,000 to 200,000"
abbrev pub most_power : ℕ
most_power = 200000

abbrev pub is_power : ℤ → Bool
is_power = in_range (minus most_power) (pos most_power)

abbrev pub are_powers : List ℤ → Bool
are_powers = all_in_range (minus most_power) (pos most_power)

-- "frequency outside 55,000 to 65,000"
abbrev pub least_frequency : ℕ
least_frequency = 55000

abbrev pub most_frequency : ℕ
most_frequency = 65000

abbrev pub is_frequency : ℤ → Bool
is_frequency = in_range (pos least_frequency) (pos most_frequency)

abbrev pub are_frequencies : List ℤ → Bool
are_frequencies = all_in_range (pos least_frequency) (pos most_frequency)

-- the reference frequency of document 01's curve; and of a moved one, "59,500 to 60,500 mHz" (document 02, #107)
abbrev pub nominal : ℕ
nominal = 60000

abbrev pub least_reference : ℕ
least_reference = 59500

abbrev pub most_reference : ℕ
most_reference = 60500

abbrev pub is_reference : ℤ → Bool
is_reference = in_range (pos least_reference) (pos most_reference)

-- "a transfer target outside -100,000 to 100,000 kW": a target, and a second's transfer
abbrev pub most_transfer : ℕ
most_transfer = 100000

abbrev pub is_transfer : ℤ → Bool
is_transfer = in_range (minus most_transfer) (pos most_transfer)

abbrev pub are_transfers : List ℤ → Bool
are_transfers = all_in_range (minus most_transfer) (pos most_transfer)

-- "a figure outside -100 to 100 MW in the conversion"
abbrev pub most_award : ℕ
most_award = 100

abbrev pub is_award : ℤ → Bool
is_award = in_range (minus most_award) (pos most_award)

-- ---- a logger's frame, by its fields (document 02, #105)

-- the 32 bits of a single
abbrev pub most_pattern : ℕ
most_pattern = 4294967295

abbrev pub is_pattern : ℤ → Bool
is_pattern = in_range (pos 0) (pos most_pattern)

-- "a two-byte second number"
abbrev pub most_second : ℕ
most_second = 65535

abbrev pub is_second : ℤ → Bool
is_second = in_range (pos 0) (pos most_second)

-- ---- scores and rates, bands

-- "a score or rate handed in outside 0 to 100"; a band's threshold is a rate
abbrev pub most_score : ℕ
most_score = 100

-- "The hour takes these 3 earlier scores or 0" (document 02, #102)
abbrev pub earlier_scores : ℕ
earlier_scores = 3

-- "a factor in tenths, -240 to 10"
abbrev pub least_factor : ℤ
least_factor = minus 240

abbrev pub most_factor : ℤ
most_factor = pos 10

abbrev pub is_factor : ℤ → Bool
is_factor = in_range least_factor most_factor

-- "a list of 1 to 16 records"
abbrev pub most_bands : ℕ
most_bands = 16

-- ---- money

-- "a price outside 0 to 10,000,000" hundredths of a dollar; and so a fee that is handed in, in dollars: no price and capacity bring more
abbrev pub most_price : ℕ
most_price = 10000000

abbrev pub is_price : ℤ → Bool
is_price = in_range (pos 0) (pos most_price)

abbrev pub most_fee : ℕ
most_fee = 10000000

abbrev pub is_fee : ℤ → Bool
is_fee = in_range (pos 0) (pos most_fee)

-- "ledger amount outside -10^9 to 10^9", in dollars
abbrev pub most_amount : ℕ
most_amount = 1000000000

abbrev pub is_amount : ℤ → Bool
is_amount = in_range (minus most_amount) (pos most_amount)

-- "loss fee outside 0 to 10^11", in dollars
abbrev pub most_loss_fee : ℕ
most_loss_fee = 100000000000

abbrev pub is_loss_fee : ℤ → Bool
is_loss_fee = in_range (pos 0) (pos most_loss_fee)

-- ---- the loss fee's energies, voltage and average cost

-- "energy outside 0 to 100,000,000 kWh; voltage outside 1 to 1,000,000 V"
abbrev pub most_energy : ℕ
most_energy = 100000000

abbrev pub is_energy : ℤ → Bool
is_energy = in_range (pos 0) (pos most_energy)

abbrev pub most_voltage : ℕ
most_voltage = 1000000

abbrev pub is_voltage : ℤ → Bool
is_voltage = in_range (pos 1) (pos most_voltage)

-- an energy fee that is handed in, in dollars: the most energy at the most price, in MWh and dollars, brings no more (document 02, #108)
abbrev pub most_energy_paid : ℕ
most_energy_paid = most_energy / 1000 * (most_price / 100)

abbrev pub is_energy_paid : ℤ → Bool
is_energy_paid = in_range (minus most_energy_paid) (pos most_energy_paid)

-- "average cost (ten-thousandths of a dollar) outside 0 to 1,000,000"
abbrev pub most_cost : ℕ
most_cost = 1000000

abbrev pub is_cost : ℤ → Bool
is_cost = in_range (pos 0) (pos most_cost)

-- ---- times

-- an hour's seconds, a quarter's, and a ramp's
abbrev pub seconds_of_hour : ℕ
seconds_of_hour = 3600

abbrev pub seconds_of_quarter : ℕ
seconds_of_quarter = 900

abbrev pub seconds_of_ramp : ℕ
seconds_of_ramp = 300

-- "A month of 28 to 31 days"; "hours are 0 to 23"; "has 744 hour places"
abbrev pub least_days : ℕ
least_days = 28

abbrev pub most_days : ℕ
most_days = 31

abbrev pub is_days : ℕ → Bool
is_days days = leb least_days days && leb days most_days

abbrev pub hours_of_day : ℕ
hours_of_day = 24

abbrev pub month_places : ℕ
month_places = most_days * hours_of_day
