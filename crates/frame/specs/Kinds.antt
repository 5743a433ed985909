-- Document 01, "Frames", and document 02, #101: the kinds, and the fields that each of them uses.
use Rattle.std.specs.Prelude.{ℕ, Bool, ◌||◌, eqb, leb}

-- the day field is the days in the month
abbrev pub open_kind : ℕ
open_kind = 0

abbrev pub post_kind : ℕ
post_kind = 1

abbrev pub replace_kind : ℕ
replace_kind = 2

abbrev pub withdraw_kind : ℕ
withdraw_kind = 3

abbrev pub basic_fee_kind : ℕ
basic_fee_kind = 4

abbrev pub close_kind : ℕ
close_kind = 5

-- #101: "a new kind 06 with the same unused fields"
abbrev pub excess_fee_kind : ℕ
excess_fee_kind = 6

abbrev pub is_kind : ℕ → Bool
is_kind k = leb k excess_fee_kind

abbrev pub uses_day : ℕ → Bool
uses_day k = eqb k open_kind || eqb k post_kind || eqb k replace_kind || eqb k withdraw_kind

abbrev pub uses_hour : ℕ → Bool
uses_hour k = eqb k post_kind || eqb k replace_kind || eqb k withdraw_kind

abbrev pub uses_amount : ℕ → Bool
uses_amount k = eqb k post_kind || eqb k replace_kind || eqb k basic_fee_kind || eqb k excess_fee_kind
