-- Document 01's four sample lines read as what the paper makes of them, by computation. Assumes nothing.
use Prim.Native.Nat.{ℕ}
use Prim.Native.Char.{code}
use Prim.Native.String as text
use mathlib.Core.Path.{◌≡◌, refl}
use mathlib.Core.List.{List, [], ◌∷◌}
use lib.IntN.{pos}
use Rattle.frame.specs.Digits.{is_hex_digit, hex_value_of}
use Rattle.frame.specs.Numbers.{signed_in}
use Rattle.frame.specs.Kinds.{open_kind, post_kind, basic_fee_kind}
use Rattle.frame.specs.Frame.{checked, line_refusal, in_form, entry_of, read_refusal, reading_of}
use Rattle.std.specs.Prelude.{Result, Ok}
use Rattle.units.specs.declared.refusal.Refusal.{Refusal}
use Rattle.frame.specs.declared.Entry.{Entry}

abbrev line : text.String → List ℕ
line text.[] = []
line (text.◌∷◌ c cs) = code c ∷ line cs

abbrev readings : List text.String → List (Result Entry Refusal)
readings [] = []
readings (l ∷ ls) = reading_of (line l) ∷ readings ls

abbrev framed : ℕ → ℕ → ℕ → ℕ → Result Entry Refusal
framed kind day hour dollars = Ok (record { kind = kind; day = day; hour = hour; amount = record { 0 = pos dollars } })

samples :
    readings ("001F0000000000000000001F" ∷ "01030A0000000000001E78A4" ∷ "01030A0000000000001888AE" ∷ "04000000000000000021D2F7" ∷ [])
    ≡ framed open_kind 31 0 0 ∷ framed post_kind 3 10 7800 ∷ framed post_kind 3 10 6280 ∷ framed basic_fee_kind 0 0 8658 ∷ []
unfolding reading_of read_refusal line_refusal checked in_form entry_of signed_in is_hex_digit hex_value_of
samples = refl
