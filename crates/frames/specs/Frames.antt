-- The questions that print a frame, or two: the entries that they hold (docs/DESK.md, "Questions").
use Rattle.std.specs.Prelude.{ℕ, true, false, ◌&&◌, List, [], ◌∷◌, Result, Ok, Err, ℤ, pos}
use Rattle.whole.specs.Choice.{in_order, or_else, kept}
use Rattle.units.specs.Refusals.{not_in_month, bad_kind, paper_number}
use Rattle.units.specs.declared.refusal.Refusal.{Refusal}
use Rattle.units.specs.Units.{dollars}
use Rattle.units.specs.declared.Dollars.{Dollars}
use Rattle.frame.specs.Kinds.{post_kind, basic_fee_kind, excess_fee_kind}
use Rattle.frame.specs.declared.Entry.{Entry}
use Rattle.numbers.specs.Numbers.{number, is_byte, byte_of}
use Rattle.words.specs.declared.Hour.{Hour}
use Rattle.words.specs.declared.Hour.TheVariants.{Dreg, Edreg, Sreg}
use Rattle.words.specs.declared.Framing.{Framing}
use Rattle.words.specs.declared.Framing.TheVariants.{DregFrame, EdregFrame, SregFrame, Frame, LossFrames}
use Rattle.hours.specs.Hours.{HourNumbers, hour_asked, settlement}
use Rattle.loss.specs.Loss.{loss_answer}
use Rattle.loss.specs.declared.LossFee.{LossFee}
use Rattle.frames.specs.declared.Framed.{Framed}

-- 13 for a kind that is no byte, then 6 for a day or an hour (desk rule)
abbrev pub entry_refusal : ℤ → ℤ → ℤ → ℕ
entry_refusal kind day hour = in_order ((is_byte kind, bad_kind) ∷ (is_byte day && is_byte hour, not_in_month) ∷ [])

-- beside a refusal
abbrev pub no_entry : Entry
no_entry = record { kind = 0; day = 0; hour = 0; amount = dollars (pos 0) }

-- one frame alone
abbrev pub single : ℕ → Entry → Framed
single k entry = record { refusal = k; entry = entry; paired = false; second = no_entry }

-- an entry, after the number of a refusal that comes before its own
unfoldable pub framed_by : ℕ → ℤ → ℤ → ℤ → ℤ → Framed
framed_by before kind day hour amount =
    let k = or_else before (entry_refusal kind day hour) in
    single k (kept k (record { kind = byte_of kind; day = byte_of day; hour = byte_of hour; amount = dollars amount }) no_entry)

-- KIND DAY HOUR AMOUNT
unfoldable pub frame_asked : List ℤ → Framed
frame_asked n = framed_by 0 (number n 0) (number n 1) (number n 2) (number n 3)

-- DAY HOUR, and an hour by its own numbers: the post of its amount
unfoldable pub hour_post : Hour → List ℤ → HourNumbers → Framed
hour_post hour n given =
    let a = settlement (hour_asked hour given) in framed_by a.refusal (pos post_kind) (number n 0) (number n 1) a.amount.0

-- a loss fee's entry uses no day and no hour
abbrev pub fee_entry : ℕ → Dollars → Entry
fee_entry kind fee = record { kind = kind; day = 0; hour = 0; amount = fee }

-- CHARGED DISCHARGED VOLTAGE COST (document 02, #101): the frame that sets the basic fee, and the one that sets the excess fee
abbrev pub loss_asked : List ℤ → Result LossFee Refusal
loss_asked n = loss_answer (number n 0) (number n 1) (number n 2) (number n 3)

abbrev pub fee_frames : Result LossFee Refusal → Framed
fee_frames (Ok l) = record { refusal = 0; entry = fee_entry basic_fee_kind l.basic; paired = true; second = fee_entry excess_fee_kind l.excess }
fee_frames (Err r) = single (paper_number r) no_entry

unfoldable pub loss_frames : List ℤ → Framed
loss_frames n = fee_frames (loss_asked n)

abbrev pub frame_answer : Framing → List ℤ → HourNumbers → Framed
frame_answer DregFrame n given = hour_post Dreg n given
frame_answer EdregFrame n given = hour_post Edreg n given
frame_answer SregFrame n given = hour_post Sreg n given
frame_answer Frame n given = frame_asked n
frame_answer LossFrames n given = loss_frames n
