-- From an input's bytes to the history of its frames (document 01, "Frames"; demand 3), and what is printed, told from that history alone: no board, no place and no lent run
-- is in it.
use Rattle.std.specs.Prelude.{ℕ, suc, ◌+◌, Bool, List, [], ◌∷◌, ◌++◌, Result, Ok, Err, eqb, ℤ, pos, take}
use Rattle.std.proofs.Math.Option.{Option, none, some}
use Rattle.whole.specs.Choice.{pick, unless, kept}
use Rattle.units.specs.Refusals.{bad_kind, not_open, not_in_month, paper_number}
use Rattle.units.specs.declared.refusal.Refusal.{Refusal}
use Rattle.history.specs.Rules.{Call, Rules}
use Rattle.history.specs.History.{Recorded, ruling_after, total_is}
use Rattle.units.specs.Limits.{is_days}
use Rattle.head.specs.Rules.{Fee, Item, month_rules}
use Rattle.frame.specs.Kinds.{open_kind}
use Rattle.frame.specs.Frame.{reading_of}
use Rattle.frame.specs.declared.Entry.{Entry}
use Rattle.lines.specs.Lines.{line_end, lines_of}
use Rattle.intake.specs.Text.{verdict_text, total_text}
use Rattle.book.specs.Book.{call_of}
use Rattle.intake.specs.Answers.{most_lines}

-- the days of the month that was opened, if one was, and the calls since, newest first, each with the number that it was answered
pub record Account : Type 0 where
  pub month : Option ℕ
  pub history : List (Recorded Fee Item)

abbrev pub first_account : Account
first_account = record { month = none; history = [] }

-- ---- one frame

-- an open: "14: .. a second open", then 6
abbrev pub open_number : Option ℕ → ℕ → ℕ
open_number none days = unless (is_days days) not_in_month 0
open_number (some _) days = not_open

-- by the rules of a month of so many days
module _ (rules : ℕ → Rules Fee Bool ℤ) where
  -- any other frame: "14: program: frame before a month is open", then what document 01 answers to its call after the history
  abbrev pub call_number : Option ℕ → List (Recorded Fee Item) → Call Fee Item → ℕ
  call_number none h c = not_open
  call_number (some days) h c = ruling_after (rules days) h c

  -- a call reaches the ledger where a month is open
  abbrev pub call_history : Option ℕ → List (Recorded Fee Item) → Call Fee Item → List (Recorded Fee Item)
  call_history none h c = h
  call_history (some days) h c = record { call = c; answer = ruling_after (rules days) h c } ∷ h

  -- a frame that is no call: 14, then 13; no line that is read comes to it (book, proofs/Asked.antt)
  abbrev pub asked_number : Option ℕ → List (Recorded Fee Item) → Option (Call Fee Item) → ℕ
  asked_number none h none = not_open
  asked_number (some days) h none = bad_kind
  asked_number month h (some c) = call_number month h c

  abbrev pub asked_history : Option ℕ → List (Recorded Fee Item) → Option (Call Fee Item) → List (Recorded Fee Item)
  asked_history month h none = h
  asked_history month h (some c) = call_history month h c

  -- ---- one line: "A line that doesn't read as a frame never reaches the ledger."

  abbrev pub line_number : Account → Result Entry Refusal → ℕ
  line_number a (Ok e) = pick (eqb e.kind open_kind) (open_number a.month e.day) (asked_number a.month a.history (call_of e))
  line_number a (Err r) = paper_number r

  abbrev pub account_in : Account → Result Entry Refusal → Account
  account_in a (Ok e) =
      pick (eqb e.kind open_kind)
      (kept (open_number a.month e.day) (record { month = some e.day; history = [] }) a)
      (record { month = a.month; history = asked_history a.month a.history (call_of e) })
  account_in a (Err r) = a

  -- ---- all lines, by what each reads as

  module _ (reads : List ℕ → Result Entry Refusal) where
    abbrev pub account_after : Account → List (List ℕ) → Account
    account_after a [] = a
    account_after a (l ∷ ls) = account_after (account_in a (reads l)) ls

    -- "For each line it prints the line number, a space, and 0 or the refusal": n lines were answered before these
    abbrev pub lines_told : ℕ → Account → List (List ℕ) → List ℕ
    lines_told n a [] = []
    lines_told n a (l ∷ ls) = verdict_text (n + 1) (line_number a (reads l)) ++ lines_told (n + 1) (account_in a (reads l)) ls

  -- "the month total, 0 if no month was opened"
  abbrev pub total_after : Option ℕ → List (Recorded Fee Item) → ℤ
  total_after none h = pos 0
  total_after (some days) h = total_is (rules days) h

-- how many lines have ended
abbrev pub line_ends : List ℕ → ℕ
line_ends [] = 0
line_ends (b ∷ bs) = pick (eqb b line_end) (suc (line_ends bs)) (line_ends bs)

-- "It reads at most 1,000,000 lines and ignores the rest."
abbrev pub lines_read : List ℕ → List (List ℕ)
lines_read input = take most_lines (lines_of input)

-- what is printed of lines, told from their history
abbrev pub printed_by : (ℕ → Rules Fee Bool ℤ) → (List ℕ → Result Entry Refusal) → List (List ℕ) → List ℕ
printed_by rules reads lines =
    let end = account_after rules reads first_account lines in
    lines_told rules reads 0 first_account lines ++ total_text (total_after rules end.month end.history)

-- THE HISTORY OF AN INPUT'S FRAMES
unfoldable pub history_of : List ℕ → Account
history_of input = account_after month_rules reading_of first_account (lines_read input)

-- what is printed of an input
unfoldable pub printed_of : List ℕ → List ℕ
printed_of input = printed_by month_rules reading_of (lines_read input)
