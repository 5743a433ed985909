-- What document 02, #101, leaves as it was: what the program printed of an input while there was one loss fee, kind 04's, and no kind 06 (document 01, "Frames", "The ledger").
use Rattle.std.specs.Prelude.{ℕ, ◌≡◌, Bool, List, [], ◌∷◌, Result, Ok, Err, eqb, ℤ}
use Rattle.whole.specs.Choice.{pick}
use Rattle.units.specs.Refusals.{bad_kind, refused_as}
use Rattle.units.specs.declared.refusal.Refusal.{Refusal}
use Rattle.history.specs.Rules.{Rules}
use Rattle.head.specs.Rules.{Fee, basic, month_rules}
use Rattle.frame.specs.Kinds.{excess_fee_kind}
use Rattle.frame.specs.Frame.{reading_of}
use Rattle.frame.specs.declared.Entry.{Entry}
use Rattle.account.specs.Account.{lines_read, printed_by}

-- "less the last accepted loss fee": one fee is taken away. The other is set by no line, since `earlier_reading` refuses kind 06
abbrev pub earlier_rules : ℕ → Rules Fee Bool ℤ
earlier_rules days =
    let R = month_rules days in
    record {
      opens = R.opens;
      days = R.days;
      hours_of = R.hours_of;
      places = R.places;
      blank = R.blank;
      is_blank = R.is_blank;
      filled = R.filled;
      check = R.check;
      enter = R.enter;
      fits = R.fits;
      worth = R.worth;
      fees = basic ∷ [];
      same_fee = R.same_fee;
      check_fee = R.check_fee;
      parts = R.parts;
      check_part = R.check_part;
      part = R.part;
    }

-- "13: kind unknown": kind 06 was
abbrev pub earlier_of : Result Entry Refusal → Result Entry Refusal
earlier_of (Ok e) = pick (eqb e.kind excess_fee_kind) (refused_as bad_kind) (Ok e)
earlier_of (Err r) = Err r

abbrev pub earlier_reading : List ℕ → Result Entry Refusal
earlier_reading line = earlier_of (reading_of line)

unfoldable pub earlier_printed : List ℕ → List ℕ
earlier_printed input = printed_by earlier_rules earlier_reading (lines_read input)

-- a line that does not read as kind 06, and lines none of which does
abbrev pub NotExcess : Result Entry Refusal → Type 0
NotExcess r = (e : Entry) → r ≡ Ok e → e.kind ≡ excess_fee_kind → ⊥

abbrev pub WithoutExcess : List (List ℕ) → Type 0
WithoutExcess [] = Unit {0}
WithoutExcess (l ∷ ls) = NotExcess (reading_of l) × WithoutExcess ls
