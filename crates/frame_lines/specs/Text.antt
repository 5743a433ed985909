-- What a question prints that asks for a frame, or for two as `loss_frames` does (docs/DESK.md, "Questions"; document 02, #101): of each its 24 digits on a line of its own, or the number of a
-- refusal alone.
use Rattle.std.specs.Prelude.{ℕ, ◌&&◌, List, ◌++◌, ℤ}
use Rattle.whole.specs.Choice.{pick, or_else, kept}
use Rattle.whole.specs.Whole.{up}
use Rattle.units.specs.Refusals.{bad_kind}
use Rattle.units.specs.Limits.{is_second, is_pattern}
use Rattle.text.specs.Text.{decimal_of, end_of_line}
use Rattle.frame.specs.Frame.{line_digits, line_of, write_refusal}
use Rattle.frame.specs.declared.Entry.{Entry}
use Rattle.pair_frame.specs.PairFrame.{pair_line}
use Rattle.frames.specs.declared.Framed.{Framed}

-- a refusal's number alone
abbrev pub alone_text : ℕ → List ℕ
alone_text k = decimal_of k ++ end_of_line

-- a frame's line
abbrev pub entry_text : Entry → List ℕ
entry_text entry = line_of entry ++ end_of_line

-- the question's own number, then the writer's of each frame
abbrev pub framed_refusal : Framed → ℕ
framed_refusal f =
    let k = or_else f.refusal (write_refusal f.entry line_digits) in
    pick f.paired (or_else k (write_refusal f.second line_digits)) k

abbrev pub lines_text : Framed → List ℕ
lines_text f = pick f.paired (entry_text f.entry ++ entry_text f.second) (entry_text f.entry)

unfoldable pub frame_text : Framed → List ℕ
frame_text f = kept (framed_refusal f) (lines_text f) (alone_text (framed_refusal f))

-- SECOND FREQUENCY-BITS POWER-BITS (document 02, #105): the line of a logger's frame; "a number that does not fit its bytes is refused with 13"
unfoldable pub pair_text : ℤ → ℤ → ℤ → List ℕ
pair_text second f p = pick (is_second second && (is_pattern f && is_pattern p)) (pair_line (up second) (up f) (up p) ++ end_of_line) (alone_text bad_kind)
