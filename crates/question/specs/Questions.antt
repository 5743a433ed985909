-- What a question prints: its word is looked up, its numbers are cut by its shape, and the first fault or the answer is told.
use Rattle.std.specs.Prelude.{ℕ, not, ◌&&◌, List, [], eqb, ℤ, drop}
use Rattle.whole.specs.Choice.{pick, or_else, kept}
use Rattle.numbers.specs.Numbers.{number}
use Rattle.numbers.specs.Shapes.{cut_of}
use Rattle.words.specs.Questions.{question_of}
use Rattle.words.specs.Replies.{Reply, reply}
use Rattle.words.specs.declared.Question.{Question}
use Rattle.words.specs.declared.Question.TheVariants as asks
use Rattle.numbers.specs.declared.Places.{Places}
use Rattle.words.specs.declared.Rule.{Rule}
use Rattle.words.specs.declared.Hour.{Hour}
use Rattle.words.specs.declared.Series.{Series}
use Rattle.words.specs.declared.Framing.{Framing}
use Rattle.rules.specs.Rules.{rule_reply}
use Rattle.hours.specs.Hours.{hour_reply}
use Rattle.series.specs.Series.{series_reply}
use Rattle.question.specs.Parts.{head_of, entries_in, given_in}
use Rattle.fault_lines.specs.Text.{fault_text}
use Rattle.question.specs.Lines.{line_text}
use Rattle.frame_lines.specs.Text.{frame_text, pair_text}
use Rattle.frames.specs.Frames.{frame_answer}
use Rattle.frames.specs.declared.Framed.{Framed}

-- the answer to a rule's question, by the numbers and the places of their parts, whose first list are earlier scores; to an hour's; and to one about a run
abbrev pub rule_prints : Rule → List ℤ → Places → Reply
rule_prints rule n places = rule_reply rule (head_of n) places.first.counted (entries_in n places.first) (drop places.tail n)

abbrev pub hour_prints : Hour → List ℤ → Places → Reply
hour_prints hour n places = hour_reply hour (given_in (head_of n) n places)

abbrev pub series_prints : Series → List ℤ → Places → Reply
series_prints asks n places = series_reply asks (head_of n) (given_in (head_of n) n places)

-- a frame, or two; where it is an hour's, the hour's terms stand after its day and its hour
abbrev pub frame_prints : Framing → List ℤ → Places → Framed
frame_prints asks n places = frame_answer asks (head_of n) (given_in (head_of (drop 2 n)) n places)

-- a logger's frame
abbrev pub pair_prints : List ℤ → List ℕ
pair_prints n = pair_text (number (head_of n) 0) (number (head_of n) 1) (number (head_of n) 2)

-- the answer, by the numbers and the places of their parts
abbrev pub answer_text : Question → List ℤ → Places → List ℕ
answer_text (asks.Rule r) n places = line_text (rule_prints r n places)
answer_text (asks.Hour h) n places = line_text (hour_prints h n places)
answer_text (asks.Series r) n places = line_text (series_prints r n places)
answer_text (asks.Frame f) n places = frame_text (frame_prints f n places)
answer_text asks.PairFrame n places = pair_prints n
answer_text asks.Unknown n places = line_text (reply 0 [])

-- the fault: that the word is none of these; the first one that was found while reading; that of the numbers' count
unfoldable pub first_fault : ℕ → ℕ → ℕ → ℕ
first_fault unknown found count = or_else unknown (or_else found count)

-- the line that it is told with: that of the token that was found, or the one that the word is on
unfoldable pub told_line : ℕ → ℕ → ℕ → ℕ → ℕ
told_line unknown line found place = pick (eqb unknown 0 && not (eqb found 0)) place line

-- the fault, or the answer of a question that has none
unfoldable pub question_text : ℕ → ℕ → Question → List ℤ → Places → List ℕ
question_text fault line question n places = kept fault (answer_text question n places) (fault_text fault line)

-- WHAT A QUESTION PRINTS
unfoldable pub reply_text : ℕ → ℕ → ℕ → ℕ → List ℤ → List ℕ
reply_text word line found place n =
    let row = question_of word in
    let places = cut_of row.shape n in
    question_text (first_fault row.fault found places.fault) (told_line row.fault line found place) row.question n places
