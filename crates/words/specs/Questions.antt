-- The questions: of each its word, what it asks, and the shape of its numbers.
use Rattle.std.specs.Prelude.{ℕ, ◌+◌, ◌*◌, List, [], ◌∷◌, eqb}
use Prim.Native.String as text
use Rattle.whole.specs.Choice.{pick}
use Rattle.units.specs.Limits.{seconds_of_hour}
use Rattle.words.specs.Faults.{not_question}
use Rattle.words.specs.Words.{word_of}
use Rattle.words.specs.declared.Question.{Question}
use Rattle.words.specs.declared.Rule.TheVariants.{Kilowatts, Curve, Score, Rate, Reached, Bands, Factor, Fee, Quality, Energy, Loss, Pair}
use Rattle.words.specs.declared.Hour.TheVariants.{Dreg, Edreg, Sreg}
use Rattle.words.specs.declared.Series.TheVariants.{Ramp, DregScores, EdregScores, SregScores}
use Rattle.words.specs.declared.Framing.TheVariants.{DregFrame, EdregFrame, SregFrame, Frame, LossFrames}
use Rattle.words.specs.declared.Question.TheVariants as asks
use Rattle.words.specs.declared.Shape.{Shape}
use Rattle.words.specs.declared.Row.{Row}

-- so many single numbers, then four lists (of each how many numbers an entry has, 0 for no list), then so many numbers, then groups of so many
abbrev pub shape : ℕ → List ℕ → ℕ → ℕ → Shape
shape head lists tail group = record { head = head; lists = lists; tail = tail; group = group }

abbrev pub no_lists : List ℕ
no_lists = 0 ∷ 0 ∷ 0 ∷ 0 ∷ []

-- single numbers alone; with one for each second of an hour after them; with a list of earlier scores before those (document 02, #102); with groups after them; with a list of pairs, then one of
-- earlier scores (document 02, #102), and two for each second after these
abbrev pub singles : ℕ → Shape
singles head = shape head no_lists 0 0

abbrev pub seconds_shape : ℕ → Shape
seconds_shape head = shape head no_lists seconds_of_hour 0

abbrev pub scores_shape : ℕ → Shape
scores_shape head = shape head (1 ∷ 0 ∷ 0 ∷ 0 ∷ []) seconds_of_hour 0

abbrev pub singles_groups : ℕ → ℕ → Shape
singles_groups head group = shape head no_lists 0 group

abbrev pub hour_shape : ℕ → Shape
hour_shape head = shape head (2 ∷ 1 ∷ 0 ∷ 0 ∷ []) (2 * seconds_of_hour) 0

-- as an hour's, with the three numbers of a state before the readings (document 02, #103)
abbrev pub state_shape : ℕ → Shape
state_shape head = shape head (2 ∷ 1 ∷ 0 ∷ 0 ∷ []) (3 + 2 * seconds_of_hour) 0

abbrev pub known : Question → Shape → Row
known question shape = record { fault = 0; question = question; shape = shape }

-- a word, and what it asks
pub record Listed : Type 0 where
  pub word : ℕ
  pub row : Row

abbrev pub entry : text.String → Question → Shape → Listed
entry word question shape = record { word = word_of word; row = known question shape }

abbrev pub table : List Listed
table =
    entry "kilowatts" (asks.Rule Kilowatts) (singles 1)
    ∷ entry "curve" (asks.Rule Curve) (singles 2)
    ∷ entry "score" (asks.Rule Score) (singles 5)
    ∷ entry "ramp" (asks.Series Ramp) (singles 2)
    ∷ entry "rate" (asks.Rule Rate) (scores_shape 0)
    ∷ entry "reached" (asks.Rule Reached) (scores_shape 1)
    ∷ entry "bands" (asks.Rule Bands) (singles_groups 0 2)
    ∷ entry "factor" (asks.Rule Factor) (singles_groups 1 2)
    ∷ entry "fee" (asks.Rule Fee) (singles 2)
    ∷ entry "quality" (asks.Rule Quality) (singles 3)
    ∷ entry "energy" (asks.Rule Energy) (seconds_shape 6)
    ∷ entry "loss" (asks.Rule Loss) (singles 4)
    ∷ entry "pair" (asks.Rule Pair) (singles 2)
    ∷ entry "dreg" (asks.Hour Dreg) (hour_shape 4)
    ∷ entry "edreg" (asks.Hour Edreg) (hour_shape 11)
    ∷ entry "sreg" (asks.Hour Sreg) (state_shape 3)
    ∷ entry "dreg_scores" (asks.Series DregScores) (hour_shape 4)
    ∷ entry "edreg_scores" (asks.Series EdregScores) (hour_shape 11)
    ∷ entry "sreg_scores" (asks.Series SregScores) (state_shape 3)
    ∷ entry "dreg_frame" (asks.Frame DregFrame) (hour_shape 6)
    ∷ entry "edreg_frame" (asks.Frame EdregFrame) (hour_shape 13)
    ∷ entry "sreg_frame" (asks.Frame SregFrame) (state_shape 5)
    ∷ entry "frame" (asks.Frame Frame) (singles 4)
    ∷ entry "loss_frames" (asks.Frame LossFrames) (singles 4)
    ∷ entry "pair_frame" asks.PairFrame (singles 3)
    ∷ []

-- any other word
abbrev pub unknown : Row
unknown = record { fault = not_question; question = asks.Unknown; shape = singles 0 }

abbrev pub find : List Listed → ℕ → Row
find [] code = unknown
find (e ∷ es) code = pick (eqb code e.word) e.row (find es code)

unfoldable pub question_of : ℕ → Row
question_of code = find table code
