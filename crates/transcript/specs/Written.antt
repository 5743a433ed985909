-- Desk rule, "Reading", from the writer's side: a word, and numbers in decimal after it, by the usual place values. None of this mentions how
-- the reader goes through them.
use Rattle.std.specs.Prelude.{ℕ, ◌+◌, ◌≤◌, ◌<◌, ◌≡◌, Bool, true, ◌&&◌, List, [], ◌∷◌, ◌++◌, ℤ, pos, length}
use Rattle.whole.specs.Choice.{pick}
use Rattle.whole.specs.Whole.{minus}
use Rattle.tokens.specs.Bytes.{line_byte, sign, is_letter, is_digit, digit_of}
use Rattle.words.specs.Words.{letters_placed, code_of}
use Rattle.tokens.specs.Tokens.{limit, most_size}
use Rattle.asked.specs.Asking.{most_numbers}
use Rattle.transcript.specs.Questions.{Posed}

abbrev pub decimal : List ℕ → ℕ
decimal = letters_placed 10 digit_of

abbrev pub all_of : (ℕ → Bool) → List ℕ → Bool
all_of test [] = true
all_of test (b ∷ bs) = test b && all_of test bs

-- a word: 1 to 12 letters
pub record IsWord (word : List ℕ) : Type 0 where
  pub letters : all_of is_letter word ≡ true
  pub some : 0 < length word
  pub most : length word ≤ 12

-- a number as it is written: whether a sign stands before it, and its digits
pub record Figure : Type 0 where
  pub below : Bool
  pub digits : List ℕ

abbrev pub figure_text : Figure → List ℕ
figure_text f = pick f.below (sign ∷ f.digits) f.digits

abbrev pub figure_value : Figure → ℤ
figure_value f = pick f.below (minus (decimal f.digits)) (pos (decimal f.digits))

-- 1 or more digits, of a number of 64 bits
pub record IsFigure (f : Figure) : Type 0 where
  pub digits : all_of is_digit f.digits ≡ true
  pub some : 0 < length f.digits
  pub most : decimal f.digits < pick f.below most_size limit

-- figures, each after a space
abbrev pub figures_text : List Figure → List ℕ
figures_text [] = []
figures_text (f ∷ fs) = 32 ∷ (figure_text f ++ figures_text fs)

abbrev pub figure_values : List Figure → List ℤ
figure_values [] = []
figure_values (f ∷ fs) = figure_value f ∷ figure_values fs

pub data AreFigures : List Figure → Type 0 where
  none : AreFigures []
  more : {f : Figure} {fs : List Figure} → IsFigure f → AreFigures fs → AreFigures (f ∷ fs)

-- a question on a line of its own
pub record Written : Type 0 where
  pub word : List ℕ
  pub figures : List Figure

pub record IsWritten (w : Written) : Type 0 where
  pub word : IsWord w.word
  pub figures : AreFigures w.figures
  pub most : length w.figures ≤ most_numbers

pub data AreWritten : List Written → Type 0 where
  none : AreWritten []
  more : {w : Written} {ws : List Written} → IsWritten w → AreWritten ws → AreWritten (w ∷ ws)

abbrev pub written_text : List Written → List ℕ
written_text [] = []
written_text (w ∷ ws) = w.word ++ (figures_text w.figures ++ (line_byte ∷ written_text ws))

-- what is asked, the lines counted from the first
abbrev pub written_from : ℕ → List Written → List Posed
written_from line [] = []
written_from line (w ∷ ws) =
    record { word = code_of w.word; line = line; numbers = figure_values w.figures; fault = 0; place = 0 } ∷ written_from (line + 1) ws
