-- What is printed for a fault: the line that it is on, its number and its words.
use Rattle.std.specs.Prelude.{ℕ, List, ◌++◌, eqb}
use Rattle.whole.specs.Choice.{pick}
use Rattle.text.specs.Text.{decimal_of}
use Rattle.words.specs.Words.{bytes}
use Rattle.words.specs.Faults.{not_question, too_large, too_few, too_many, not_number}

-- what is said after the number of the line; of a number that names no fault, that
unfoldable pub fault_words : ℕ → List ℕ
fault_words k =
    pick (eqb k not_question) (bytes ": 101 not a question\n")
    (pick (eqb k too_large) (bytes ": 102 a number too large for 64 bits\n")
    (pick (eqb k too_few) (bytes ": 103 too few numbers\n")
    (pick (eqb k too_many) (bytes ": 104 too many numbers\n")
    (pick (eqb k not_number) (bytes ": 105 not a number\n") (bytes ": no fault\n")))))

unfoldable pub fault_text : ℕ → ℕ → List ℕ
fault_text k line = bytes "line " ++ (decimal_of line ++ fault_words k)
