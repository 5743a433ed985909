-- The month ledger as its contracts state it, as the source has them (`Post` of each function's `Reads`): what demand 3 is stated over.
use Rattle.std.specs.Prelude.{ℕ, ◌≡◌, Bool, Result, Ok, Err, ℤ, pos}
use Rattle.units.specs.Refusals.{paper_number, told_number}
use Rattle.units.specs.Units.{dollars}
use Rattle.units.specs.declared.refusal.Refusal.{Refusal}
use Rattle.units.specs.declared.Dollars.{Dollars}
use Rattle.history.specs.Rules.{Call}
use Rattle.history.specs.Demand.{Ledger}
use Rattle.head.specs.Rules.{Fee, Item, month_rules}
use Rattle.head.specs.Inner.{standing_after}
use Rattle.month.specs.declared.Month.{Month}
use Rattle.month.proofs.Month.«open».Reads as open_reads
use Rattle.month.proofs.Month.post.Reads as post_reads
use Rattle.month.proofs.Month.replace.Reads as replace_reads
use Rattle.month.proofs.Month.withdraw.Reads as withdraw_reads
use Rattle.month.proofs.Month.set_basic_fee.Reads as set_basic_fee_reads
use Rattle.month.proofs.Month.set_excess_fee.Reads as set_excess_fee_reads
use Rattle.month.proofs.Month.close.Reads as close_reads
use Rattle.month.proofs.Month.hour.Reads as hour_reads
use Rattle.month.proofs.Month.day.Reads as day_reads
use Rattle.month.proofs.Month.basic_fee.Reads as basic_fee_reads
use Rattle.month.proofs.Month.excess_fee.Reads as excess_fee_reads
use Rattle.month.proofs.Month.total.Reads as total_reads
use Rattle.month.proofs.Month.standing.Reads as standing_reads

-- what an answer may be: a parameter by value is at exit as it was

-- an answer that meets a call's contract, as its number and the month that stands after it: the answer's, or the one that was handed in where it is refused
pub record Booked (m : Month) (Post : Result Month Refusal → Type 0) (k : ℕ) (n : Month) : Type 0 where
  pub answer : Result Month Refusal
  pub post : Post answer
  pub number : k ≡ told_number answer
  pub left : n ≡ standing_after m answer

-- an answer that meets a read-out's contract, as its number and its figure: that of nothing where it is refused
abbrev pub figure_of : {A B : Type 0} → (A → B) → B → Result A Refusal → ℕ × B
figure_of figure nothing (Ok a) = (0, figure a)
figure_of figure nothing (Err r) = (paper_number r, nothing)

pub record Told (Post : Result Dollars Refusal → Type 0) (r : ℕ × ℤ) : Type 0 where
  pub answer : Result Dollars Refusal
  pub post : Post answer
  pub told : r ≡ figure_of (λ (a : Dollars). a.0) (pos 0) answer

pub record Counted (Post : Result ℕ Refusal → Type 0) (r : ℕ × ℕ) : Type 0 where
  pub answer : Result ℕ Refusal
  pub post : Post answer
  pub told : r ≡ figure_of (λ (n : ℕ). n) 0 answer

abbrev pub posting_of : Month → ℕ → ℕ → ℤ → Month × (ℕ × (ℕ × (Dollars × Unit {0})))
posting_of m d x a = (m, (d, (x, (dollars a, tt))))

abbrev pub at : Month → ℕ → ℕ → Month × (ℕ × (ℕ × Unit {0}))
at m d x = (m, (d, (x, tt)))

abbrev pub setting : Month → ℤ → Month × (Dollars × Unit {0})
setting m z = (m, (dollars z, tt))

abbrev pub Answers : Month → Call Fee Item → ℕ → Month → Type 0
Answers m (Call.post d x a) k n = Booked m (λ y. post_reads.Post tt (posting_of m d x a.1) y (posting_of m d x a.1)) k n
Answers m (Call.replace d x a) k n = Booked m (λ y. replace_reads.Post tt (posting_of m d x a.1) y (posting_of m d x a.1)) k n
Answers m (Call.withdraw d x) k n = Booked m (λ y. withdraw_reads.Post tt (at m d x) y (at m d x)) k n
Answers m (Call.loss_fee Fee.basic z) k n = Booked m (λ y. set_basic_fee_reads.Post tt (setting m z) y (setting m z)) k n
Answers m (Call.loss_fee Fee.excess z) k n = Booked m (λ y. set_excess_fee_reads.Post tt (setting m z) y (setting m z)) k n
Answers m Call.close k n = Booked m (λ y. close_reads.Post tt (m, tt) y (m, tt)) k n

-- what is told of each loss fee
abbrev pub FeeAnswers : Month → Fee → ℕ × ℤ → Type 0
FeeAnswers m Fee.basic r = Told (λ y. basic_fee_reads.Post tt (m, tt) y (m, tt)) r
FeeAnswers m Fee.excess r = Told (λ y. excess_fee_reads.Post tt (m, tt) y (m, tt)) r

-- the month ledger: a plan is a number of days
abbrev pub month_ledger : Ledger ℕ Fee Bool ℤ Month
month_ledger =
    record {
      rules = month_rules;
      Opens = λ days m. open_reads.Post tt (days, tt) (Ok m) (days, tt);
      Answers = Answers;
      Hour = λ m d x r. Told (λ y. hour_reads.Post tt (at m d x) y (at m d x)) r;
      Day = λ m d r. Told (λ y. day_reads.Post tt (m, (d, tt)) y (m, (d, tt))) r;
      Part = λ _ _ _. ⊥;
      Fee = FeeAnswers;
      Total = λ m r. Told (λ y. total_reads.Post tt (m, tt) y (m, tt)) r;
      Standing = λ m r. Counted (λ y. standing_reads.Post tt (m, tt) y (m, tt)) r;
    }
