-- The ledger that the definitions themselves are: its state is a plan and a board, and its answers are what the board's definitions say. It is lawful,
-- and its calls can be made, by any rules that are sound where a month opens: so the premises of demand 3 and of refusal 22 can be met.
-- By unfolding. Assumes nothing.
use mathlib.Core.Path.{◌≡◌, refl, ap}
use mathlib.Core.Bool.{true}
use lib.IntN.{pos}
use Rattle.history.specs.Rules.{Rules, Sound}
use Rattle.history.specs.Board.{Board, fresh, hour_on, day_on, part_on, total_on, standing_on, refusal_of, next_of, or_reachable}
use Rattle.history.specs.Demand.{Ledger}
use Rattle.history.proofs.Demand.{Lawful}
use Rattle.history.proofs.Reach.{Able}

pub record State (P F M B : Type 0) : Type 0 where
  pub plan : P
  pub board : Board F M B

module _ {P F M B : Type 0} (rules : P → Rules F M B) where
  abbrev pub model : Ledger P F M B (State P F M B)
  model =
      record {
        rules = rules;
        Opens = λ p s. ((rules p).opens ≡ true) × (s ≡ record { plan = p; board = fresh (rules p) });
        Answers = λ s c k t. (k ≡ refusal_of (rules s.plan) s.board c) × (t ≡ record { plan = s.plan; board = next_of (rules s.plan) s.board c });
        Hour = λ s d x r. r ≡ or_reachable (rules s.plan) (pos 0) s.board (hour_on (rules s.plan) s.board d x);
        Day = λ s d r. r ≡ or_reachable (rules s.plan) (pos 0) s.board (day_on (rules s.plan) s.board d);
        Part = λ s q r. r ≡ or_reachable (rules s.plan) (pos 0) s.board (part_on (rules s.plan) s.board q);
        Fee = λ s f r. r ≡ or_reachable (rules s.plan) (pos 0) s.board (0, s.board.fee f);
        Total = λ s r. r ≡ or_reachable (rules s.plan) (pos 0) s.board (0, total_on (rules s.plan) s.board);
        Standing = λ s r. r ≡ or_reachable (rules s.plan) 0 s.board (0, standing_on (rules s.plan) s.board);
      }

  abbrev pub model_laws : ((p : P) → (rules p).opens ≡ true → Sound (rules p)) → Lawful model
  model_laws sound =
      record {
        plan = λ s. s.plan;
        board = λ s. s.board;
        sound = sound;
        opens = λ p s o. (o.0, ap (λ (t : State P F M B). t.plan) o.1, ap (λ (t : State P F M B). t.board) o.1);
        answers = λ s c k t a. (a.0, ap (λ (t : State P F M B). t.plan) a.1, ap (λ (t : State P F M B). t.board) a.1);
        hour = λ s d x r e. e;
        day = λ s d r e. e;
        part = λ s q r e. e;
        fee = λ s f r e. e;
        total = λ s r e. e;
        standing = λ s r e. e;
      }

  pub model_able : (sound : (p : P) → (rules p).opens ≡ true → Sound (rules p)) → Able model (model_laws sound)
  model_able sound =
      record {
        first = λ p. record { plan = p; board = fresh (rules p) };
        opens = λ p o. (o, refl);
        number = λ s c. refusal_of (rules s.plan) s.board c;
        next = λ s c. record { plan = s.plan; board = next_of (rules s.plan) s.board c };
        answers = λ s c. (refl, refl);
        same = λ s t p b i. record { plan = p i; board = b i };
      }
