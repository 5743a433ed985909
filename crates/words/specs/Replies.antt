-- The answer of a question: the refusal's number, and the fields.
use Rattle.std.specs.Prelude.{ℕ, List, ℤ}

pub record Reply : Type 0 where
  pub refusal : ℕ
  pub fields : List ℤ

abbrev pub reply : ℕ → List ℤ → Reply
reply k fields = record { refusal = k; fields = fields }
