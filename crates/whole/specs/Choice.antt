-- A choice by a test, and refusals in order: a refusal is a number, and 0 is none.
use Rattle.std.specs.Prelude.{ℕ, Bool, true, false, ◌&&◌, ◌≡◌, List, [], ◌∷◌, ltb, eqb}

-- a where the test passes, else b
abbrev pub pick : {A : Type 0} → Bool → A → A → A
pick true a b = a
pick false a b = b

-- the number k unless the test passes; then what the rest says
abbrev pub unless : Bool → ℕ → ℕ → ℕ
unless ok k rest = pick ok rest k

-- the number k where it is a refusal; then what the rest says
abbrev pub or_else : ℕ → ℕ → ℕ
or_else k rest = pick (eqb k 0) rest k

-- a call's refusals in their order, each a test and its number: the number of the first test that fails, and 0 where all pass
abbrev pub in_order : List (Bool × ℕ) → ℕ
in_order [] = 0
in_order (t ∷ ts) = unless t.0 t.1 (in_order ts)

-- all of them pass, as facts; and each has a number that is a refusal's
abbrev pub Passed : List (Bool × ℕ) → Type 0
Passed [] = Unit {0}
Passed (t ∷ ts) = (t.0 ≡ true) × Passed ts

abbrev pub refusing : List (Bool × ℕ) → Bool
refusing [] = true
refusing (t ∷ ts) = ltb 0 t.1 && refusing ts

-- what a call hands back or leaves: the new where it refuses nothing, and the old where it does
abbrev pub kept : {A : Type 0} → ℕ → A → A → A
kept k new old = pick (eqb k 0) new old
