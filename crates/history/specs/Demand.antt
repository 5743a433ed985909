-- Demand 3, once for any ledger. A ledger is given by its contracts: what an answer of each call and read-out may be. Everything is then said
-- of any run of such answers and of its history alone.
use Rattle.std.specs.Prelude.{ℕ, suc, ◌≡◌, ◌↔◌, true, ◌&&◌, List, [], ◌∷◌, leb, ℤ, pos}
use Rattle.whole.specs.Folds.{sum_to}
use Rattle.units.specs.Refusals.{place_empty, not_reachable}
use Rattle.history.specs.Rules.{Call, Rules, inside}
use Rattle.history.specs.History.{Recorded, Ruled, last_fee, hour_is, day_is, part_is, earned_is, total_is, standing_is}

-- the contracts of a ledger of items M × B, with the fees F, whose months open by plans P and whose states are S; a read-out's answer is its refusal number
-- and its figure
pub record Ledger (P F M B S : Type 0) : Type 1 where
  -- the rules of a month that a plan opens
  pub rules : P → Rules F M B
  -- opening a month by the plan p was answered 0 and s
  pub Opens : P → S → Type 0
  -- the call c on s was answered k and t
  pub Answers : S → Call F (M × B) → ℕ → S → Type 0
  pub Hour : S → ℕ → ℕ → ℕ × ℤ → Type 0
  pub Day : S → ℕ → ℕ × ℤ → Type 0
  pub Part : S → ℕ → ℕ × ℤ → Type 0
  pub Fee : S → F → ℕ × ℤ → Type 0
  pub Total : S → ℕ × ℤ → Type 0
  pub Standing : S → ℕ × ℕ → Type 0

module _ {P F M B S : Type 0} (L : Ledger P F M B S) (p : P) where
  -- "Take one and any run of posts, replacements, withdrawals, loss fee settings and closings, each given the ledger that the one before
  -- handed back."
  pub data Run : List (Recorded F (M × B)) → S → Type 0 where
    opened : (s : S) → L.Opens p s → Run [] s
    called : (h : List (Recorded F (M × B))) (s : S) (c : Call F (M × B)) (k : ℕ) (t : S) → Run h s → L.Answers s c k t → Run (record { call = c; answer = k } ∷ h) t

  pub record Demand3 (h : List (Recorded F (M × B))) (s : S) : Type 0 where
    -- "A call is accepted exactly when document 01 lets it be."
    pub accepted : Ruled (L.rules p) h
    -- "The month total then equals the sum, over the hours, of the amount last accepted for that hour and not withdrawn since, less the last
    -- accepted loss fee, or zero if there was none." #101: "Demand 3 then takes away both, each zero if never set."
    pub total : (r : ℕ × ℤ) → L.Total s r → r ≡ (0, total_is (L.rules p) h)
    -- #101: "each has its own last accepted value"
    pub fee : (f : F) (r : ℕ × ℤ) → L.Fee s f r → r ≡ (0, last_fee (L.rules p) h f)
    -- "Each hour's read-out, each day's sum and the number of standing hours follow from the same history."
    pub hour : (d x : ℕ) (r : ℕ × ℤ) → L.Hour s d x r → r ≡ hour_is (L.rules p) h d x
    pub day : (d : ℕ) (r : ℕ × ℤ) → L.Day s d r → r ≡ day_is (L.rules p) h d
    pub standing : (r : ℕ × ℕ) → L.Standing s r → r ≡ (0, standing_is (L.rules p) h)
    -- #111: "the five product sums, each from the history, add up to the total before the loss fees."
    pub part : (q : ℕ) (r : ℕ × ℤ) → L.Part s q r → r ≡ part_is (L.rules p) h q
    pub parts : sum_to (L.rules p).parts (λ k. (part_is (L.rules p) h (suc k)).1) ≡ earned_is (L.rules p) h

  -- "Every month .. opens, fresh and with no hour standing": what is told of a month that was just opened
  pub record OpensEmpty (s : S) : Type 0 where
    pub hour : (d x : ℕ) → inside (L.rules p) d x ≡ true → (r : ℕ × ℤ) → L.Hour s d x r → r ≡ (place_empty, pos 0)
    pub day : (d : ℕ) → leb 1 d && leb d (L.rules p).days ≡ true → (r : ℕ × ℤ) → L.Day s d r → r ≡ (0, pos 0)
    pub fee : (f : F) (r : ℕ × ℤ) → L.Fee s f r → r ≡ (0, pos 0)
    pub total : (r : ℕ × ℤ) → L.Total s r → r ≡ (0, pos 0)
    pub standing : (r : ℕ × ℕ) → L.Standing s r → r ≡ (0, 0)

-- what some run of calls from a fresh month hands back
pub record Reachable {P F M B S : Type 0} (L : Ledger P F M B S) (s : S) : Type 0 where
  pub plan : P
  pub history : List (Recorded F (M × B))
  pub run : Run L plan history s

-- 22, "a handed-in ledger that no run of calls from a fresh month hands back", just there: of the calls and of the read-outs
abbrev pub Just22 : {P F M B S : Type 0} → Ledger P F M B S → S → ℕ → Type 0
Just22 L s k = (k ≡ not_reachable) ↔ (Reachable L s → ⊥)

pub record Exact22 {P F M B S : Type 0} (L : Ledger P F M B S) (s : S) : Type 0 where
  pub call : (c : Call F (M × B)) (k : ℕ) (t : S) → L.Answers s c k t → Just22 L s k
  pub hour : (d x : ℕ) (r : ℕ × ℤ) → L.Hour s d x r → Just22 L s r.0
  pub day : (d : ℕ) (r : ℕ × ℤ) → L.Day s d r → Just22 L s r.0
  pub part : (q : ℕ) (r : ℕ × ℤ) → L.Part s q r → Just22 L s r.0
  pub fee : (f : F) (r : ℕ × ℤ) → L.Fee s f r → Just22 L s r.0
  pub total : (r : ℕ × ℤ) → L.Total s r → Just22 L s r.0
  pub standing : (r : ℕ × ℕ) → L.Standing s r → Just22 L s r.0
