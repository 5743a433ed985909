-- Demand 3 holds of any ledger whose contracts are lawful: they say of a state what the board's definitions say. By induction on the run: the board
-- goes on telling what the history tells. Assumes nothing.
use Prim.Native.Nat.{ℕ, suc, ◌+◌}
use mathlib.Core.Path.{◌≡◌, refl, ap, ◌∙◌, subst, subst⁻¹}
use mathlib.Core.Bool.{true}
use mathlib.Core.List.{List, [], ◌∷◌, foldl}
use lib.IntN.{ℤ, pos, ◌-ℤ◌}
use Rattle.whole.specs.Choice.{pick, unless}
use Rattle.whole.proofs.Folds.{fold_empty}
use Rattle.whole.proofs.Sums.{sum_none}
use Rattle.units.specs.Refusals.{not_reachable}
use Rattle.history.specs.Rules.{Call, Rules, Sound}
use Rattle.history.specs.Board.{Board, fresh, well_formed, ruling_on, handed, hour_on, day_on, part_on, total_on, standing_on, refusal_of, next_of, or_reachable}
use Rattle.history.specs.History.{Recorded, Ruled, last_item, last_fee, month_sum}
use Rattle.history.specs.Demand.{Ledger, Run, opened, called, Demand3, OpensEmpty}
use Rattle.history.proofs.Board.{good_well}
use Rattle.history.proofs.Steps.{Told, recorded, ruled, start_told, next_told}
use Rattle.history.proofs.Readouts.{hour_is_lem, day_is_lem, part_is_lem, total_is_lem, parts_are, standing_is_lem}

-- a state's plan and board, and that the contracts say what the definitions on the board say, 22 included
pub record Lawful {P F M B S : Type 0} (L : Ledger P F M B S) : Type 1 where
  pub plan : S → P
  pub board : S → Board F M B
  -- a plan whose month opens has sound rules
  pub sound : (p : P) → (L.rules p).opens ≡ true → Sound (L.rules p)
  pub opens : (p : P) (s : S) → L.Opens p s → ((L.rules p).opens ≡ true) × (plan s ≡ p) × (board s ≡ fresh (L.rules p))
  pub answers : (s : S) (c : Call F (M × B)) (k : ℕ) (t : S) → L.Answers s c k t
      → (k ≡ refusal_of (L.rules (plan s)) (board s) c) × (plan t ≡ plan s) × (board t ≡ next_of (L.rules (plan s)) (board s) c)
  pub hour : (s : S) (d x : ℕ) (r : ℕ × ℤ) → L.Hour s d x r → let R = L.rules (plan s) in r ≡ or_reachable R (pos 0) (board s) (hour_on R (board s) d x)
  pub day : (s : S) (d : ℕ) (r : ℕ × ℤ) → L.Day s d r → let R = L.rules (plan s) in r ≡ or_reachable R (pos 0) (board s) (day_on R (board s) d)
  pub part : (s : S) (q : ℕ) (r : ℕ × ℤ) → L.Part s q r → let R = L.rules (plan s) in r ≡ or_reachable R (pos 0) (board s) (part_on R (board s) q)
  pub fee : (s : S) (f : F) (r : ℕ × ℤ) → L.Fee s f r → r ≡ or_reachable (L.rules (plan s)) (pos 0) (board s) (0, (board s).fee f)
  pub total : (s : S) (r : ℕ × ℤ) → L.Total s r → let R = L.rules (plan s) in r ≡ or_reachable R (pos 0) (board s) (0, total_on R (board s))
  pub standing : (s : S) (r : ℕ × ℕ) → L.Standing s r → let R = L.rules (plan s) in r ≡ or_reachable R 0 (board s) (0, standing_on R (board s))

module _ {P F M B S : Type 0} (L : Ledger P F M B S) (laws : Lawful L) where
  abbrev pub rules_at : S → Rules F M B
  rules_at s = L.rules (laws.plan s)

  -- what a run by the plan p has come to
  pub record Come (p : P) (h : List (Recorded F (M × B))) (s : S) : Type 0 where
    pub sound : Sound (L.rules p)
    pub plan : laws.plan s ≡ p
    pub told : Told (L.rules p) h (laws.board s)
    pub ruled : Ruled (L.rules p) h

  -- its board is in form
  pub well : (p : P) (h : List (Recorded F (M × B))) (s : S) → Come p h s → well_formed (rules_at s) (laws.board s) ≡ true
  well p h s c = subst⁻¹ (λ q. well_formed (L.rules q) (laws.board s) ≡ true) c.plan (good_well (L.rules p) c.sound (laws.board s) c.told.good)

  -- so that 22 is left aside
  pub called_well : (s : S) (c : Call F (M × B)) (k : ℕ) (t : S) → well_formed (rules_at s) (laws.board s) ≡ true → L.Answers s c k t
      → (k ≡ ruling_on (rules_at s) (laws.board s) c) × (laws.board t ≡ handed (rules_at s) (laws.board s) c)
  unfolding refusal_of next_of
  called_well s c k t w a =
      let b = laws.board s in
      let step = laws.answers s c k t a in
      (step.0 ∙ ap (λ u. unless u not_reachable (ruling_on (rules_at s) b c)) w, step.2 ∙ ap (λ u. pick u (handed (rules_at s) b c) b) w)

  pub come : (p : P) (h : List (Recorded F (M × B))) (s : S) → Run L p h s → Come p h s
  come p h s (opened _ o) =
      let e = laws.opens p s o in
      let sound = laws.sound p e.0 in
      record { sound = sound; plan = e.1; told = subst⁻¹ (Told (L.rules p) []) e.2 (start_told (L.rules p) sound); ruled = tt }
  come p h t (called g s c k _ run a) =
      let R = L.rules p in
      let b = laws.board s in
      let before = come p g s run in
      let step = called_well s c k t (well p g s before) a in
      let number : k ≡ ruling_on R b c = step.0 ∙ ap (λ q. ruling_on (L.rules q) b c) before.plan in
      let next : laws.board t ≡ handed R b c = step.1 ∙ ap (λ q. handed (L.rules q) b c) before.plan in
      record {
        sound = before.sound;
        plan = (laws.answers s c k t a).1 ∙ before.plan;
        told = subst⁻¹ (λ n. Told R (recorded c k ∷ g) n) next
            (subst⁻¹ (λ n. Told R (recorded c n ∷ g) (handed R b c)) number (next_told R before.sound g b before.told c));
        ruled = (number ∙ ruled R g b before.told c, before.ruled);
      }

  pub demand3 : (p : P) (h : List (Recorded F (M × B))) (s : S) → Run L p h s → Demand3 L p h s
  demand3 p h s run =
      record {
        accepted = c.ruled;
        total = λ r a. laws.total s r a ∙ plain (pos 0) (λ R. (0, total_on R b)) ∙ ap (λ z. (0, z)) (total_is_lem R c.sound h b c.told);
        hour = λ d x r a. laws.hour s d x r a ∙ plain (pos 0) (λ R. hour_on R b d x) ∙ hour_is_lem R c.sound h b c.told d x;
        day = λ d r a. laws.day s d r a ∙ plain (pos 0) (λ R. day_on R b d) ∙ day_is_lem R c.sound h b c.told d;
        part = λ q r a. laws.part s q r a ∙ plain (pos 0) (λ R. part_on R b q) ∙ part_is_lem R c.sound h b c.told q;
        fee = λ f r a. laws.fee s f r a ∙ plain (pos 0) (λ _. (0, b.fee f)) ∙ ap (λ z. (0, z)) (c.told.fee_is f);
        standing = λ r a. laws.standing s r a ∙ plain 0 (λ R. (0, standing_on R b)) ∙ ap (λ n. (0, n)) (standing_is_lem R c.sound h b c.told);
        parts = parts_are R c.sound h b c.told;
      }
    where
      c : Come p h s
      c = come p h s run

      b : Board F M B
      b = laws.board s

      R : Rules F M B
      R = L.rules p

      -- a read-out of a board in form, by the plan that opened it
      plain : {X : Type 0} (nothing : X) (tells : Rules F M B → ℕ × X) → or_reachable (rules_at s) nothing b (tells (rules_at s)) ≡ tells R
      plain nothing tells = ap (λ u. pick u (tells (rules_at s)) (not_reachable, nothing)) (well p h s c) ∙ ap (λ q. tells (L.rules q)) c.plan

  -- of no history nothing is told: no hour stands, and every sum is 0
  no_fees : (fs : List F) → foldl (λ z _. z -ℤ pos 0) (pos 0) fs ≡ pos 0
  no_fees [] = refl
  no_fees (f ∷ fs) = no_fees fs

  pub opens_empty : (p : P) (s : S) → L.Opens p s → OpensEmpty L p s
  unfolding last_item last_fee
  opens_empty p s o =
      let R = L.rules p in
      let d3 = demand3 p [] s (opened s o) in
      let nothing : month_sum R R.worth [] ≡ pos 0 = sum_none R.days _ (λ k _. sum_none (R.hours_of (suc k)) _ (λ _ _. refl)) in
      record {
        hour = λ d x i r a. d3.hour d x r a ∙ rw i;
        day = λ d i r a. d3.day d r a ∙ rw i (ap (λ z. (0, z)) (sum_none (R.hours_of d) _ (λ _ _. refl)));
        fee = λ f r a. d3.fee f r a;
        total = λ r a. d3.total r a ∙ ap (λ z. (0, z)) (ap (λ e. foldl (λ z _. z -ℤ pos 0) e R.fees) nothing ∙ no_fees R.fees);
        standing = λ r a. d3.standing r a ∙ ap (λ n. (0, n)) (fold_empty 0 ◌+◌ refl R.days _ (λ k _. fold_empty 0 ◌+◌ refl (R.hours_of (suc k)) _ (λ _ _. refl)));
      }
