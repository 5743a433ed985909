-- THE THREE SECONDS BEFORE THE HOUR (document 02, #102): with no earlier score the rate is the old one; earlier scores raise it or leave it; and with the last three scores of the hour
-- before, it is the smallest over the windows of both hours' scores put one after the other, so that nothing depends on where the hour is cut. By the one pass that carries three scores; over
-- the contract of `hourly_rate` as the toolchain reads it. Assumes nothing.
use Prim.Native.Nat.{ℕ, zero, suc, ◌-◌, ◌+◌, ◌≤◌, max, zero-le}
use mathlib.Core.Path.{◌≡◌, refl, sym, ap, ap₂, ◌∙◌}
use mathlib.Core.Bool.{true, and-true}
use mathlib.Core.List.{List, [], ◌∷◌, ◌++◌, append_assoc}
use native.Mathlib.Nat.{not-suc-le-zero}
use native.Mathlib.Omega.{arith}
use lib.Dec.{eqb}
use lib.ListN.{length, take, drop, get_or, take-append-drop, length-drop}
use lib.Seq.{get_or-drop}
use contract.Lifetimes.{Lfts}
use denote.Ref.{Bor}
use denote.Triple.Clauses.{AtExit}
use borrow.Fn.Kinds.{ended_of}
use Rattle.units.specs.Limits.{earlier_scores, seconds_of_hour}
use Rattle.rate.specs.Rolling.{smallest, rolling, earlier_fit, are_scores, scores_refusal, hourly_rate}
use Rattle.rate.specs.Earlier.{WindowsAfter, alone_refusal, rate_alone, last_three}
use Rattle.rate.specs.Accepted.{ScoresFit}
use Rattle.rate.specs.Inner.{carried}
use Rattle.rate.specs.declared.Rated.{Rated}
use Rattle.rate.proofs.Rates.{last_of, second_of, third_of, rolling_carried, rolling_at, length_rolling, smallest_least, smallest_most, score_at, are_scores_lem, scores_fit, rate_granted, rate_refusal, rate_is}
use Rattle.rate.proofs.hourly_rate.Reads as hourly_rate_lem
use Rattle.rate.proofs.hourly_rate.Kinds as hourly_rate_kinds

-- ---- the first windows

pub hour_windows_after : (e₁ e₂ e₃ x₁ x₂ x₃ : ℕ) (later : List ℕ) → WindowsAfter e₁ e₂ e₃ x₁ x₂ x₃ (x₁ ∷ x₂ ∷ x₃ ∷ later)
hour_windows_after e₁ e₂ e₃ x₁ x₂ x₃ later =
    let earlier = e₁ ∷ e₂ ∷ e₃ ∷ [] in
    let scores = x₁ ∷ x₂ ∷ x₃ ∷ later in
    record {
      second_1 = rw (rolling_carried earlier scores);
      second_2 = rw (rolling_carried earlier scores);
      second_3 = rw (rolling_carried earlier scores);
      from_4 = rolling_at earlier scores;
    }

-- ---- with none, the old rate

pub none_are : are_scores [] ≡ true
none_are = are_scores_lem [] (λ i l. absurd (not-suc-le-zero l))

none_refusal : (scores : List ℕ) → scores_refusal [] scores ≡ alone_refusal scores
unfolding scores_refusal
none_refusal scores = rw (and-true (eqb (length scores) seconds_of_hour), none_are)

pub none_alone : (scores : List ℕ) → hourly_rate [] scores ≡ rate_alone scores
unfolding hourly_rate rate_alone
none_alone scores = rw (none_refusal scores)

-- scores that fit after any earlier ones fit after none
pub alone_granted : (earlier scores : List ℕ) → ScoresFit earlier scores → rate_alone scores ≡ record { refusal = 0; rate = smallest (rolling [] scores) }
alone_granted earlier scores f = sym (none_alone scores) ∙ rate_granted [] scores (record { long = f.long; of_earlier = refl; before = none_are; small = f.small })

-- ---- earlier scores raise a rate, or leave it

-- larger ones before, larger rolling rates
carried_more : {a b c p q r : ℕ} → a ≤ p → b ≤ q → c ≤ r → (xs : List ℕ) (i : ℕ) → get_or (carried a b c xs) i 0 ≤ get_or (carried p q r xs) i 0
carried_more h k l [] i = zero-le
carried_more h k l (x ∷ xs) zero = omega arith
carried_more h k l (x ∷ xs) (suc i) = let e : x ≤ x = omega arith in carried_more e h k xs i

smallest_more : (xs ys : List ℕ) → length xs ≡ length ys → ((i : ℕ) → get_or xs i 0 ≤ get_or ys i 0) → smallest xs ≤ smallest ys
smallest_more [] ys e f = zero-le
smallest_more (x ∷ xs) ys e f =
    smallest_most (smallest (x ∷ xs)) ys (omega arith) (λ i l. omega (arith, smallest_least (x ∷ xs) i (omega arith), f i))

raised : (earlier later scores : List ℕ) → last_of earlier ≤ last_of later → second_of earlier ≤ second_of later → third_of earlier ≤ third_of later
    → smallest (rolling earlier scores) ≤ smallest (rolling later scores)
raised earlier later scores h k l =
    smallest_more (rolling earlier scores) (rolling later scores) (length_rolling earlier scores ∙ sym (length_rolling later scores))
    (λ i. rw (rolling_carried earlier scores, rolling_carried later scores) (carried_more h k l scores i))

-- any are at least none, and larger ones at least smaller ones
pub none_least : (earlier scores : List ℕ) → smallest (rolling [] scores) ≤ smallest (rolling earlier scores)
none_least earlier scores = raised [] earlier scores zero-le zero-le zero-le

pub larger_more : (a b c p q r : ℕ) (scores : List ℕ) → a ≤ p → b ≤ q → c ≤ r → smallest (rolling (a ∷ b ∷ c ∷ []) scores) ≤ smallest (rolling (p ∷ q ∷ r ∷ []) scores)
larger_more a b c p q r scores h k l = raised (a ∷ b ∷ c ∷ []) (p ∷ q ∷ r ∷ []) scores l k h

-- ---- nothing depends on where the hour is cut

carried_cut : (a b c : ℕ) (xs : List ℕ) (p q r : ℕ) (ys : List ℕ) → carried a b c (xs ++ (p ∷ q ∷ r ∷ ys)) ≡ carried a b c (xs ++ (p ∷ q ∷ r ∷ [])) ++ carried r q p ys
carried_cut a b c [] p q r ys = refl
carried_cut a b c (x ∷ xs) p q r ys = ap (λ (l : List ℕ). max x (max a (max b c)) ∷ l) (carried_cut x a b xs p q r ys)

cut_by : (earlier front last second : List ℕ) → length last ≡ earlier_scores → rolling earlier ((front ++ last) ++ second) ≡ rolling earlier (front ++ last) ++ rolling last second
cut_by earlier front [] second e = absurd (omega arith)
cut_by earlier front (p ∷ []) second e = absurd (omega arith)
cut_by earlier front (p ∷ q ∷ []) second e = absurd (omega arith)
cut_by earlier front (p ∷ q ∷ r ∷ []) second e =
    let last = p ∷ q ∷ r ∷ [] in
    ap (rolling earlier) (append_assoc front last second)
    ∙ rolling_carried earlier (front ++ (p ∷ q ∷ r ∷ second))
    ∙ carried_cut _ _ _ front p q r second
    ∙ sym (ap₂ ◌++◌ (rolling_carried earlier (front ++ last)) (rolling_carried last second))
cut_by earlier front (p ∷ q ∷ r ∷ s ∷ rest) second e = absurd (omega arith)

-- the rolling rates of a run of seconds are those of its first part, and those of the rest after the last three of the first
pub cut_anywhere : (earlier first second : List ℕ) → earlier_scores ≤ length first → rolling earlier (first ++ second) ≡ rolling earlier first ++ rolling (last_three first) second
cut_anywhere earlier first second h =
    let k = length first - earlier_scores in
    rw (take-append-drop k first) at (cut_by earlier (take k first) (drop k first) second (length-drop k first ∙ omega arith))

module _ (ys : List ℕ) where
  take_front : (xs : List ℕ) → take (length xs) (xs ++ ys) ≡ xs
  take_front [] = refl
  take_front (x ∷ xs) = ap (λ (l : List ℕ). x ∷ l) (take_front xs)

  drop_front : (xs : List ℕ) → drop (length xs) (xs ++ ys) ≡ ys
  drop_front [] = refl
  drop_front (x ∷ xs) = drop_front xs

module _ (earlier first second : List ℕ) (h : earlier_scores ≤ length first) where
  abbrev both : List ℕ
  both = rolling earlier (first ++ second)

  -- so those of the first hour are the first of both, and those of the second are those of both from its first second on
  pub first_hour : rolling earlier first ≡ take (length first) both
  first_hour =
      sym (ap (λ (n : ℕ). take n both) (sym (length_rolling earlier first)) ∙ ap (take (length (rolling earlier first))) (cut_anywhere earlier first second h) ∙ take_front _ (rolling earlier first))

  pub second_hour : rolling (last_three first) second ≡ drop (length first) both
  second_hour =
      sym (ap (λ (n : ℕ). drop n both) (sym (length_rolling earlier first)) ∙ ap (drop (length (rolling earlier first))) (cut_anywhere earlier first second h) ∙ drop_front _ (rolling earlier first))

-- the last three scores of an hour may always be handed on
pub handed_on : (scores : List ℕ) → earlier_scores ≤ length scores → are_scores scores ≡ true → (earlier_fit (length (last_three scores)) ≡ true) × (are_scores (last_three scores) ≡ true)
handed_on scores h e =
    let k = length scores - earlier_scores in
    let three : length (last_three scores) ≡ earlier_scores = length-drop k scores ∙ omega arith in
    (rw three, are_scores_lem (last_three scores) (λ i l. rw (get_or-drop k scores i 0) (score_at scores (k + i) e (omega arith))))

-- ---- over the contract

-- an answer that refuses nothing
plain : (earlier scores : List ℕ) (x : Rated) → x ≡ hourly_rate earlier scores → x.refusal ≡ 0 → x.rate ≡ smallest (rolling earlier scores)
plain earlier scores x p z = ap (λ (r : Rated). r.rate) p ∙ rate_is earlier scores (sym (ap (λ (r : Rated). r.refusal) p) ∙ z)

-- with no earlier score the answer is the old one
pub hourly_rate_as_before : (κs : Lfts 2) (earlier scores : Bor (List ℕ)) (x : Rated) (s : AtExit (ended_of 2 hourly_rate_kinds.ps hourly_rate_kinds.r) κs)
    → hourly_rate_lem.Post κs (earlier, (scores, tt)) x s → earlier.now ≡ [] → x ≡ rate_alone scores.now
hourly_rate_as_before κs earlier scores x s p e = p ∙ ap (λ (l : List ℕ). hourly_rate l scores.now) e ∙ none_alone scores.now

-- an earlier score can only raise the rate: beside the answer to the same scores with none
pub hourly_rate_raised : (κs : Lfts 2) (earlier scores : Bor (List ℕ)) (x : Rated) (s : AtExit (ended_of 2 hourly_rate_kinds.ps hourly_rate_kinds.r) κs)
    → hourly_rate_lem.Post κs (earlier, (scores, tt)) x s → x.refusal ≡ 0 → ((rate_alone scores.now).refusal ≡ 0) × ((rate_alone scores.now).rate ≤ x.rate)
hourly_rate_raised κs earlier scores x s p z =
    let granted = sym (ap (λ (r : Rated). r.refusal) p) ∙ z in
    let alone = alone_granted earlier.now scores.now (scores_fit earlier.now scores.now (sym (rate_refusal earlier.now scores.now) ∙ granted)) in
    (ap (λ (r : Rated). r.refusal) alone, rw (ap (λ (r : Rated). r.rate) alone, plain earlier.now scores.now x p z) (none_least earlier.now scores.now))

-- and a larger one never lowers it: beside the answer to the same scores with three that are no larger
pub hourly_rate_larger : (κs ηs : Lfts 2) (earlier later scores also : Bor (List ℕ)) (x y : Rated) (s : AtExit (ended_of 2 hourly_rate_kinds.ps hourly_rate_kinds.r) κs)
    (t : AtExit (ended_of 2 hourly_rate_kinds.ps hourly_rate_kinds.r) ηs) → hourly_rate_lem.Post κs (earlier, (scores, tt)) x s → hourly_rate_lem.Post ηs (later, (also, tt)) y t → also.now ≡ scores.now
    → {a b c p q r : ℕ} → earlier.now ≡ a ∷ b ∷ c ∷ [] → later.now ≡ p ∷ q ∷ r ∷ [] → a ≤ p → b ≤ q → c ≤ r → x.refusal ≡ 0 → y.refusal ≡ 0 → x.rate ≤ y.rate
hourly_rate_larger κs ηs earlier later scores also x y s t met next same {a} {b} {c} {p} {q} {r} e f h k l z w =
    let one = plain earlier.now scores.now x met z ∙ ap (λ (v : List ℕ). smallest (rolling v scores.now)) e in
    let other = plain later.now also.now y next w ∙ (λ i. smallest (rolling (f i) (same i))) in
    rw (one, other) (larger_more a b c p q r scores.now h k l)

-- with the last three scores of the hour before: the smallest over the windows of both hours' scores, from the second hour's first second on
pub hourly_rate_cut : (κs : Lfts 2) (earlier scores : Bor (List ℕ)) (x : Rated) (s : AtExit (ended_of 2 hourly_rate_kinds.ps hourly_rate_kinds.r) κs)
    → hourly_rate_lem.Post κs (earlier, (scores, tt)) x s → x.refusal ≡ 0 → (first : List ℕ) → earlier_scores ≤ length first → earlier.now ≡ last_three first
    → x.rate ≡ smallest (drop (length first) (rolling [] (first ++ scores.now)))
hourly_rate_cut κs earlier scores x s p z first h e =
    plain earlier.now scores.now x p z ∙ ap (λ (l : List ℕ). smallest (rolling l scores.now)) e ∙ ap smallest (second_hour [] first scores.now h)
