-- Fields that are put one after the other, and how long they are. By the fields that are left. Assumes nothing.
use Prim.Native.Nat.{ℕ, suc, ◌+◌, ◌*◌, ◌≤◌, ◌<◌}
use mathlib.Core.Path.{◌≡◌, sym, ◌∙◌}
use mathlib.Core.Bool.{true, false}
use mathlib.Core.List.{List, [], ◌∷◌, map}
use native.Mathlib.Omega.{arith}
use lib.Dec.{leb}
use borrow.Author.Tests.{leb-true, le-leb}
use lib.IntN.{ℤ, pos}
use lib.ListN.{length, get_or, length-append}
use mir.Syntax.{w64}
use mir.Val.{SFits}
use Rattle.whole.specs.Choice.{kept}
use Rattle.whole.proofs.Choice.{by_test, clash, kept_any}
use Rattle.units.specs.Limits.{seconds_of_hour, seconds_of_quarter}
use Rattle.units.specs.Units.{kilowatts}
use Rattle.ramp.specs.Ramp.{ramp_of, ramp_refusal}
use Rattle.ramp.proofs.Accepted.{ramp_ramped}
use Rattle.numbers.specs.Numbers.{number}
use Rattle.words.specs.declared.Hour.TheVariants.{Dreg, Edreg, Sreg}
use Rattle.words.specs.declared.Series.{Series}
use Rattle.words.specs.declared.Series.TheVariants.{Ramp, DregScores, EdregScores, SregScores}
use Rattle.hours.specs.Hours.{HourNumbers, Basis, hour_asked, settlement, scores_asked, scores_reply}
use Rattle.hours.proofs.HourLaws.{scores_all, score_small}
use Rattle.series.specs.Series.{ramp_reply, series_reply}
use Rattle.text.specs.Text.{signed_text, put}
use Rattle.text.proofs.Places.{put_nothing, put_put}
use Rattle.text.proofs.Spelling.{length_decimal, length_signed}
use Rattle.question.specs.Inner.{most_fields}
use Rattle.question.specs.Lines.{field, fields_text}

-- what is left to put, put here, gives the whole
abbrev pub Left : List ℕ → ℕ → List ℤ → List ℕ → ℕ → List ℤ → Type 0
Left out₀ at all out to left =
    (at + length (fields_text all) ≡ to + length (fields_text left)) × (put out₀ at (fields_text all) ≡ put out to (fields_text left))

pub one_less_lem : (out₀ : List ℕ) (at : ℕ) (all : List ℤ) (out out₁ : List ℕ) (to to₁ : ℕ) (z : ℤ) (zs left : List ℤ) → left ≡ z ∷ zs
    → to + length (field z) ≤ length out → to₁ ≡ to + length (field z) → out₁ ≡ put out to (field z) → Left out₀ at all out to left
    → Left out₀ at all out₁ to₁ zs
one_less_lem out₀ at all out out₁ to to₁ z zs left e h p q v =
    let u = rw e at v in
    (u.0 ∙ omega (arith, length-append (field z) (fields_text zs)), u.1 ∙ sym (put_put out to (field z) (fields_text zs) h) ∙ rw (p, q))

pub none_left : (out₀ : List ℕ) (at : ℕ) (all : List ℤ) (out : List ℕ) (to : ℕ) (left : List ℤ) → left ≡ [] → Left out₀ at all out to left
    → (to ≡ at + length (fields_text all)) × (out ≡ put out₀ at (fields_text all))
none_left out₀ at all out to left e v =
    let u = rw e at v in
    (omega (arith, u.0), sym (u.1 ∙ put_nothing out to))

-- a field of a number of 64 bits
pub field_long : (z : ℤ) → SFits w64 z → length (field z) ≤ 22
field_long z g = omega (arith, length_signed z g)

-- how far 900 fields go, or more where they are short: so many are put, and these are left
abbrev pub Far : ℕ → List ℤ → ℕ → ℕ → Type 0
Far at all to i = leb (length all) seconds_of_quarter ≡ true → to ≤ at + 22 * i

abbrev pub Short : List ℤ → Type 0
Short all = leb (length all) seconds_of_quarter ≡ false → length (fields_text all) ≤ most_fields

module _ (out₀ : List ℕ) (at : ℕ) (all : List ℤ) (out : List ℕ) (to i : ℕ) (left : List ℤ) (h : Short all) (f : Far at all to i) (v : Left out₀ at all out to left) where
  pub next_fits : (z : ℤ) (zs : List ℤ) → left ≡ z ∷ zs → i < length all → length (field z) ≤ 22 → to + length (field z) ≤ at + most_fields
  next_fits z zs e l w =
      by_test (leb (length all) seconds_of_quarter)
      (λ (t : leb (length all) seconds_of_quarter ≡ true). omega (arith, f t, leb-true (length all) seconds_of_quarter t))
      (λ (t : leb (length all) seconds_of_quarter ≡ false). let u = rw e at v in omega (arith, h t, u.0, length-append (field z) (fields_text zs)))

  pub all_fit : left ≡ [] → i ≤ length all → to ≤ at + most_fields
  all_fit e l =
      by_test (leb (length all) seconds_of_quarter)
      (λ (t : leb (length all) seconds_of_quarter ≡ true). omega (arith, f t, leb-true (length all) seconds_of_quarter t))
      (λ (t : leb (length all) seconds_of_quarter ≡ false). let u = rw e at v in omega (arith, h t, u.0))

-- few enough that nothing is asked of them
pub few_fields : (zs : List ℤ) → length zs ≤ seconds_of_quarter → leb (length zs) seconds_of_quarter ≡ false → length (fields_text zs) ≤ most_fields
few_fields zs h e = clash (sym e ∙ le-leb (length zs) seconds_of_quarter h)

-- 3,600 bytes take four places each
byte_short : (b : ℕ) → b < 256 → length (field (pos b)) ≤ 4
unfolding signed_text
byte_short b g = omega (arith, length_decimal 2 b (omega arith))

bytes_within : (bytes : List ℕ) → ((k : ℕ) → get_or bytes k 0 < 256) → length (fields_text (map pos bytes)) ≤ 4 * length bytes
bytes_within [] h = omega arith
bytes_within (b ∷ bs) h =
    let l = length-append (field (pos b)) (fields_text (map pos bs)) in
    omega (arith, byte_short b (h 0), bytes_within bs (λ k. h (suc k)))

-- the scores of an hour, or none beside a refusal
hour_short : (h : Basis) → length (fields_text (kept (settlement h).refusal (map pos (scores_asked h)) [])) ≤ most_fields
hour_short h =
    let b = bytes_within (scores_asked h) (λ i. omega (arith, score_small h.asked h.state h.hour i)) in
    kept_any (λ (l : List ℤ). length (fields_text l) ≤ most_fields) (settlement h).refusal (λ e. let m : length (scores_asked h) ≡ seconds_of_hour = scores_all h e in omega arith) (omega arith)

-- the fields of a run: at most 900, or short
pub series_short : (asks : Series) (n : List ℤ) (given : HourNumbers) → Short (series_reply asks n given).fields
unfolding ramp_reply scores_reply
series_short Ramp n given =
    let quarter : length (ramp_of (number n 0) (number n 1)) ≤ seconds_of_quarter = omega (arith, (ramp_ramped (number n 0) (number n 1)).seconds) in
    let none : length {A = ℤ} [] ≤ seconds_of_quarter = omega arith in
    few_fields (ramp_reply n).fields (kept_any (λ (l : List ℤ). length l ≤ seconds_of_quarter) (ramp_refusal (kilowatts (number n 0)) (kilowatts (number n 1)) seconds_of_quarter) {new = ramp_of (number n 0) (number n 1)} {old = []} (λ z. quarter) none)
series_short DregScores n given = λ t. hour_short (hour_asked Dreg given)
series_short EdregScores n given = λ t. hour_short (hour_asked Edreg given)
series_short SregScores n given = λ t. hour_short (hour_asked Sreg given)
