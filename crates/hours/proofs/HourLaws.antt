-- The hour that a question asks about, from its parts; and what its refusal decides. By the test of its number; of the three kinds of hour, each by its own call. Assumes nothing.
use Prim.Native.Nat.{ℕ, zero, suc, ◌*◌, ◌/◌, ◌%◌, ◌≤◌, ◌<◌, min}
use native.Mathlib.Omega.{arith}
use mathlib.Core.Path.{◌≡◌, refl, sym, ap, ◌∙◌}
use mathlib.Core.Bool.{Bool, true, false, ◌&&◌, and-false}
use mathlib.Core.List.{List}
use lib.Dec.{eqb, leb}
use lib.IntN.{ℤ}
use lib.ListN.{length, get_or}
use borrow.Author.Tests.{leb-true, leb-false}
use Rattle.whole.specs.Choice.{pick, kept}
use Rattle.whole.specs.Runs.{listed}
use Rattle.whole.specs.Whole.{Within}
use Rattle.whole.proofs.Choice.{and_both, by_test, clash, kept_any, kept_old}
use Rattle.units.specs.Limits.{most_bands, earlier_scores, seconds_of_hour}
use Rattle.bands.specs.Bands.{bands_fit}
use Rattle.bands.proofs.Laws.{bands_fit_lem}
use Rattle.units.specs.Refusals.{wrong_length}
use Rattle.fees.specs.Fees.{most_hour_amount}
use Rattle.rate.proofs.Rates.{more_unfit}
use Rattle.units.specs.declared.Millihertz.{Millihertz}
use Rattle.hour.specs.Hour.{WholeHour, seconds_fit, hour_refusal, hour_answer, refused_hour, scores_of, scores_left}
use Rattle.hour.proofs.Laws.{fit, refusal_is, hour_refused, scores_long, hour_within}
use Rattle.hour.specs.declared.Terms.{Terms}
use Rattle.hour.specs.declared.Shift.{Shift}
use Rattle.hour.specs.declared.Settlement.{Settlement}
use Rattle.score.specs.Run.{run_scores, run_score_at}
use Rattle.score.proofs.Laws.{score_within}
use Rattle.sreg.specs.declared.EventState.{EventState}
use Rattle.sreg.specs.declared.EventState.TheVariants.{Outside, Responding, Holding, Recovering}
use Rattle.sreg.proofs.Seconds.{scores_most}
use Rattle.sreg_hour.specs.Hour.{sreg_refusal, sreg_scores, sreg_left, refused_sreg}
use Rattle.sreg_hour.specs.declared.Settled.{Settled}
use Rattle.sreg_hour.proofs.Laws as static
use Rattle.numbers.specs.Numbers.{scores_in, column}
use Rattle.numbers.specs.Inner.{first_four, taken}
use Rattle.numbers.specs.declared.Earlier.{Earlier}
use Rattle.numbers.proofs.Columns.{length_column}
use Rattle.numbers.proofs.Bytes.{four_same}
use Rattle.words.specs.declared.Hour as words
use Rattle.words.specs.declared.Hour.TheVariants.{Dreg, Edreg, Sreg}
use Rattle.words.specs.Inner.{boxed}
use Rattle.hours.specs.Inner.{pairs_in, in_twelve}
use Rattle.hours.specs.Hours.{HourNumbers, Basis, service_of, hour_from, counts_fit, hour_by, hour_asked, stateless, stated, ended_by, left_by, scores_by, settled_by, settlement, scores_asked, scores_after, state_fields, hour_shown, hour_reply}

-- ---- the three kinds, each by its own call

-- the number that the call refuses with
abbrev pub refusal_by : words.Hour → EventState → WholeHour → ℕ → ℕ
refusal_by Dreg state h places = hour_refusal h places
refusal_by Edreg state h places = hour_refusal h places
refusal_by Sreg state h places = sreg_refusal (stated state h) places

number_by : (a : words.Hour) (s : EventState) (h : WholeHour) (n : ℕ) → (ended_by a s h n).hour.refusal ≡ refusal_by a s h n
number_by Dreg s h n = refusal_is h n
number_by Edreg s h n = refusal_is h n
number_by Sreg s h n = static.refusal_is (stated s h) n

refused_by : (a : words.Hour) (s : EventState) (h : WholeHour) (n : ℕ) → (refusal_by a s h n ≡ 0 → ⊥) → ended_by a s h n ≡ refused_sreg (refusal_by a s h n)
refused_by Dreg s h n f = ap stateless (hour_refused h n f)
refused_by Edreg s h n f = ap stateless (hour_refused h n f)
refused_by Sreg s h n f = static.refused_is (stated s h) n f

left_by_lem : (a : words.Hour) (s : EventState) (h : WholeHour) (run : List ℕ) → left_by a s h run ≡ kept (refusal_by a s h (length run)) (scores_by a s h) run
unfolding scores_left sreg_left
left_by_lem Dreg s h run = refl
left_by_lem Edreg s h run = refl
left_by_lem Sreg s h run = refl

long_by : (a : words.Hour) (s : EventState) (h : WholeHour) (n : ℕ) → refusal_by a s h n ≡ 0 → length (scores_by a s h) ≡ seconds_of_hour
long_by Dreg s h n e = scores_long h n e
long_by Edreg s h n e = scores_long h n e
long_by Sreg s h n e = static.scores_long (stated s h) n e

pub amount_by : (a : words.Hour) (s : EventState) (h : WholeHour) (n : ℕ) → Within most_hour_amount (ended_by a s h n).hour.amount.0
amount_by Dreg s h n = hour_within h n
amount_by Edreg s h n = hour_within h n
amount_by Sreg s h n = static.hour_within (stated s h) n

-- bands that fit, where nothing is refused
bands_by : (a : words.Hour) (s : EventState) (h : WholeHour) (n : ℕ) → refusal_by a s h n ≡ 0 → bands_fit h.thresholds h.factors ≡ true
bands_by Dreg s h n e = (fit h n e).bands
bands_by Edreg s h n e = (fit h n e).bands
bands_by Sreg s h n e = (static.fit (stated s h) n e).bands

-- 1 for more earlier scores than an hour takes
many_by : (a : words.Hour) (s : EventState) (h : WholeHour) (n : ℕ) → earlier_scores < length h.earlier → refusal_by a s h n ≡ wrong_length
unfolding hour_refusal sreg_refusal
many_by Dreg s h n many = rw (more_unfit (length h.earlier) many, and-false (seconds_fit (length h.powers) (length h.frequencies) n))
many_by Edreg s h n many = rw (more_unfit (length h.earlier) many, and-false (seconds_fit (length h.powers) (length h.frequencies) n))
many_by Sreg s h n many = rw (more_unfit (length h.earlier) many, and-false (seconds_fit (length h.powers) (length h.frequencies) n))

-- the bands do not change the scores; and of bands that do not fit it does not matter which
scores_same : (a : words.Hour) (s : EventState) (shift : Shift) (powers frequencies : List ℤ) (terms : Terms) (reference : Millihertz) (earlier : List ℕ) (t g u v : List ℤ) →
    let service = service_of a shift in
    scores_by a s (hour_from powers frequencies terms reference service t g earlier) ≡ scores_by a s (hour_from powers frequencies terms reference service u v earlier)
unfolding scores_of sreg_scores
scores_same Dreg s shift powers frequencies terms reference earlier t g u v = refl
scores_same Edreg s shift powers frequencies terms reference earlier t g u v = refl
scores_same Sreg s shift powers frequencies terms reference earlier t g u v = refl

unfit_same : (a : words.Hour) (s : EventState) (shift : Shift) (powers frequencies : List ℤ) (terms : Terms) (reference : Millihertz) (earlier : List ℕ) (t g u v : List ℤ) (n : ℕ) → bands_fit t g ≡ false → bands_fit u v ≡ false →
    let service = service_of a shift in
    refusal_by a s (hour_from powers frequencies terms reference service t g earlier) n ≡ refusal_by a s (hour_from powers frequencies terms reference service u v earlier) n
unfolding hour_refusal sreg_refusal
unfit_same Dreg s shift powers frequencies terms reference earlier t g u v n one other = rw (one, other)
unfit_same Edreg s shift powers frequencies terms reference earlier t g u v n one other = rw (one, other)
unfit_same Sreg s shift powers frequencies terms reference earlier t g u v n one other = rw (one, other)

-- a score is at most 100
listed_small : (f : ℕ → ℕ) → ((k : ℕ) → f k ≤ 100) → (i n k : ℕ) → get_or (listed f i n) k 0 ≤ 100
listed_small f h i zero k = omega arith
listed_small f h i (suc n) zero = h i
listed_small f h i (suc n) (suc k) = listed_small f h (suc i) n k

pub score_small : (a : words.Hour) (s : EventState) (h : WholeHour) (i : ℕ) → get_or (scores_by a s h) i 0 ≤ 100
unfolding scores_of run_scores run_score_at sreg_scores
score_small Dreg s h i = listed_small _ (λ k. score_within _ _ _ _ _) 0 (length h.powers) i
score_small Edreg s h i = listed_small _ (λ k. score_within _ _ _ _ _) 0 (length h.powers) i
score_small Sreg s h i = scores_most s h.terms.capacity.0 h.powers h.frequencies i

-- ---- the refusal's number, of an hour whose numbers are as many as there are to be

module _ (h : Basis) (c : h.fits ≡ true) where
  settlement_number : (settlement h).refusal ≡ refusal_by h.asked h.state h.hour seconds_of_hour
  unfolding settled_by
  settlement_number = rw c (number_by h.asked h.state h.hour seconds_of_hour)

  refused_fits : ((settlement h).refusal ≡ 0 → ⊥) → settled_by h ≡ refused_sreg (settlement h).refusal
  unfolding settled_by
  refused_fits f = rw (settlement_number, c) (refused_by h.asked h.state h.hour seconds_of_hour (λ z. f (settlement_number ∙ z)))

-- a refused hour has zeros beside its number, and `Outside`
pub refused_is : (h : Basis) → ((settlement h).refusal ≡ 0 → ⊥) → settled_by h ≡ refused_sreg (settlement h).refusal
unfolding settled_by refused_hour
refused_is h f = by_test h.fits (λ (t : h.fits ≡ true). refused_fits h t f) (λ (t : h.fits ≡ false). rw t)

-- ---- more pairs than bands may be: the hour is refused with the same number, however many of them are read

unfit : (t g : List ℤ) → most_bands < length t → bands_fit t g ≡ false
unfit t g h = by_test (bands_fit t g) (λ (e : bands_fit t g ≡ true). absurd (omega (arith, (bands_fit_lem t g e).few))) (λ (e : bands_fit t g ≡ false). e)

module _ (a : words.Hour) (s : EventState) (powers frequencies : List ℤ) (terms : Terms) (reference : Millihertz) (shift : Shift) (earlier : List ℕ) where
  abbrev banded : List ℤ → List ℤ → WholeHour
  banded t g = hour_from powers frequencies terms reference (service_of a shift) t g earlier

  module _ (t g u v : List ℤ) (many : most_bands < length t) (also : most_bands < length u) (places : ℕ) where
    refusal_same : refusal_by a s (banded t g) places ≡ refusal_by a s (banded u v) places
    refusal_same = unfit_same a s shift powers frequencies terms reference earlier t g u v places (unfit t g many) (unfit u v also)

    refused : refusal_by a s (banded t g) places ≡ 0 → ⊥
    refused z = clash (sym (unfit t g many) ∙ bands_by a s (banded t g) places z)

    answer_same : ended_by a s (banded t g) places ≡ ended_by a s (banded u v) places
    answer_same = refused_by a s (banded t g) places refused ∙ ap refused_sreg refusal_same ∙ sym (refused_by a s (banded u v) places (λ z. refused (refusal_same ∙ z)))

-- ---- an hour from its parts, by the first 100 pairs and by all of them

module _ (a : words.Hour) (s : EventState) (powers frequencies : List ℤ) (terms : Terms) (reference : Millihertz) (shift : Shift) (bands : List ℤ) (earlier : List ℕ) where
  abbrev by : ℕ → WholeHour
  by n = hour_from powers frequencies terms reference (service_of a shift) (column bands 0 n) (column bands 1 n) earlier

  abbrev all : ℕ
  all = length bands / 2

  -- the same number, of more pairs than bands may be
  pairs_number : (leb all 100 ≡ false) → (places : ℕ) → refusal_by a s (by (min all 100)) places ≡ refusal_by a s (by all) places
  pairs_number t places =
      let h = leb-false all 100 t in
      refusal_same a s powers frequencies terms reference shift earlier _ _ _ _ (omega (arith, length_column bands 0 (min all 100))) (omega (arith, length_column bands 0 all)) places

  pub pairs_answer : (places : ℕ) → ended_by a s (by (pairs_in (length bands))) places ≡ ended_by a s (by all) places
  unfolding pairs_in
  pairs_answer places =
      by_test (leb all 100)
      (λ (t : leb all 100 ≡ true). let h = leb-true all 100 t in let e : min all 100 ≡ all = omega arith in rw e)
      (λ (t : leb all 100 ≡ false). let h = leb-false all 100 t in
      answer_same a s powers frequencies terms reference shift earlier _ _ _ _ (omega (arith, length_column bands 0 (min all 100))) (omega (arith, length_column bands 0 all)) places)

  pub pairs_left : (run : List ℕ) → left_by a s (by (pairs_in (length bands))) run ≡ left_by a s (by all) run
  unfolding pairs_in
  pairs_left run =
      by_test (leb all 100)
      (λ (t : leb all 100 ≡ true). let h = leb-true all 100 t in let e : min all 100 ≡ all = omega arith in rw e)
      (λ (t : leb all 100 ≡ false).
      left_by_lem a s (by (min all 100)) run
      ∙ (λ i. kept (pairs_number t (length run) i) (scores_same a s shift powers frequencies terms reference earlier (column bands 0 (min all 100)) (column bands 1 (min all 100)) (column bands 0 all) (column bands 1 all) i) run)
      ∙ sym (left_by_lem a s (by all) run))

-- ---- more earlier scores than an hour takes: it is refused with 1, so that the first four stand for all

module _ (a : words.Hour) (s : EventState) (h : WholeHour) (many : earlier_scores < length h.earlier) where
  many_answer : (places : ℕ) → ended_by a s h places ≡ refused_sreg wrong_length
  many_answer places = let e = many_by a s h places many in refused_by a s h places (λ z. absurd (omega (arith, e, z))) ∙ ap refused_sreg e

  many_left : (run : List ℕ) → left_by a s h run ≡ run
  many_left run = let e = many_by a s h (length run) many in left_by_lem a s h run ∙ kept_old {k = refusal_by a s h (length run)} _ _ (λ z. absurd (omega (arith, e, z)))

module _ (a : words.Hour) (s : EventState) (hour : List ℕ → WholeHour) (same : (l : List ℕ) → (hour l).earlier ≡ l) (n : List ℤ) where
  abbrev over : (l : List ℕ) → earlier_scores < length l → earlier_scores < length (hour l).earlier
  over l h = rw (same l) h

  pub four_answer : (places : ℕ) → ended_by a s (hour (taken (first_four n))) places ≡ ended_by a s (hour (scores_in n)) places
  four_answer places =
      four_same (λ (l : List ℕ). ended_by a s (hour l) places) (λ l m h k. many_answer a s (hour l) (over l h) places ∙ sym (many_answer a s (hour m) (over m k) places)) n

  pub four_left : (run : List ℕ) → left_by a s (hour (taken (first_four n))) run ≡ left_by a s (hour (scores_in n)) run
  four_left run = four_same (λ (l : List ℕ). left_by a s (hour l) run) (λ l m h k. many_left a s (hour l) (over l h) run ∙ sym (many_left a s (hour m) (over m k) run)) n

-- ---- and so the whole hour

module _ (a : words.Hour) (terms : Terms) (reference : Millihertz) (shift : Shift) (s : EventState) (bands earlier readings powers frequencies : List ℤ) (before : Earlier) (run : List ℕ) (p : powers ≡ column readings 0 seconds_of_hour)
    (f : frequencies ≡ column readings 1 seconds_of_hour) (e : before ≡ first_four earlier) (lent : length run ≡ seconds_of_hour) (counts : counts_fit (length bands) true (length readings) ≡ true) where
  abbrev parts : List ℕ → WholeHour
  parts l = by a s powers frequencies terms reference shift bands l (pairs_in (length bands))

  pub ended_is : ended_by a s (parts (taken before)) (length run) ≡ settled_by (hour_by a terms reference shift s bands true earlier readings)
  unfolding hour_by settled_by
  ended_is =
      ap (λ (x : Earlier). ended_by a s (parts (taken x)) (length run)) e
      ∙ four_answer a s parts (λ l. refl) earlier (length run)
      ∙ pairs_answer a s powers frequencies terms reference shift bands (scores_in earlier) (length run)
      ∙ rw (p, f, lent, counts)

  pub left_is : left_by a s (parts (taken before)) run ≡ scores_after (hour_by a terms reference shift s bands true earlier readings) run
  unfolding hour_by scores_after
  left_is =
      ap (λ (x : Earlier). left_by a s (parts (taken x)) run) e
      ∙ four_left a s parts (λ l. refl) earlier run
      ∙ pairs_left a s powers frequencies terms reference shift bands (scores_in earlier) run
      ∙ left_by_lem a s _ run
      ∙ rw (p, f, lent, settlement_number (hour_by a terms reference shift s bands true earlier readings) counts)

-- ---- an hour whose numbers are as many as there are to be has its earlier scores counted; and one whose numbers are not as many

pub is_counted : (bands readings : ℕ) (counted : Bool) → counts_fit bands counted readings ≡ true → counted ≡ true
is_counted bands readings counted e = (and_both (eqb (bands % 2) 0) counted (and_both (eqb (bands % 2) 0 && counted) (eqb readings (2 * seconds_of_hour)) e).0).1

module _ (a : words.Hour) (terms : Terms) (reference : Millihertz) (shift : Shift) (s : EventState) (bands : List ℤ) (counted : Bool) (earlier readings : List ℤ) (counts : counts_fit (length bands) counted (length readings) ≡ false) where
  pub ended_none : refused_sreg wrong_length ≡ settled_by (hour_by a terms reference shift s bands counted earlier readings)
  unfolding hour_by settled_by
  ended_none = rw counts

  pub left_none : (run : List ℕ) → run ≡ scores_after (hour_by a terms reference shift s bands counted earlier readings) run
  unfolding hour_by settled_by scores_after refused_hour
  left_none run = rw counts

not_none : (h : Basis) → h.fits ≡ false → (settlement h).refusal ≡ 0 → ⊥
unfolding settled_by refused_hour
not_none h t z = let e : wrong_length ≡ 0 = rw t at z in omega arith

-- an hour that is not refused has a score for each second
pub scores_all : (h : Basis) → (settlement h).refusal ≡ 0 → length (scores_asked h) ≡ seconds_of_hour
scores_all h z =
    by_test h.fits (λ (t : h.fits ≡ true). long_by h.asked h.state h.hour seconds_of_hour (sym (settlement_number h t) ∙ z)) (λ (t : h.fits ≡ false). absurd (not_none h t z))

-- an answer has at most twelve fields
few_by : (hour : words.Hour) (a : Settled) → length (hour_shown hour a).fields ≤ 12
few_by Dreg a = omega arith
few_by Edreg a = omega arith
few_by Sreg a = with_state a.hour a.state
  where
    with_state : (h : Settlement) (s : EventState) → length (hour_shown Sreg (record { hour = h; state = s })).fields ≤ 12
    with_state h Outside = omega arith
    with_state h (Responding start scored) = omega arith
    with_state h (Holding start) = omega arith
    with_state h (Recovering left) = omega arith

pub hour_few : (hour : words.Hour) (n : HourNumbers) → length (hour_reply hour n).fields ≤ 12
unfolding hour_reply
hour_few hour n = few_by hour (settled_by (hour_asked hour n))

-- ---- an answer's fields, as an array of twelve has them

-- an hour that takes no state answers none
abbrev pub AnswersNone : words.Hour → EventState → Type 0
AnswersNone Dreg s = s ≡ Outside
AnswersNone Edreg s = s ≡ Outside
AnswersNone Sreg s = Unit {0}

no_state_lem : (fits : Bool) (h : Settlement) (k : ℕ) → (pick fits (stateless h) (refused_sreg k)).state ≡ Outside
no_state_lem true h k = refl
no_state_lem false h k = refl

pub answers_none : (hour : words.Hour) (n : HourNumbers) → AnswersNone hour (settled_by (hour_asked hour n)).state
unfolding hour_by settled_by
answers_none Dreg n = let h = hour_asked Dreg n in no_state_lem h.fits (hour_answer h.hour seconds_of_hour) wrong_length
answers_none Edreg n = let h = hour_asked Edreg n in no_state_lem h.fits (hour_answer h.hour seconds_of_hour) wrong_length
answers_none Sreg n = tt

pub twelve_is : (hour : words.Hour) (a : Settled) → AnswersNone hour a.state → in_twelve hour a.hour (state_fields a.state) ≡ boxed (hour_shown hour a)
twelve_is Dreg a none = rw none
twelve_is Edreg a none = rw none
twelve_is Sreg a none = by_state a.hour a.state
  where
    by_state : (h : Settlement) (s : EventState) → in_twelve Sreg h (state_fields s) ≡ boxed (hour_shown Sreg (record { hour = h; state = s }))
    by_state h Outside = refl
    by_state h (Responding start scored) = refl
    by_state h (Holding start) = refl
    by_state h (Recovering left) = refl
