-- Refusal 22 is exact: a state is well formed just where some run of calls from a fresh month hands it back. A run keeps the board in form; and a
-- board in form is built by a post for each standing hour in order, then its loss fees, then a close if it is closed. Assumes nothing.
use Prim.Native.Nat.{ℕ, zero, suc, ◌+◌, ◌-◌, ◌<◌, ◌≤◌}
use mathlib.Core.Path.{◌≡◌, refl, sym, ap, ap₂, ◌∙◌, subst}
use mathlib.Core.Logic.{◌↔◌}
use mathlib.Core.Bool.{Bool, true, false, not, ◌&&◌, ◌||◌}
use mathlib.Core.List.{List, [], ◌∷◌}
use native.Mathlib.Nat.{le_refl, add-zero, add-suc}
use native.Mathlib.Omega.{arith}
use lib.Dec.{leb, ltb, eqb}
use lib.IntN.{ℤ, pos}
use lib.ListN.{replicate}
use borrow.Author.Tests.{ltb-true}
use Rattle.whole.specs.Choice.{pick, unless, or_else, in_order}
use Rattle.whole.proofs.Choice.{by_test, and_both, clash, kept_any, kept_new}
use Rattle.units.specs.Refusals.{not_reachable, not_in_month, place_filled, place_empty, month_closed}
use Rattle.history.specs.Rules.{Call, Deed, Rules, Sound, hours_to, is_among, inside, place_in, places_of, deed_tests, place_tests}
use Rattle.history.specs.Board.{Board, mark_at, item_at, filled_at, fresh, placed, well_formed, ruling_on, next_on, handed, hour_on, day_on, part_on, refusal_of, or_reachable, posts_of_day, posts_to}
use Rattle.history.specs.History.{Recorded}
use Rattle.history.specs.Demand.{Ledger, Run, opened, called, Reachable, Just22, Exact22}
use Rattle.history.proofs.Board.{Good, Held, well_held, well_opens, of_hour, below, fresh_good}
use Rattle.history.proofs.Steps.{effect}
use Rattle.history.proofs.Front.{front, front_none, front_all, front_next, front_at, front_kept}
use Rattle.history.proofs.Demand.{Lawful, rules_at, well, called_well, come}

module _ {F M B : Type 0} (R : Rules F M B) where
  -- the board that a run of calls hands on
  unfoldable pub board_run : List (Call F (M × B)) → Board F M B
  board_run [] = fresh R
  board_run (c ∷ cs) = handed R (board_run cs) c

  -- an open board
  abbrev pub open_with : (F → ℤ) → List M → List B → Board F M B
  open_with fee marks amounts = record { closed = false; fee = fee; marks = marks; amounts = amounts }

  abbrev pub no_fee : F → ℤ
  no_fee f = pos 0

  -- a board's first k places, and nothing else of it
  abbrev part : Board F M B → ℕ → Board F M B
  part b k = open_with no_fee (front k b.marks R.blank.0) (front k b.amounts R.blank.1)

  -- the calls that build a board: its standing hours, its fees, and a close if it is closed
  abbrev fees_set : Board F M B → List F → List (Call F (M × B))
  fees_set b [] = posts_to R b R.days
  fees_set b (f ∷ fs) = Call.loss_fee f (b.fee f) ∷ fees_set b fs

  unfoldable pub calls_for : Board F M B → List (Call F (M × B))
  calls_for b = pick b.closed (Call.close ∷ fees_set b R.fees) (fees_set b R.fees)

  -- ---- calls that are let through

  goes : (b : Board F M B) (c : Call F (M × B)) → ruling_on R b c ≡ 0 → handed R b c ≡ next_on R b c
  unfolding handed
  goes b c e = kept_new (next_on R b c) b e

  post_goes : (b : Board F M B) (d x : ℕ) (a : M × B) → b.closed ≡ false → inside R d x ≡ true → R.check a ≡ 0 → filled_at R b d x ≡ false → ruling_on R b (Call.post d x a) ≡ 0
  unfolding ruling_on
  post_goes b d x a c i ok f = rw (c, i, ok, f)

  fee_goes : (b : Board F M B) (f : F) (z : ℤ) → b.closed ≡ false → R.check_fee f z ≡ 0 → ruling_on R b (Call.loss_fee f z) ≡ 0
  unfolding ruling_on
  fee_goes b f z c ok = rw (c, ok)

  close_goes : (b : Board F M B) → b.closed ≡ false → ruling_on R b Call.close ≡ 0
  unfolding ruling_on
  close_goes b c = rw c

  module _ (sound : Sound R) where
    pub run_good : (cs : List (Call F (M × B))) → Good R (board_run cs)
    unfolding board_run handed
    run_good [] = fresh_good R sound
    run_good (c ∷ cs) = kept_any (Good R) (ruling_on R (board_run cs) c) (λ z. (effect R sound (board_run cs) (run_good cs) c z).good) (run_good cs)

    module _ (b : Board F M B) (g : Good R b) where
      -- ---- the standing hours

      start : board_run [] ≡ part b 0
      unfolding board_run fresh
      start =
          ap₂ (open_with no_fee)
          (ap (λ n. replicate n R.blank.0) (sym g.marks_long) ∙ sym (front_none b.marks R.blank.0))
          (ap (λ n. replicate n R.blank.1) (sym g.amounts_long) ∙ sym (front_none b.amounts R.blank.1))

      -- an empty place adds nothing
      skip : (p : ℕ) → p < R.places → mark_at R b p ≡ false → part b p ≡ part b (suc p)
      skip p l e =
          let blank : R.is_blank (item_at R b p) ≡ true = ap (λ m. pick m (ltb p (places_of R) && R.fits (item_at R b p)) (R.is_blank (item_at R b p))) (sym e) ∙ g.each p l in
          let is = sound.blank_is (item_at R b p) e blank in
          ap₂ (open_with no_fee) (front_kept p b.marks R.blank.0 (λ i. (is i).0)) (front_kept p b.amounts R.blank.1 (λ i. (is i).1))

      -- one more hour
      more : (d x : ℕ) → inside R d x ≡ true → (cs : List (Call F (M × B))) → board_run cs ≡ part b (place_in R d x)
          → board_run (pick (filled_at R b d x) (Call.post d x (item_at R b (place_in R d x)) ∷ cs) cs) ≡ part b (suc (place_in R d x))
      unfolding board_run next_on
      more d x i cs built = go (mark_at R b p) refl
        where
          p : ℕ
          p = place_in R d x

          l : p < R.places
          l = omega (arith, below R d x i, sound.room)

          item : M × B
          item = item_at R b p

          go : (t : Bool) → mark_at R b p ≡ t → board_run (pick t (Call.post d x item ∷ cs) cs) ≡ part b (suc p)
          go true e =
              let fits : ltb p (places_of R) && R.fits item ≡ true = ap (λ m. pick m (ltb p (places_of R) && R.fits item) (R.is_blank item)) (sym e) ∙ g.each p l in
              let stays = sound.stays item e (and_both (ltb p (places_of R)) (R.fits item) fits).1 in
              ap (λ n. handed R n (Call.post d x item)) built
              ∙ goes (part b p) (Call.post d x item) (post_goes (part b p) d x item refl i stays.0 (ap R.filled (front_at p b.marks R.blank.0) ∙ sound.empty))
              ∙ ap (placed R (part b p) p) stays.1
              ∙ ap₂ (open_with no_fee) (front_next p b.marks R.blank.0) (front_next p b.amounts R.blank.1)
          go false e = built ∙ skip p l e

      day_built : (d : ℕ) → 1 ≤ d → d ≤ R.days → (cs : List (Call F (M × B))) → board_run cs ≡ part b (hours_to R.hours_of (d - 1)) → (x : ℕ) → x ≤ R.hours_of d
          → board_run (posts_of_day R b d x cs) ≡ part b (place_in R d x)
      unfolding posts_of_day
      day_built d o m cs built zero l = built ∙ ap (part b) (sym (add-zero (hours_to R.hours_of (d - 1))))
      day_built d o m cs built (suc x) l =
          more d x (of_hour R d x o m l) (posts_of_day R b d x cs) (day_built d o m cs built x (omega arith))
          ∙ ap (part b) (sym (add-suc (hours_to R.hours_of (d - 1)) x))

      days_built : (k : ℕ) → k ≤ R.days → board_run (posts_to R b k) ≡ part b (hours_to R.hours_of k)
      unfolding posts_to hours_to
      days_built zero l = start
      days_built (suc k) l =
          let e : suc k - 1 ≡ k = omega arith in
          day_built (suc k) (omega arith) l (posts_to R b k) (days_built k (omega arith) ∙ ap (λ n. part b (hours_to R.hours_of n)) (sym e)) (R.hours_of (suc k)) (le_refl (R.hours_of (suc k)))
          ∙ ap (λ n. part b (hours_to R.hours_of n + R.hours_of (suc k))) e

      -- past the month's own hours nothing stands
      idle : (k : ℕ) → places_of R + k ≤ R.places → part b (places_of R) ≡ part b (places_of R + k)
      idle zero l = ap (part b) (sym (add-zero (places_of R)))
      idle (suc k) l =
          idle k (omega arith) ∙ skip (places_of R + k) (omega arith) (go (mark_at R b (places_of R + k)) (g.each (places_of R + k) (omega arith)))
          ∙ ap (part b) (sym (add-suc (places_of R) k))
        where
          go : (t : Bool) → pick t (ltb (places_of R + k) (places_of R) && R.fits (item_at R b (places_of R + k))) (R.is_blank (item_at R b (places_of R + k))) ≡ true → t ≡ false
          go true e = let z = ltb-true (places_of R + k) (places_of R) (and_both (ltb (places_of R + k) (places_of R)) _ e).0 in absurd (omega arith)
          go false e = refl

      -- the standing hours, posted to a fresh month, stand there: with no fee, and open
      pub replayed : board_run (posts_to R b R.days) ≡ open_with no_fee b.marks b.amounts
      replayed =
          let e : places_of R + (R.places - places_of R) ≡ R.places = omega (arith, sound.room) in
          days_built R.days (le_refl R.days)
          ∙ idle (R.places - places_of R) (omega arith)
          ∙ ap (part b) e
          ∙ ap₂ (open_with no_fee)
          (ap (λ n. front n b.marks R.blank.0) (sym g.marks_long) ∙ front_all b.marks R.blank.0)
          (ap (λ n. front n b.amounts R.blank.1) (sym g.amounts_long) ∙ front_all b.amounts R.blank.1)

      -- so they give the same day and part sums (#111: "read back as a fresh month they give the same day and product sums")
      pub replayed_day : (d : ℕ) → day_on R (board_run (posts_to R b R.days)) d ≡ day_on R b d
      unfolding day_on
      replayed_day d = ap (λ n. day_on R n d) replayed

      pub replayed_part : (q : ℕ) → part_on R (board_run (posts_to R b R.days)) q ≡ part_on R b q
      unfolding part_on
      replayed_part q = ap (λ n. part_on R n q) replayed

      -- ---- the fees, and the close

      abbrev fee_set : List F → F → ℤ
      fee_set [] f = pos 0
      fee_set (g ∷ gs) f = pick (R.same_fee g f) (b.fee g) (fee_set gs f)

      fees_built : (fs : List F) → board_run (fees_set b fs) ≡ open_with (fee_set fs) b.marks b.amounts
      unfolding board_run next_on
      fees_built [] = replayed
      fees_built (f ∷ fs) =
          let c = Call.loss_fee f (b.fee f) in
          ap (λ n. handed R n c) (fees_built fs) ∙ goes _ c (fee_goes _ f (b.fee f) refl (g.fee_fits f))

      fee_set_lem : (fs : List F) (f : F) → is_among R.same_fee fs f ≡ true → fee_set fs f ≡ b.fee f
      fee_set_lem [] f n = clash n
      fee_set_lem (k ∷ ks) f n =
          by_test (R.same_fee k f)
          (λ (s : R.same_fee k f ≡ true). rw s (ap b.fee (sound.same_is k f s)))
          (λ (s : R.same_fee k f ≡ false). rw s (fee_set_lem ks f (ap (λ u. u || is_among R.same_fee ks f) (sym s) ∙ n)))

      all_built : board_run (fees_set b R.fees) ≡ open_with b.fee b.marks b.amounts
      all_built = fees_built R.fees ∙ (λ i. open_with (λ f. fee_set_lem R.fees f (sound.every_fee f) i) b.marks b.amounts)

      pub built : board_run (calls_for b) ≡ b
      unfolding board_run next_on calls_for
      built = go b.closed refl
        where
          as_closed : Bool → Board F M B
          as_closed t = record { closed = t; fee = b.fee; marks = b.marks; amounts = b.amounts }

          go : (t : Bool) → b.closed ≡ t → board_run (pick t (Call.close ∷ fees_set b R.fees) (fees_set b R.fees)) ≡ b
          go false e = all_built ∙ ap as_closed (sym e)
          go true e = ap (λ n. handed R n Call.close) all_built ∙ goes _ Call.close (close_goes _ refl) ∙ ap as_closed (sym e)

-- ---- a ledger's own runs

-- an answer that meets a contract, for every call; and a state is told by its plan and its board
pub record Able {P F M B S : Type 0} (L : Ledger P F M B S) (laws : Lawful L) : Type 0 where
  pub first : P → S
  pub opens : (p : P) → (L.rules p).opens ≡ true → L.Opens p (first p)
  pub number : S → Call F (M × B) → ℕ
  pub next : S → Call F (M × B) → S
  pub answers : (s : S) (c : Call F (M × B)) → L.Answers s c (number s c) (next s c)
  pub same : (s t : S) → laws.plan s ≡ laws.plan t → laws.board s ≡ laws.board t → s ≡ t

module _ {P F M B S : Type 0} (L : Ledger P F M B S) (laws : Lawful L) (able : Able L laws) where
  -- a run of the ledger's answers for each list of calls
  pub record Ran (p : P) (cs : List (Call F (M × B))) : Type 0 where
    pub state : S
    pub history : List (Recorded F (M × B))
    pub run : Run L p history state
    pub board : laws.board state ≡ board_run (L.rules p) cs

  ran : (p : P) → (L.rules p).opens ≡ true → (cs : List (Call F (M × B))) → Ran p cs
  unfolding board_run
  ran p o [] =
      let opens = able.opens p o in
      record { state = able.first p; history = []; run = opened (able.first p) opens; board = (laws.opens p (able.first p) opens).2 }
  ran p o (c ∷ cs) =
      let r = ran p o cs in
      let s = r.state in
      let w = come L laws p r.history s r.run in
      let step = called_well L laws s c (able.number s c) (able.next s c) (well L laws p r.history s w) (able.answers s c) in
      record {
        state = able.next s c;
        history = record { call = c; answer = able.number s c } ∷ r.history;
        run = called r.history s c (able.number s c) (able.next s c) r.run (able.answers s c);
        board = step.1 ∙ ap₂ (λ q b. handed (L.rules q) b c) w.plan r.board;
      }

  module _ (s : S) (held : Held (rules_at L laws s) (laws.board s)) where
    pub reachable_iff : (well_formed (rules_at L laws s) (laws.board s) ≡ true) ↔ Reachable L s
    reachable_iff = (
      (λ w.
          let p = laws.plan s in
          let b = laws.board s in
          let o = well_opens (L.rules p) b w in
          let sound = laws.sound p o in
          let g = well_held (L.rules p) sound b w held in
          let r = ran p o (calls_for (L.rules p) b) in
          let c = come L laws p r.history r.state r.run in
          let same : r.state ≡ s = able.same r.state s c.plan (r.board ∙ built (L.rules p) sound b g) in
          record { plan = p; history = r.history; run = subst (Run L p r.history) same r.run }),
      λ r. well L laws r.plan r.history s (come L laws r.plan r.history s r.run),
    )

    -- ---- 22 just there

    -- a number that is 22 where the state is not well formed, and elsewhere k, which is smaller
    just_22 : (n k : ℕ) → n ≡ pick (well_formed (rules_at L laws s) (laws.board s)) k not_reachable → k < not_reachable → Just22 L s n
    just_22 n k e l = (
      (λ z r. let f : k ≡ not_reachable = sym (e ∙ ap (λ u. pick u k not_reachable) (reachable_iff.1 r)) ∙ z in absurd (omega arith)),
      λ no.
          by_test (well_formed (rules_at L laws s) (laws.board s))
          (λ (w : well_formed (rules_at L laws s) (laws.board s) ≡ true). absurd (no (reachable_iff.0 w)))
          (λ (w : well_formed (rules_at L laws s) (laws.board s) ≡ false). e ∙ ap (λ u. pick u k not_reachable) w),
    )

    told_22 : {X : Type 0} (nothing : X) (r t : ℕ × X) → r ≡ or_reachable (rules_at L laws s) nothing (laws.board s) t → t.0 < not_reachable → Just22 L s r.0
    told_22 nothing r t e = just_22 r.0 t.0 (ap (λ z. z.0) e ∙ first (well_formed (rules_at L laws s) (laws.board s)))
      where
        first : (u : Bool) → (pick u t (not_reachable, nothing)).0 ≡ pick u t.0 not_reachable
        first true = refl
        first false = refl

-- ---- every other refusal is a smaller number

-- the rules' own numbers are
pub record Small {F M B : Type 0} (R : Rules F M B) : Type 0 where
  pub check : (a : M × B) → R.check a < not_reachable
  pub check_fee : (f : F) (z : ℤ) → R.check_fee f z < not_reachable
  pub check_part : (q : ℕ) → R.check_part q < not_reachable

pub unless_small : (t : Bool) (k rest : ℕ) → k < not_reachable → rest < not_reachable → unless t k rest < not_reachable
unless_small true k rest a b = b
unless_small false k rest a b = a

pub or_else_small : (k rest : ℕ) → k < not_reachable → rest < not_reachable → or_else k rest < not_reachable
or_else_small k rest a b = unless_small (eqb k 0) k rest a b

module _ {F M B : Type 0} (R : Rules F M B) (small : Small R) (b : Board F M B) where
  empty_small : (t : Bool) → unless t place_empty 0 < not_reachable
  empty_small t = unless_small t place_empty 0 (omega arith) (omega arith)

  deed_small : (filled : Bool) (deed : Deed (M × B)) → in_order (deed_tests R filled deed) < not_reachable
  deed_small filled (Deed.posts a) = or_else_small (R.check a) (unless (not filled) place_filled 0) (small.check a) (unless_small (not filled) place_filled 0 (omega arith) (omega arith))
  deed_small filled (Deed.replaces a) = or_else_small (R.check a) (unless filled place_empty 0) (small.check a) (empty_small filled)
  deed_small filled Deed.withdraws = empty_small filled

  at_small : (within filled : Bool) (deed : Deed (M × B)) → in_order (place_tests R b.closed within filled deed) < not_reachable
  at_small within filled deed =
      unless_small (not b.closed) month_closed (unless within not_in_month (in_order (deed_tests R filled deed))) (omega arith)
      (unless_small within not_in_month (in_order (deed_tests R filled deed)) (omega arith) (deed_small filled deed))

  pub ruling_small : (c : Call F (M × B)) → ruling_on R b c < not_reachable
  unfolding ruling_on
  ruling_small (Call.post d x a) = at_small (inside R d x) (filled_at R b d x) (Deed.posts a)
  ruling_small (Call.replace d x a) = at_small (inside R d x) (filled_at R b d x) (Deed.replaces a)
  ruling_small (Call.withdraw d x) = at_small (inside R d x) (filled_at R b d x) Deed.withdraws
  ruling_small (Call.loss_fee f z) = unless_small (not b.closed) month_closed (or_else (R.check_fee f z) 0) (omega arith) (or_else_small (R.check_fee f z) 0 (small.check_fee f z) (omega arith))
  ruling_small Call.close = unless_small (not b.closed) month_closed 0 (omega arith) (omega arith)

  hour_small : (d x : ℕ) → (hour_on R b d x).0 < not_reachable
  unfolding hour_on
  hour_small d x = unless_small (inside R d x) not_in_month (unless (filled_at R b d x) place_empty 0) (omega arith) (empty_small (filled_at R b d x))

  day_small : (d : ℕ) → (day_on R b d).0 < not_reachable
  unfolding day_on
  day_small d = unless_small (leb 1 d && leb d R.days) not_in_month 0 (omega arith) (omega arith)

  part_small : (q : ℕ) → (part_on R b q).0 < not_reachable
  unfolding part_on
  part_small q = small.check_part q

-- 22 is answered just where no run of calls hands the state back
pub exact_22 : {P F M B S : Type 0} (L : Ledger P F M B S) (laws : Lawful L) → Able L laws → ((p : P) → Small (L.rules p))
    → (s : S) → Held (rules_at L laws s) (laws.board s) → Exact22 L s
unfolding refusal_of
exact_22 {P} {F} {M} {B} {S} L laws able smalls s held =
    record {
      call = λ c k t a. just_22 L laws able s held k (ruling_on R b c) (laws.answers s c k t a).0 (ruling_small R small b c);
      hour = λ d x r a. told_22 L laws able s held (pos 0) r _ (laws.hour s d x r a) (hour_small R small b d x);
      day = λ d r a. told_22 L laws able s held (pos 0) r _ (laws.day s d r a) (day_small R small b d);
      part = λ q r a. told_22 L laws able s held (pos 0) r _ (laws.part s q r a) (part_small R small b q);
      fee = λ f r a. told_22 L laws able s held (pos 0) r _ (laws.fee s f r a) (omega arith);
      total = λ r a. told_22 L laws able s held (pos 0) r _ (laws.total s r a) (omega arith);
      standing = λ r a. told_22 L laws able s held 0 r _ (laws.standing s r a) (omega arith);
    }
  where
    R : Rules F M B
    R = rules_at L laws s

    b : Board F M B
    b = laws.board s

    small : Small R
    small = smalls (laws.plan s)
