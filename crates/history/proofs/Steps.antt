-- A board and a history that tell the same go on telling the same: a call is answered by the one as by the other, and what it hands on is what the
-- history with that call tells. By cases of the call. Assumes nothing.
use Prim.Native.Nat.{ℕ}
use mathlib.Core.Path.{◌≡◌, refl, sym, ap, ◌∙◌}
use mathlib.Core.Bool.{Bool, true, false, not, ◌&&◌}
use mathlib.Core.List.{List, [], ◌∷◌}
use mathlib.Core.Option.{none, some}
use lib.Dec.{eqb}
use Rattle.whole.specs.Choice.{pick, in_order}
use Rattle.whole.proofs.Choice.{passed, both_passed, kept_any, kept_by}
use Rattle.history.specs.Rules.{Call, Deed, Rules, Sound, inside, place_in, deed_tests, place_tests, ruling}
use Rattle.history.specs.Board.{Board, item_at, filled_at, fresh, placed, ruling_on, next_on, handed}
use Rattle.history.specs.Inner.{ruled_in, handed_in}
use Rattle.history.specs.History.{Recorded, leaves, last_item, fee_after, last_fee, closed_after, is_closed, stands, ruling_after}
use Rattle.history.proofs.Board.{Good, good_refusal, stands_on, of_blank, fresh_good, fresh_stands, set_good, set_stands}

-- the board tells what the history tells
pub record Told {F M B : Type 0} (R : Rules F M B) (h : List (Recorded F (M × B))) (b : Board F M B) : Type 0 where
  pub good : Good R b
  pub stands_is : (d x : ℕ) → stands_on R b d x ≡ last_item R h d x
  pub fee_is : (f : F) → b.fee f ≡ last_fee R h f
  pub closed_is : b.closed ≡ is_closed h

abbrev pub recorded : {F A : Type 0} → Call F A → ℕ → Recorded F A
recorded c k = record { call = c; answer = k }

-- what an accepted call does to a board
pub record Effect {F M B : Type 0} (R : Rules F M B) (b n : Board F M B) (c : Call F (M × B)) : Type 0 where
  pub good : Good R n
  pub stands_is : (d x : ℕ) → stands_on R n d x ≡ leaves R c d x (stands_on R b d x)
  pub fee_is : (f : F) → n.fee f ≡ fee_after R c f (b.fee f)
  pub closed_is : n.closed ≡ closed_after c b.closed

pub stands_pick : {X : Type 0} (m : Bool) (x : X) → stands (pick m (some x) none) ≡ m
stands_pick true x = refl
stands_pick false x = refl

module _ {F M B : Type 0} (R : Rules F M B) where
  -- the place is asked of an hour of the month alone
  at_same : (closed within u v : Bool) (deed : Deed (M × B)) → (within ≡ true → u ≡ v) → in_order (place_tests R closed within u deed) ≡ in_order (place_tests R closed within v deed)
  at_same closed true u v deed e = ap (λ t. in_order (place_tests R closed true t deed)) (e refl)
  at_same closed false u v deed e = refl

  ruling_same : (closed : Bool) (f g : ℕ → ℕ → Bool) → ((d x : ℕ) → inside R d x ≡ true → f d x ≡ g d x) → (c : Call F (M × B)) → ruling R closed f c ≡ ruling R closed g c
  ruling_same closed f g e (Call.post d x a) = at_same closed (inside R d x) (f d x) (g d x) (Deed.posts a) (e d x)
  ruling_same closed f g e (Call.replace d x a) = at_same closed (inside R d x) (f d x) (g d x) (Deed.replaces a) (e d x)
  ruling_same closed f g e (Call.withdraw d x) = at_same closed (inside R d x) (f d x) (g d x) Deed.withdraws (e d x)
  ruling_same closed f g e (Call.loss_fee a z) = refl
  ruling_same closed f g e Call.close = refl

  -- a call is answered by the board as by the history
  pub ruled : (h : List (Recorded F (M × B))) (b : Board F M B) → Told R h b → (c : Call F (M × B)) → ruling_on R b c ≡ ruling_after R h c
  unfolding ruling_on
  ruled h b t c =
      ruling_same b.closed (filled_at R b) (λ d x. stands (last_item R h d x))
      (λ d x i. sym (stands_pick (filled_at R b d x) (item_at R b (place_in R d x))) ∙ ap stands (sym (in_month d x i) ∙ t.stands_is d x)) c
      ∙ ap (λ s. ruling R s (λ d x. stands (last_item R h d x)) c) t.closed_is
    where
      in_month : (d x : ℕ) → inside R d x ≡ true → stands_on R b d x ≡ pick (filled_at R b d x) (some (item_at R b (place_in R d x))) none
      in_month d x i = rw i

  -- a call at an hour that is let through
  through : (closed within filled : Bool) (deed : Deed (M × B)) → in_order (place_tests R closed within filled deed) ≡ 0 → (within ≡ true) × (in_order (deed_tests R filled deed) ≡ 0)
  through closed within filled deed e = passed within 5 _ (passed (not closed) 8 _ e).1

  module _ (sound : Sound R) where
    pub start_told : Told R [] (fresh R)
    unfolding fresh last_item last_fee is_closed
    start_told = record { good = fresh_good R sound; stands_is = fresh_stands R sound; fee_is = λ _. refl; closed_is = refl }

    module _ (b : Board F M B) (g : Good R b) where
      -- a post or a replacement: what enters fills its place
      put_in : (d x : ℕ) (a : M × B) → inside R d x ≡ true → R.check a ≡ 0
          → Good R (placed R b (place_in R d x) (R.enter a))
          × ((e y : ℕ) → stands_on R (placed R b (place_in R d x) (R.enter a)) e y ≡ pick (eqb d e && eqb x y) (some (R.enter a)) (stands_on R b e y))
      put_in d x a i ok =
          let full = (sound.enters a ok).0 in (
            set_good R sound b g d x (R.enter a) i (ap (λ t. pick t (R.fits (R.enter a)) (R.is_blank (R.enter a))) full ∙ (sound.enters a ok).1),
            λ e y. set_stands R sound b g d x (R.enter a) i e y ∙ ap (λ t. pick (eqb d e && eqb x y) (pick t (some (R.enter a)) none) (stands_on R b e y)) full,
          )

      pub effect : (c : Call F (M × B)) → ruling_on R b c ≡ 0 → Effect R b (next_on R b c) c
      unfolding ruling_on next_on
      effect (Call.post d x a) e =
          let t = through b.closed (inside R d x) (filled_at R b d x) (Deed.posts a) e in
          let n = put_in d x a t.0 (both_passed (R.check a) _ t.1).0 in
          record { good = n.0; stands_is = n.1; fee_is = λ _. refl; closed_is = refl }
      effect (Call.replace d x a) e =
          let t = through b.closed (inside R d x) (filled_at R b d x) (Deed.replaces a) e in
          let n = put_in d x a t.0 (both_passed (R.check a) _ t.1).0 in
          record { good = n.0; stands_is = n.1; fee_is = λ _. refl; closed_is = refl }
      effect (Call.withdraw d x) e =
          let t = through b.closed (inside R d x) (filled_at R b d x) Deed.withdraws e in
          record {
            good = set_good R sound b g d x R.blank t.0 (of_blank R sound _ _ ∙ sound.is_blank_lem);
            stands_is = λ e y. set_stands R sound b g d x R.blank t.0 e y
                ∙ ap (λ o. pick (eqb d e && eqb x y) o (stands_on R b e y)) (of_blank R sound _ _);
            fee_is = λ _. refl;
            closed_is = refl;
          }
      effect (Call.loss_fee f z) e =
          record {
            good = record { fee_fits = λ k. set_fee (R.same_fee f k) k refl; each = g.each; marks_long = g.marks_long; amounts_long = g.amounts_long };
            stands_is = λ _ _. refl;
            fee_is = λ _. refl;
            closed_is = refl;
          }
        where
          ok : R.check_fee f z ≡ 0
          ok = (both_passed (R.check_fee f z) 0 (passed (not b.closed) 8 _ e).1).0

          set_fee : (t : Bool) (k : F) → R.same_fee f k ≡ t → R.check_fee k (pick t z (b.fee k)) ≡ 0
          set_fee true k s = ap (λ n. R.check_fee n z) (sym (sound.same_is f k s)) ∙ ok
          set_fee false k s = g.fee_fits k
      effect Call.close e =
          record {
            good = record { fee_fits = g.fee_fits; each = g.each; marks_long = g.marks_long; amounts_long = g.amounts_long };
            stands_is = λ _ _. refl;
            fee_is = λ _. refl;
            closed_is = refl;
          }

    -- what a call in place leaves of a board in form is in form
    pub left_stays : (b : Board F M B) → Good R b → (c : Call F (M × B)) → Good R (handed_in R b c)
    unfolding handed_in
    left_stays b g c = kept_any (Good R) (ruled_in R b c) (λ z. (effect b g c (sym (good_refusal R sound b g c) ∙ z)).good) g

    -- the call and what it hands on
    pub next_told : (h : List (Recorded F (M × B))) (b : Board F M B) → Told R h b → (c : Call F (M × B)) → Told R (recorded c (ruling_on R b c) ∷ h) (handed R b c)
    unfolding handed last_item last_fee is_closed
    next_told h b t c =
        let k = ruling_on R b c in
        let n : k ≡ 0 → Effect R b (next_on R b c) c = effect b t.good c in
        record {
          good = kept_any (Good R) k (λ z. (n z).good) t.good;
          stands_is = λ d x. kept_by (λ m. stands_on R m d x) k (λ z. (n z).stands_is d x ∙ ap (leaves R c d x) (t.stands_is d x)) (t.stands_is d x);
          fee_is = λ f. kept_by (λ (m : Board F M B). m.fee f) k (λ z. (n z).fee_is f ∙ ap (fee_after R c f) (t.fee_is f)) (t.fee_is f);
          closed_is = kept_by (λ (m : Board F M B). m.closed) k (λ z. (n z).closed_is ∙ ap (closed_after c) t.closed_is) t.closed_is;
        }
