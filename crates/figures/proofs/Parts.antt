-- A local array of any type of element, where it was stored, and one that was lent in part and comes back: its first k elements, beside the rest. (What lends
-- them is the library's `share_cells`.) Over the logic's own lemmas. Assumes nothing.
use Prim.Native.Nat.{ℕ}
use mathlib.Core.Path.{◌≡◌, refl, sym}
use mathlib.Core.List.{List, [], ◌∷◌, ◌++◌}
use lib.ListN.{length, take, drop, take-append-drop}
use seplogic.Ra.Ura.{Ura}
use base.Fraction.{full_share}
use mir.Syntax.{named, ty_array}
use mir.Val.{Val}
use base.Logic.{ent}
use base.Fml.{Lft, GName, Fml, fsep, fat, froom, fdead, flent}
use types.Logic.{Logic, sem}
use types.Kit.{Goal, Item, Soaks, Sq, ‵, ◌⊛◌, some, later, ◌$◌, !, qed, move, use1, use2, drop as toss, rewrite, split, pick, fsplit, fjoin, fpack, feq_i, feq_l, await, done}
use types.Tokens.{lent_back}
use types.Share.{arr_parts}
use types.SemTy.{cells}
use denote.RattleType.{RattleType}
use denote.Laws.{Is, Makes}
use denote.Memory.{cell_at, lone, part_at, part_of, mem, shares}
use denote.Array.{Array, Array-Makes}
use denote.ArrayMemory.{Single, Array-apart, Array-whole}
use denote.Slice.{ShrSlice, Room, slice_val}
use denote.Lend.{lends_shr_slice}
use denote.Steps.{owned}
use borrow.Table.Elements.{at, cut_app, join_app}
use borrow.Rule.Slice.Shared.{parts-cells}
use borrow.Rule.Array.Share.{Room-take}
use borrow.Rule.Array.Init.{part_room}

module _ {M : Type 1} {𝓤 : Ura M} (𝓛 : Logic 𝓤) (R : RattleType) (m : ℕ) (xs : List R.Denot) (b : ℕ) where
  -- an array's one machine value, where it was stored
  open 𝓛 use {H}

  pub stored : (v : Val) → Makes 𝓛 R (Is R) → Is (Array R m) xs (v ∷ []) → ent 𝓤 (sem 𝓛 (fat full_share (ty_array (lone R.mir) m) b 0 v)) (sem 𝓛 (part_at (Array R m) full_share xs b 0))
  unfolding part_of
  stored v makes is =
      qed 𝓛 (‵ (fat full_share (ty_array (lone R.mir) m) b 0 v) ∷ []) {P = sem 𝓛 (part_at (Array R m) full_share xs b 0)} (
      use1 𝓛 (‵ (cell_at full_share (Array R m).mir (v ∷ []) b 0)) (𝓛.laws.at_raw full_share (ty_array (lone R.mir) m) b 0 v) $
      owned ! (Array R m) (Is (Array R m)) (Array-Makes 𝓛 R makes m) xs (v ∷ []) is $ move ! (1 ∷ 0 ∷ []) $ fjoin ! $
      fpack ! (List Val) (λ us. fsep (cell_at full_share (Array R m).mir us b 0) ((Array R m).own_val xs us)) (v ∷ []) $ done !)

  module _ (k : ℕ) where
    -- what comes back once the lifetime has ended, and what was not lent
    abbrev pub Way : Fml
    Way = (arr_parts (shares R) (length (take k xs))).part full_share (take k xs) b 0

    abbrev pub Rest : Fml
    Rest = cells (mem R) (drop k xs) b (at 0 (mem R).size (length (take k xs)))

    module _ {Γ : List (Item 𝓤)} {G : Goal 𝓤 H} (soaks : Soaks G) (κ : Lft) where
      pub comes_back : length xs ≡ m → Sq 𝓛 (‵ (froom (ty_array (lone R.mir) m) b 0) ∷ Γ) G → Sq 𝓛 (‵ (fdead κ) ∷ ‵ (flent κ Way) ∷ ‵ Rest ∷ Γ) G
      comes_back l go =
          lent_back ! soaks $ fsplit ! $ toss ! $
          rewrite ! 0 (λ (F : Fml). ‵ F) (parts-cells R full_share (take k xs) b 0) refl $
          use2 𝓛 (‵ (cells (mem R) (take k xs ++ drop k xs) b 0)) (join_app 𝓛 (mem R) (take k xs) (drop k xs) b 0) $
          rewrite ! 0 (λ (ys : List R.Denot). ‵ (cells (mem R) ys b 0)) (take-append-drop k xs) refl $
          rewrite ! 0 (λ (F : Fml). ‵ F) (sym (parts-cells R full_share xs b 0)) refl $ feq_i ! ℕ (length xs) m l $ fjoin ! $
          use1 𝓛 (‵ (part_at (Array R m) full_share xs b 0)) (Array-whole 𝓛 R full_share m xs b 0) $
          use1 𝓛 (‵ (froom (ty_array (lone R.mir) m) b 0)) (part_room 𝓛 (Array R m) xs b 0) $ go
