-- Hours asked about, by the definitions alone: one of 100 with four zeros after its first second, whole; of one with three zeros and one without, by 95, and of one of zeros, by 0, that no second
-- is named; and how the first windows are read. Computed. (What a whole hour reads is run: `figures`, crates/desk/stdin.) Assumes nothing.
use Prim.Native.Nat.{ℕ}
use mathlib.Core.Path.{◌≡◌, refl}
use mathlib.Core.Bool.{false}
use mathlib.Core.List.{List, [], ◌∷◌, ◌++◌, map}
use lib.ListN.{replicate}
use Rattle.whole.specs.Folds.{fold_to}
use Rattle.reached.specs.Reached.{hour_windows, named_second, read_in, verdict_of}

-- some scores, then 100 in so many seconds
abbrev hour : List ℕ → ℕ → List ℕ
hour first n = first ++ replicate n 100

four_zeros : verdict_of [] (hour (100 ∷ 0 ∷ 0 ∷ 0 ∷ 0 ∷ []) 3595) 95 ≡ record { refusal = 0; reached = false; second = 5; judged = 5; read = 14 }
unfolding fold_to
four_zeros = refl

none_named : ◌≡◌ {A = List ℕ}
    (named_second [] (hour [] 3600) 95 ∷ named_second [] (hour (100 ∷ 0 ∷ 0 ∷ 0 ∷ []) 3596) 95 ∷ named_second [] (replicate 3600 0) 0 ∷ [])
    (0 ∷ 0 ∷ 0 ∷ [])
none_named = refl

-- 1, 2, 3 and 4 scores, then 1
first_windows : map (read_in 95) (hour_windows [] (100 ∷ 0 ∷ 0 ∷ 0 ∷ 100 ∷ 100 ∷ [])) ≡ 1 ∷ 2 ∷ 3 ∷ 4 ∷ 1 ∷ 1 ∷ []
first_windows = refl
