-- Pairs of bits and what they are in whole numbers, computed by the definition: halves and what lies beside them, the ends of the ranges, both zeros, subnormals, the
-- largest single, an infinity, NaNs. (The numbers were worked out with exact fractions elsewhere.) Assumes nothing.
use mathlib.Core.Path.{◌≡◌, refl}
use mathlib.Core.List.{List, [], ◌∷◌}
use lib.IntN.{ℤ, pos, negsuc}
use Rattle.whole.specs.Whole.{in_range, nearest, with_sign, half_up}
use Rattle.std.specs.Prelude.{Result, Ok}
use Rattle.units.specs.Refusals.{refused_as}
use Rattle.units.specs.declared.refusal.Refusal.{Refusal}
use Rattle.units.specs.Units.{millihertz, kilowatts}
use Rattle.pair.specs.Single.{significand, exact_of, whole_of}
use Rattle.pair.specs.declared.Rounded.{Rounded}
use Rattle.pair.specs.Pair.{rounded_bits}

abbrev whole : ℤ → ℤ → Result Rounded Refusal
whole f p = Ok (record { frequency = millihertz f; power = kilowatts p })

figures : ◌≡◌ {A = List (Result Rounded Refusal)}
    (rounded_bits 1114636288 1120403456
    ∷ rounded_bits 1114631045 3270961529
    ∷ rounded_bits 1114636288 1056964608
    ∷ rounded_bits 1114636288 3204448256
    ∷ rounded_bits 1114636288 1075838976
    ∷ rounded_bits 1114636288 1056964607
    ∷ rounded_bits 1114636288 1056964609
    ∷ rounded_bits 1114636288 1
    ∷ rounded_bits 1114636288 2147483649
    ∷ rounded_bits 1114652671 0
    ∷ rounded_bits 1114652672 0
    ∷ rounded_bits 1114652673 0
    ∷ rounded_bits 1115816002 0
    ∷ rounded_bits 1115815988 2147483648
    ∷ rounded_bits 1113325437 0
    ∷ rounded_bits 1113325440 0
    ∷ rounded_bits 1114636288 1212370975
    ∷ rounded_bits 1114636288 1212370976
    ∷ rounded_bits 1114636288 3359854624
    ∷ rounded_bits 1114636288 2139081118
    ∷ rounded_bits 71362 0
    ∷ rounded_bits 1114636288 2139095040
    ∷ rounded_bits 3262119936 1065353216
    ∷ rounded_bits 1114636314 1258291199
    ∷ rounded_bits 2143289345 1120403456
    ∷ rounded_bits 2139095041 4294967295
    ∷ rounded_bits 1114636288 8388608
    ∷ rounded_bits 1114636288 8388607
    ∷ [])
    (whole (pos 60000) (pos 100)
    ∷ whole (pos 59980) (negsuc 122)
    ∷ whole (pos 60000) (pos 1)
    ∷ whole (pos 60000) (negsuc 0)
    ∷ whole (pos 60000) (pos 3)
    ∷ whole (pos 60000) (pos 0)
    ∷ whole (pos 60000) (pos 1)
    ∷ whole (pos 60000) (pos 0)
    ∷ whole (pos 60000) (pos 0)
    ∷ whole (pos 60062) (pos 0)
    ∷ whole (pos 60063) (pos 0)
    ∷ whole (pos 60063) (pos 0)
    ∷ refused_as 4
    ∷ whole (pos 65000) (pos 0)
    ∷ whole (pos 55000) (pos 0)
    ∷ whole (pos 55000) (pos 0)
    ∷ whole (pos 60000) (pos 200000)
    ∷ refused_as 4
    ∷ refused_as 4
    ∷ refused_as 4
    ∷ refused_as 4
    ∷ refused_as 17
    ∷ refused_as 4
    ∷ refused_as 4
    ∷ refused_as 17
    ∷ refused_as 17
    ∷ whole (pos 60000) (pos 0)
    ∷ whole (pos 60000) (pos 0)
    ∷ [])
unfolding rounded_bits in_range whole_of nearest with_sign exact_of significand half_up
figures = refl
