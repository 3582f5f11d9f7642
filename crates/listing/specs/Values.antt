-- A model's value on bit patterns: what a machine holds, NaN bits and all (rules F7 and F8).
use Rattle.std.specs.Prelude.{ℕ, zero, suc, ◌-◌, ◌^◌, ◌<◌, ◌≡◌, cond, ◌||◌, List, [], ◌∷◌, ◌++◌, map, Float, get_or}
use Rattle.std.specs.Float.{binary64}
use Rattle.std.specs.Float.Ieee.{of_bits, to_bits, is_nan, lt}
use Rattle.model.specs.declared.Part.{Part}
use Rattle.model.specs.declared.Part.TheVariants.{Constant, Sphere, Plane, Min, Max, Add, Sub, Neg}
use Rattle.model.specs.Model.{part_of}
use Rattle.model.specs.Part.{part_value}
use Rattle.job_text.specs.NanBits.{computed_nan}

-- the value of a pattern (rule F14)
abbrev pub float_of : ℕ → Float
float_of b = of_bits binary64 b

-- min, which copies one operand's bits (rules F8 and F9)
unfoldable pub min_bits : ℕ → ℕ → ℕ
min_bits a b = cond (is_nan (float_of b)) a (cond (is_nan (float_of a) || lt (float_of b) (float_of a)) b a)

-- max (rules F8 and F10)
unfoldable pub max_bits : ℕ → ℕ → ℕ
max_bits a b = cond (is_nan (float_of b)) a (cond (is_nan (float_of a) || lt (float_of a) (float_of b)) b a)

-- a computed value's bits (rule F7)
unfoldable pub computed_bits : Part → (x y z : Float) → List ℕ → ℕ
computed_bits p x y z earlier = to_bits binary64 (part_value p x y z (map float_of earlier))

-- a part's bits: a constant's own, one of the two for min and max, and else those of the computed value (rule F8)
unfoldable pub part_bits : Part → ℕ → (x y z : Float) → List ℕ → ℕ
part_bits (Constant w) pattern x y z earlier = pattern
part_bits (Sphere c r) pattern x y z earlier = computed_bits (Sphere c r) x y z earlier
part_bits (Plane n d) pattern x y z earlier = computed_bits (Plane n d) x y z earlier
part_bits (Min a b) pattern x y z earlier = min_bits (get_or earlier a computed_nan) (get_or earlier b computed_nan)
part_bits (Max a b) pattern x y z earlier = max_bits (get_or earlier a computed_nan) (get_or earlier b computed_nan)
part_bits (Add a b) pattern x y z earlier = computed_bits (Add a b) x y z earlier
part_bits (Sub a b) pattern x y z earlier = computed_bits (Sub a b) x y z earlier
part_bits (Neg a) pattern x y z earlier = computed_bits (Neg a) x y z earlier

-- the bits of the first p parts' values, in the list's order (rule M8)
unfoldable pub bits_to : List Part → List ℕ → (x y z : Float) → ℕ → List ℕ
bits_to parts patterns x y z zero = []
bits_to parts patterns x y z (suc p) =
    let earlier = bits_to parts patterns x y z p in
    earlier ++ (part_bits (part_of parts p) (get_or patterns p 0) x y z earlier ∷ [])

-- those of a model's value: its last part's (rule M8)
unfoldable pub model_bits : List Part → List ℕ → ℕ → (x y z : Float) → ℕ
model_bits parts patterns count x y z = get_or (bits_to parts patterns x y z count) (count - 1) 0

-- ---- the patterns of a model's constants

-- a constant's pattern is its own
unfoldable pub OwnPattern : Part → ℕ → Type 0
OwnPattern (Constant w) pattern = (float_of pattern ≡ w) × (pattern < 2 ^ 64)
OwnPattern (Sphere c r) pattern = Unit
OwnPattern (Plane n d) pattern = Unit
OwnPattern (Min a b) pattern = Unit
OwnPattern (Max a b) pattern = Unit
OwnPattern (Add a b) pattern = Unit
OwnPattern (Sub a b) pattern = Unit
OwnPattern (Neg a) pattern = Unit

-- those of the first p parts are
unfoldable pub OwnPatterns : List Part → List ℕ → ℕ → Type 0
OwnPatterns parts patterns zero = Unit
OwnPatterns parts patterns (suc p) = OwnPatterns parts patterns p × OwnPattern (part_of parts p) (get_or patterns p 0)
