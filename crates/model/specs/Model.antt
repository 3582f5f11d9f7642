-- The values of a list of parts (rules M1 and M8), and the models that cause 4 refuses (rule C4).
use Rattle.std.specs.Prelude.{ℕ, zero, suc, ◌-◌, Bool, true, not, ◌&&◌, ◌||◌, List, [], ◌∷◌, ◌++◌, map, get_or, eqb, ltb, Float, Result}
use Rattle.float.specs.Zero.{plus_zero}
use Rattle.causes.specs.declared.Cause.{Cause}
use Rattle.causes.specs.declared.Cause.TheVariants.{Parts}
use Rattle.causes.specs.First.{refused_if, first_of}
use Rattle.lists.specs.Tabulate.{tabulate}
use Rattle.model.specs.Part.{part_in, part_value, inputs_below, placed}
use Rattle.model.specs.declared.Part.{Part}
use Rattle.model.specs.declared.Part.TheVariants.{Constant}
use Rattle.model.specs.declared.ImplicitModel.{ImplicitModel}

-- the parts that a model's array wraps
abbrev pub parts_in : ImplicitModel → List Part
parts_in m = map part_in m.parts

-- the part at a place of a list
abbrev pub part_of : List Part → ℕ → Part
part_of parts p = get_or parts p (Constant plus_zero)

-- the values of the first p parts at a point, in the list's order: each from the values before it (rule M8)
unfoldable pub values_to : List Part → (x y z : Float) → ℕ → List Float
values_to parts x y z zero = []
values_to parts x y z (suc p) =
    let earlier = values_to parts x y z p in earlier ++ (part_value (part_of parts p) x y z earlier ∷ [])

-- a model has the value of its last part, here of the first `count`, and +0 where there are none (rule M8)
unfoldable pub model_value : List Part → ℕ → (x y z : Float) → Float
model_value parts count x y z = get_or (values_to parts x y z count) (count - 1) plus_zero

-- whether each of the first p parts has its inputs before it (rule M7)
unfoldable pub ordered_to : List Part → ℕ → Bool
ordered_to parts zero = true
ordered_to parts (suc p) = ordered_to parts p && inputs_below p (part_of parts p)

-- cause 4: no part, more than 64, or one with an input that does not stand before it (rule C4)
unfoldable pub refused_by_four : ImplicitModel → Bool
refused_by_four m = eqb m.count 0 || ltb 64 m.count || not (ordered_to (parts_in m) m.count)

-- what evaluating a model at a point answers: refused by 4, or its value (rules M8 and C4)
unfoldable pub evaluation_of : ImplicitModel → (x y z : Float) → Result Float Cause
evaluation_of m x y z =
    first_of (refused_if (refused_by_four m) Parts ∷ []) (model_value (parts_in m) m.count x y z)

-- ---- models of any contents

-- what counts as the part at a place (rule M10)
unfoldable pub part_at : List Part → ℕ → Part
part_at parts p = placed p (part_of parts p)

-- the first `count` of them
abbrev pub parts_of : List Part → ℕ → List Part
parts_of parts count = tabulate count (part_at parts)

-- their value
abbrev pub parts_value : List Part → ℕ → (x y z : Float) → Float
parts_value parts count = model_value (parts_of parts count) count
