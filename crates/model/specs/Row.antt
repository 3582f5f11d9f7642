-- Values of parts at a row of points: part p's value at lane k stands at p × 64 + k (rule M11).
use Rattle.std.specs.Prelude.{ℕ, ◌/◌, ◌%◌, cond, ◌&&◌, List, ltb, length, get_or, Float}
use Rattle.lists.specs.Tabulate.{tabulate}
use Rattle.lists.specs.Filled.{filled}
use Rattle.model.specs.Part.{past}
use Rattle.geometry.specs.declared.PointRow.{PointRow}
use Rattle.geometry.specs.PointRow.{point_in}
use Rattle.model.specs.declared.Part.{Part}
use Rattle.model.specs.Model.{values_to, parts_of, parts_value}

-- the values of the first `count` parts at point k of a row
abbrev pub values_at : List Part → ℕ → PointRow → ℕ → List Float
values_at parts count points k = let at = point_in points k in values_to (parts_of parts count) at.x at.y at.z count

-- the values of `count` parts at n points, each at its place, and every other element as it was (rule M11)
unfoldable pub evaluated_rows : List Part → (count n : ℕ) → PointRow → (values : List Float) → List Float
evaluated_rows parts count n points values =
    tabulate (length values) (λ j. cond (ltb (j / 64) count && ltb (j % 64) n)
    (get_or (values_at parts count points (j % 64)) (j / 64) past)
    (get_or values j past))

-- the model's value at each of n points, and every element past them as it was (rule M11)
unfoldable pub model_row : List Part → (count n : ℕ) → PointRow → (results : List Float) → List Float
model_row parts count n points results =
    filled 0 n (λ k. let at = point_in points k in parts_value parts count at.x at.y at.z) results
