-- Sampling: the model's value at every point of a field, and its causes (rules D4 and D5).
use Rattle.std.specs.Prelude.{ℕ, ◌||◌, List, [], ◌∷◌, Result, Float}
use Rattle.lists.specs.Tabulate.{tabulate}
use Rattle.geometry.specs.declared.Vec3.{Vec3}
use Rattle.geometry.specs.declared.Vec3i.{Vec3i}
use Rattle.geometry.specs.Index.{indices_of}
use Rattle.geometry.specs.Bounds.{point_refused, cell_refused}
use Rattle.causes.specs.declared.Cause.{Cause}
use Rattle.causes.specs.declared.Cause.TheVariants.{Bounds, Parts, Dimensions}
use Rattle.causes.specs.First.{refused_if, first_of}
use Rattle.model.specs.Model.{refused_by_four, model_value}
use Rattle.model.specs.declared.ImplicitModel.{ImplicitModel}
use Rattle.model.specs.declared.Part.{Part}
use Rattle.dense_field.specs.Points.{field_point}
use Rattle.dense_field.specs.Field.{values_refused, points_of}

-- the value of a model's first `count` parts at a point
abbrev pub value_at : List Part → ℕ → Vec3 → Float
value_at parts count p = model_value parts count p.x p.y p.z

-- the values of a whole field (rule D4)
unfoldable pub sampled : List Part → ℕ → Vec3 → Float → Vec3i → List Float
sampled parts count origin cell n =
    tabulate (points_of n) (λ p. value_at parts count (field_point origin cell (indices_of p n.i n.j)))

-- 1 of the origin and the cell size, then 4, then 9 (rule D5)
unfoldable pub sample_outcome : ImplicitModel → Vec3 → Float → Vec3i → (len : ℕ) → Result (Unit {0}) Cause
sample_outcome m origin cell n len =
    first_of
    (refused_if (point_refused origin || cell_refused cell) Bounds ∷ refused_if (refused_by_four m) Parts ∷ refused_if (values_refused n len) Dimensions ∷ [])
    tt
