-- How many points a field over bounds has, and where a field's points stand (rules D2 to D4).
use Rattle.std.specs.Prelude.{ℕ, suc, ◌||◌, [], ◌∷◌, Result, Float}
use Rattle.std.specs.Float.{binary64}
use Rattle.std.specs.Float.Ieee.{add, sub, mul, div, to_unsigned}
use Rattle.float.specs.Whole.{floor_of}
use Rattle.geometry.specs.declared.Vec3.{Vec3}
use Rattle.geometry.specs.declared.Vec3i.{Vec3i}
use Rattle.geometry.specs.declared.BoundingBox.{BoundingBox}
use Rattle.geometry.specs.Values.{vec3, vec3i}
use Rattle.causes.specs.declared.Cause.{Cause}
use Rattle.causes.specs.declared.Cause.TheVariants.{Bounds, Dimensions}
use Rattle.causes.specs.First.{refused_if, first_of}
use Rattle.geometry.specs.Index.{dimensions_refused}
use Rattle.geometry.specs.Axis.{as_float}
use Rattle.geometry.specs.Bounds.{box_refused, cell_refused}

-- the points of an axis: one more than the whole cells in its extent (rule D2). A quotient past 64 bits counts as 2 ^ 64 - 1 (rule F13).
unfoldable pub points_along : (least most cell : Float) → ℕ
points_along least most cell = suc (to_unsigned 64 (floor_of (div binary64 (sub binary64 most least) cell)))

-- those of the three axes (rule D2)
unfoldable pub point_counts : BoundingBox → Float → Vec3i
point_counts b cell =
    vec3i (points_along b.min.x b.max.x cell) (points_along b.min.y b.max.y cell) (points_along b.min.z b.max.z cell)

-- 1 for the bounds and the cell, then 9 for the counts (rule D3)
unfoldable pub point_count_of : BoundingBox → Float → Result Vec3i Cause
point_count_of b cell =
    let n = point_counts b cell in
    first_of (refused_if (box_refused b || cell_refused cell) Bounds ∷ refused_if (dimensions_refused n.i n.j n.k) Dimensions ∷ []) n

-- where point (i, j, k) of a field stands (rule D4)
unfoldable pub field_point : Vec3 → Float → Vec3i → Vec3
field_point origin cell at =
    vec3
    (add binary64 origin.x (mul binary64 cell (as_float at.i)))
    (add binary64 origin.y (mul binary64 cell (as_float at.j)))
    (add binary64 origin.z (mul binary64 cell (as_float at.k)))
