-- Cause 1: what it refuses of a point, of bounds and of a cell's size (rule C1).
use Rattle.std.specs.Prelude.{Bool, not, ◌||◌, Float}
use Rattle.std.specs.Float.{binary64}
use Rattle.std.specs.Float.Ieee.{lt, of_bits}
use Rattle.std.specs.Float.Ieee.Scale.{finite}
use Rattle.geometry.specs.declared.Vec3.{Vec3}
use Rattle.geometry.specs.declared.BoundingBox.{BoundingBox}

-- a coordinate that is infinite or NaN (rule C1)
unfoldable pub point_refused : Vec3 → Bool
point_refused p = not (finite p.x) || not (finite p.y) || not (finite p.z)

-- such a coordinate at either end, or an axis whose end lies below its beginning (rule C1)
unfoldable pub box_refused : BoundingBox → Bool
box_refused b =
    point_refused b.min || point_refused b.max || lt b.max.x b.min.x || lt b.max.y b.min.y || lt b.max.z b.min.z

-- a cell's size that is infinite, NaN, 0 or negative (rule C1)
unfoldable pub cell_refused : Float → Bool
cell_refused cell = not (finite cell) || not (lt (of_bits binary64 0) cell)
