-- A box's size, and whether two boxes meet. Any floats may make a box, and nothing is refused (rule B3).
use Rattle.std.specs.Prelude.{Bool, ◌&&◌}
use Rattle.std.specs.Float.{binary64}
use Rattle.std.specs.Float.Ieee.{sub, le}
use Rattle.geometry.specs.Values.{vec3}
use Rattle.geometry.specs.declared.Vec3.{Vec3}
use Rattle.geometry.specs.declared.BoundingBox.{BoundingBox}

-- the difference of its ends on each axis (rule B1)
unfoldable pub dimensions_of : BoundingBox → Vec3
dimensions_of b =
    vec3
    (sub binary64 b.max.x b.min.x)
    (sub binary64 b.max.y b.min.y)
    (sub binary64 b.max.z b.min.z)

-- on no axis one begins beyond the other's end: boxes that touch meet (rule B2)
unfoldable pub intersects_of : BoundingBox → BoundingBox → Bool
intersects_of a b =
    le a.min.x b.max.x && le b.min.x a.max.x && le a.min.y b.max.y && le b.min.y a.max.y
    && le a.min.z b.max.z && le b.min.z a.max.z
