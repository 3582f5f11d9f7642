-- A point, the indices of a grid and a box, from their parts; a function's value at a point.
use Rattle.std.specs.Prelude.{ℕ, Float}
use Rattle.geometry.specs.declared.Vec3.{Vec3}
use Rattle.geometry.specs.declared.Vec3i.{Vec3i}
use Rattle.geometry.specs.declared.BoundingBox.{BoundingBox}

abbrev pub vec3 : (x y z : Float) → Vec3
vec3 x y z = record { x = x; y = y; z = z }

abbrev pub vec3i : (i j k : ℕ) → Vec3i
vec3i i j k = record { i = i; j = j; k = k }

abbrev pub box : (min max : Vec3) → BoundingBox
box min max = record { min = min; max = max }

-- a function's value at a point
abbrev pub at : (Float → Float → Float → Float) → Vec3 → Float
at value p = value p.x p.y p.z
