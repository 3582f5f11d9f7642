-- What the functions inside this crate compute on the way to a point. No promise of a public call names these;
-- proofs/Stepped and proofs/Numbering show what they come to.
use Rattle.std.specs.Prelude.{ℕ, ◌-◌, Float}
use Rattle.std.specs.Float.{binary64}
use Rattle.std.specs.Float.Ieee.{add, mul}
use Rattle.geometry.specs.declared.Vec3.{Vec3}
use Rattle.geometry.specs.declared.Vec3i.{Vec3i}
use Rattle.geometry.specs.declared.BoundingBox.{BoundingBox}
use Rattle.geometry.specs.Values.{vec3}
use Rattle.geometry.specs.Axis.{as_float, step_along}

-- the steps between a leaf's points on each axis (rule G15)
unfoldable pub leaf_steps : BoundingBox → ℕ → Vec3
leaf_steps b l =
    vec3
    (step_along b.min.x b.max.x (l - 1))
    (step_along b.min.y b.max.y (l - 1))
    (step_along b.min.z b.max.z (l - 1))

-- so many steps from a box's min: on one axis, and on each (rule G15)
abbrev pub step_from : (min step : Float) → ℕ → Float
step_from min step i = add binary64 min (mul binary64 (as_float i) step)

unfoldable pub stepped_point : (min steps : Vec3) → Vec3i → Vec3
stepped_point min steps at =
    vec3 (step_from min.x steps.x at.i) (step_from min.y steps.y at.j) (step_from min.z steps.z at.k)

-- so many steps of one size from an origin: on one axis, and on each (rule G8)
abbrev pub corner_along : (origin c : Float) → ℕ → Float
corner_along origin c i = add binary64 origin (mul binary64 c (as_float i))

unfoldable pub corner_at : (origin : Vec3) → (c : Float) → Vec3i → Vec3
corner_at origin c at = vec3 (corner_along origin.x c at.i) (corner_along origin.y c at.j) (corner_along origin.z c at.k)
