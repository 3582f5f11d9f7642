-- What a part's value is, and which inputs it has (rules M2 to M7).
use Rattle.std.specs.Prelude.{ℕ, Bool, true, cond, ◌&&◌, List, get_or, ltb, Float}
use Rattle.std.specs.Float.{nan, binary64}
use Rattle.std.specs.Float.Ieee.{add, sub, mul, neg}
use Rattle.float.specs.Select.{min_of, max_of}
use Rattle.float.specs.Zero.{plus_zero}
use Rattle.geometry.specs.declared.Vec3.{Vec3}
use Rattle.geometry.specs.Distance.{distance_of}
use Rattle.model.specs.declared.Part.{Part}
use Rattle.model.specs.declared.Part.TheVariants.{Constant, Sphere, Plane, Min, Max, Add, Sub, Neg}
use Rattle.model.specs.declared.ModelComponent.{ModelComponent}

-- what is read past the end of a list, where no input of a model in order reads
abbrev pub past : Float
past = nan

-- the part that an element of a model's array wraps
abbrev pub part_in : ModelComponent → Part
part_in c = c.part

-- how far the point is from the centre, less the radius (rule M4)
unfoldable pub sphere_value : Vec3 → Float → (x y z : Float) → Float
sphere_value centre r x y z = sub binary64 (distance_of centre x y z) r

-- ((x × nx + y × ny) + z × nz) - d (rule M5)
unfoldable pub plane_value : Vec3 → Float → (x y z : Float) → Float
plane_value n d x y z =
    sub binary64
    (add binary64 (add binary64 (mul binary64 x n.x) (mul binary64 y n.y)) (mul binary64 z n.z))
    d

-- The value at a point of a part of each sort (rule M2), from the values of the parts before it: a constant's own number (rule M3), a shape's
-- value, or what an operation of binary64 makes of its inputs' values (rules M6 and F1).
unfoldable pub part_value : Part → (x y z : Float) → List Float → Float
part_value (Constant w) x y z values = w
part_value (Sphere centre r) x y z values = sphere_value centre r x y z
part_value (Plane n d) x y z values = plane_value n d x y z
part_value (Min a b) x y z values = min_of (get_or values a past) (get_or values b past)
part_value (Max a b) x y z values = max_of (get_or values a past) (get_or values b past)
part_value (Add a b) x y z values = add binary64 (get_or values a past) (get_or values b past)
part_value (Sub a b) x y z values = sub binary64 (get_or values a past) (get_or values b past)
part_value (Neg a) x y z values = neg (get_or values a past)

-- whether a part's inputs all stand below the place p (rule M7)
unfoldable pub inputs_below : ℕ → Part → Bool
inputs_below p (Constant w) = true
inputs_below p (Sphere centre r) = true
inputs_below p (Plane n d) = true
inputs_below p (Min a b) = ltb a p && ltb b p
inputs_below p (Max a b) = ltb a p && ltb b p
inputs_below p (Add a b) = ltb a p && ltb b p
inputs_below p (Sub a b) = ltb a p && ltb b p
inputs_below p (Neg a) = ltb a p

-- a part whose inputs do not all stand below its place counts as the constant +0 (rule M10)
unfoldable pub placed : ℕ → Part → Part
placed p part = cond (inputs_below p part) part (Constant plus_zero)
