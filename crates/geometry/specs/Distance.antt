-- The distance from a point to a location (rule B4).
use Rattle.std.specs.Prelude.{Float}
use Rattle.std.specs.Float.{binary64}
use Rattle.std.specs.Float.Ieee.{add, sub, mul}
use Rattle.root.specs.Root.{square_root}
use Rattle.geometry.specs.declared.Vec3.{Vec3}

-- a number times itself (rule F6)
unfoldable pub square : Float → Float
square d = mul binary64 d d

-- (dx² + dy²) + dz², with dx the point's x less the location's (rule B4)
unfoldable pub distance_squared_of : Vec3 → (x y z : Float) → Float
distance_squared_of p x y z =
    add binary64
    (add binary64 (square (sub binary64 p.x x)) (square (sub binary64 p.y y)))
    (square (sub binary64 p.z z))

-- the root of that (rule B4)
unfoldable pub distance_of : Vec3 → (x y z : Float) → Float
distance_of p x y z = square_root (distance_squared_of p x y z)
