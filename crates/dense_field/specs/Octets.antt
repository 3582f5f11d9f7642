-- The corners of a cell and the values there, in octet order (rules D13 and W6).
use Rattle.std.specs.Prelude.{ℕ, zero, suc, ◌+◌, Bool, ◌&&◌, List, map, nat_lt, slice_index_or, Float}
use Rattle.std.specs.Float.{binary64}
use Rattle.std.specs.Float.Ieee.{add, mul}
use Rattle.float.specs.Zero.{plus_zero}
use Rattle.geometry.specs.declared.Vec3.{Vec3}
use Rattle.geometry.specs.declared.Vec3i.{Vec3i}
use Rattle.geometry.specs.Values.{vec3}
use Rattle.geometry.specs.Axis.{as_float}
use Rattle.geometry.specs.Octet.{octet_order, octet_places}

-- a cell is inside where the point after it on each axis is one of the field; elsewhere cause 10 applies (rules D14 and C10)
unfoldable pub cell_inside : Vec3i → Vec3i → Bool
cell_inside n c = nat_lt (c.i + 1) n.i && nat_lt (c.j + 1) n.j && nat_lt (c.k + 1) n.k

-- i, or i + 1 added as floats (rule D13)
unfoldable pub corner_index : (i o : ℕ) → Float
corner_index i zero = as_float i
corner_index i (suc o) = add binary64 (as_float i) (as_float 1)

-- the corner of cell c that is o away from its first (rule D13)
unfoldable pub corner_at : Vec3 → Float → Vec3i → Vec3i → Vec3
corner_at origin cell c o =
    vec3
    (add binary64 origin.x (mul binary64 (corner_index c.i o.i) cell))
    (add binary64 origin.y (mul binary64 (corner_index c.j o.j) cell))
    (add binary64 origin.z (mul binary64 (corner_index c.k o.k) cell))

-- the eight corners of a cell (rule D13)
unfoldable pub corners_of : Vec3 → Float → Vec3i → List Vec3
corners_of origin cell c = map (corner_at origin cell c) octet_order

-- the eight values at a cell's corners (rules D15 and W6)
unfoldable pub octet_of : Vec3i → List Float → Vec3i → List Float
octet_of n vs c = map (λ p. slice_index_or vs p plus_zero) (octet_places n.i n.j c)
