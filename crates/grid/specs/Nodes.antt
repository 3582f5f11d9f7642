-- How large a node is, and how many there are (rules G2 and G3).
use Rattle.std.specs.Prelude.{ℕ, ◌-◌, ◌*◌, max, Float}
use Rattle.std.specs.Float.{binary64}
use Rattle.std.specs.Float.Ieee.{sub, mul, div, to_unsigned}
use Rattle.float.specs.Whole.{ceil_of}
use Rattle.geometry.specs.declared.Vec3i.{Vec3i}
use Rattle.geometry.specs.Values.{vec3i}
use Rattle.geometry.specs.Axis.{as_float}
use Rattle.grid.specs.declared.Grid.{Grid}

-- the cells of a node along an axis, n children of L - 1 each (rule G2)
unfoldable pub node_size : (cell : Float) (n l : ℕ) → Float
node_size cell n l = mul binary64 cell (as_float (n * (l - 1)))

-- the nodes along an axis, one at least (rule G3). A quotient past 64 bits counts as 2 ^ 64 - 1 (rule F13).
unfoldable pub nodes_along : (least most s : Float) → ℕ
nodes_along least most s = max 1 (to_unsigned 64 (ceil_of (div binary64 (sub binary64 most least) s)))

-- the grid's node size (rule G2)
abbrev pub size_of : Grid → Float
size_of g = node_size g.cell g.inner g.leaf

-- its nodes along each axis (rule G3)
unfoldable pub node_counts : Grid → Vec3i
node_counts g =
    vec3i
    (nodes_along g.bounds.min.x g.bounds.max.x (size_of g))
    (nodes_along g.bounds.min.y g.bounds.max.y (size_of g))
    (nodes_along g.bounds.min.z g.bounds.max.z (size_of g))

-- all of them (rule G3)
unfoldable pub nodes_of : Grid → ℕ
nodes_of g = let n = node_counts g in n.i * n.j * n.k
