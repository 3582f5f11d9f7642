-- Where nodes and children lie, and which children are active (rules G4 to G7).
use Rattle.std.specs.Prelude.{ℕ, Bool, Float}
use Rattle.std.specs.Float.{binary64}
use Rattle.std.specs.Float.Ieee.{add, mul}
use Rattle.geometry.specs.declared.Vec3i.{Vec3i}
use Rattle.geometry.specs.declared.BoundingBox.{BoundingBox}
use Rattle.geometry.specs.Values.{vec3, box}
use Rattle.geometry.specs.Box.{intersects_of}
use Rattle.geometry.specs.Index.{indices_of}
use Rattle.geometry.specs.Axis.{as_float, along, along_end}
use Rattle.grid.specs.declared.Grid.{Grid}
use Rattle.grid.specs.Nodes.{size_of, node_counts}

-- where node i of an axis begins (rule G5)
unfoldable pub node_least : (least s : Float) → ℕ → Float
node_least least s i = add binary64 least (mul binary64 (as_float i) s)

-- where it ends: one node size on (rule G5)
unfoldable pub node_most : (least s : Float) → ℕ → Float
node_most least s i = add binary64 (node_least least s i) s

-- the box of the node at (i, j, k) (rule G5)
unfoldable pub node_box_at : Grid → Vec3i → BoundingBox
node_box_at g v =
    let b = g.bounds.min in
    let s = size_of g in
    box
    (vec3 (node_least b.x s v.i) (node_least b.y s v.j) (node_least b.z s v.k))
    (vec3 (node_most b.x s v.i) (node_most b.y s v.j) (node_most b.z s v.k))

-- the indices of a node's number (rule G4)
abbrev pub node_indices : Grid → ℕ → Vec3i
node_indices g v = let n = node_counts g in indices_of v n.i n.j

-- the indices of a child's number in its node (rule G4)
abbrev pub child_indices : ℕ → ℕ → Vec3i
child_indices n c = indices_of c n n

-- the box of node v (rules G4 and G5)
unfoldable pub node_box : Grid → ℕ → BoundingBox
node_box g v = node_box_at g (node_indices g v)

-- the child at (i, j, k) of a node that has the box b: each axis in n equal steps (rule G6)
unfoldable pub child_box_at : BoundingBox → ℕ → Vec3i → BoundingBox
child_box_at b n c =
    box
    (vec3 (along b.min.x b.max.x n c.i) (along b.min.y b.max.y n c.j) (along b.min.z b.max.z n c.k))
    (vec3 (along_end b.min.x b.max.x n c.i) (along_end b.min.y b.max.y n c.j) (along_end b.min.z b.max.z n c.k))

-- the box of child c of a node that has the box b (rules G4 and G6)
unfoldable pub child_box : BoundingBox → (n c : ℕ) → BoundingBox
child_box b n c = child_box_at b n (child_indices n c)

-- whether the bounds meet child c of node v (rule G7)
unfoldable pub active : Grid → (v c : ℕ) → Bool
active g v c = intersects_of g.bounds (child_box (node_box g v) g.inner c)
