-- The numbering of nodes and children: number and indices undo each other.
use Rattle.std.proofs.Common.{◌≡◌, ℕ, ◌<◌}
use Rattle.geometry.specs.declared.Vec3i.{Vec3i}
use Rattle.geometry.specs.Values.{vec3i}
use Rattle.geometry.specs.Index.{place_of}
use Rattle.geometry.proofs.Inverse.{indices_of_place, place_of_indices, column_below, line_below, slab_below}
use Rattle.grid.specs.declared.Grid.{Grid}
use Rattle.grid.specs.Nodes.{node_counts, nodes_of}
use Rattle.grid.specs.Boxes.{node_indices, child_indices}
use Rattle.grid.proofs.Counts.{i_above, j_above}

-- ---- the children of a node

abbrev child_number : ℕ → Vec3i → ℕ
child_number n at = place_of at.i at.j at.k n n

pub child_number_lem : (n c : ℕ) → child_number n (child_indices n c) ≡ c
child_number_lem n c = place_of_indices n n c

pub child_indices_lem : (n i j k : ℕ) → i < n → j < n → child_indices n (child_number n (vec3i i j k)) ≡ vec3i i j k
child_indices_lem n i j k hi hj = indices_of_place n n i j k hi hj

-- ---- the nodes of a grid

abbrev node_number : Grid → Vec3i → ℕ
node_number g at = let n = node_counts g in place_of at.i at.j at.k n.i n.j

pub node_number_lem : (g : Grid) (v : ℕ) → node_number g (node_indices g v) ≡ v
node_number_lem g v = place_of_indices (node_counts g).i (node_counts g).j v

pub node_indices_lem : (g : Grid) (i j k : ℕ) → i < (node_counts g).i → j < (node_counts g).j → node_indices g (node_number g (vec3i i j k)) ≡ vec3i i j k
node_indices_lem g i j k hi hj = indices_of_place (node_counts g).i (node_counts g).j i j k hi hj

-- a node's indices are below the counts
pub node_within : (g : Grid) (v : ℕ) → v < nodes_of g → let at = node_indices g v in let n = node_counts g in (at.i < n.i) × (at.j < n.j) × (at.k < n.k)
unfolding nodes_of
node_within g v h =
    let n = node_counts g in
    let x = i_above g in
    let y = j_above g in
    (column_below v n.i n.j x y, line_below v n.i n.j x y, slab_below v n.i n.j x y n.k h)
