-- The numbers of nodes: at least 1 on each axis, so that no part of their product is above it.
use Rattle.std.proofs.Common.{◌*◌, ◌<◌, ◌≤◌, le-mul_of_pos_right}
use native.Mathlib.Nat.{le-max_left}
use lib.Ieee.{Float}
use Rattle.grid.specs.declared.Grid.{Grid}
use Rattle.grid.specs.Nodes.{nodes_along, node_counts, nodes_of}

pub nodes_above : (least most s : Float) → 0 < nodes_along least most s
unfolding nodes_along
nodes_above least most s = le-max_left 1 _

pub i_above : (g : Grid) → 0 < (node_counts g).i
unfolding node_counts
i_above g = nodes_above _ _ _

pub j_above : (g : Grid) → 0 < (node_counts g).j
unfolding node_counts
j_above g = nodes_above _ _ _

pub k_above : (g : Grid) → 0 < (node_counts g).k
unfolding node_counts
k_above g = nodes_above _ _ _

pub area_le : (g : Grid) → (node_counts g).i * (node_counts g).j ≤ nodes_of g
unfolding nodes_of
area_le g = le-mul_of_pos_right ((node_counts g).i * (node_counts g).j) (k_above g)
