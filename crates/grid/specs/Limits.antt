-- What a grid can be: the tests of causes 1, 2 and 5, which look at nothing but the grid (rules C1, C2 and C5).
use Rattle.std.specs.Prelude.{ℕ, ◌*◌, Bool, not, ◌||◌, nat_lt}
use Rattle.std.specs.Float.Ieee.Scale.{finite}
use Rattle.geometry.specs.Bounds.{box_refused, cell_refused}
use Rattle.grid.specs.declared.Grid.{Grid}
use Rattle.grid.specs.Blocks.{is_block, cube}
use Rattle.grid.specs.Nodes.{size_of, node_counts, nodes_of}

-- 1: the bounds or the cell's size (rule C1)
unfoldable pub refused_by_one : Grid → Bool
refused_by_one g = box_refused g.bounds || cell_refused g.cell

-- 2: a size that no block has (rule C2)
unfoldable pub refused_by_two : Grid → Bool
refused_by_two g = not (is_block g.inner) || not (is_block g.leaf)

-- the children of all nodes, active or not
unfoldable pub children_of : Grid → ℕ
children_of g = nodes_of g * cube g.inner

-- 5: an infinite node size, too many nodes along an axis, or too many children in all (rule C5)
unfoldable pub refused_by_five : Grid → Bool
refused_by_five g =
    let n = node_counts g in
    not (finite (size_of g)) || nat_lt 1024 n.i || nat_lt 1024 n.j || nat_lt 1024 n.k || nat_lt 16777216 (children_of g)
