-- How many children of a node are active, and of the whole grid (rule G18).
use Rattle.std.specs.Prelude.{ℕ}
use Rattle.lists.specs.Sums.{sum_below}
use Rattle.lists.specs.Ranges.{count_below}
use Rattle.grid.specs.declared.Grid.{Grid}
use Rattle.grid.specs.declared.GridCounts.{GridCounts}
use Rattle.grid.specs.Blocks.{cube}
use Rattle.grid.specs.Nodes.{nodes_of}
use Rattle.grid.specs.Boxes.{active}

-- the active children of node v (rule G18)
unfoldable pub active_in : Grid → ℕ → ℕ
active_in g v = count_below (cube g.inner) (active g v)

-- the active children of all nodes (rule G18)
unfoldable pub active_of : Grid → ℕ
active_of g = sum_below (active_in g) (nodes_of g)

-- the nodes and the active children of a grid (rules G3 and G18)
abbrev pub counts_of : Grid → GridCounts
counts_of g = record { nodes = nodes_of g; active = active_of g }
