-- The sizes of a grid that an engine's work goes over.
use Rattle.std.specs.Prelude.{ℕ, ◌*◌, ◌≤◌, ◌<◌}
use Rattle.grid.specs.declared.Grid.{Grid}
use Rattle.grid.specs.Blocks.{cube}
use Rattle.grid.specs.Nodes.{nodes_of}

-- sizes that causes 2 and 5 do not refuse
pub record Sized (g : Grid) : Type 0 where
  pub inner_least : 0 < g.inner
  pub inner_most : g.inner ≤ 64
  pub leaf_least : 0 < g.leaf
  pub leaf_most : g.leaf ≤ 64
  pub children : nodes_of g * cube g.inner ≤ 16777216
