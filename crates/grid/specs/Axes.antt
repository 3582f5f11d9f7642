-- The axes of a grid, each by itself (rules G2 and G3).
use Rattle.grid.specs.declared.Grid.{Grid}
use Rattle.grid.specs.declared.axes.Axes.{Axes}
use Rattle.grid.specs.Nodes.{size_of}

-- the ends of the bounds on each axis, a node's size, and its children
abbrev pub axes_of : Grid → Axes
axes_of g =
    let b = g.bounds in
    let s = size_of g in
    record {
      x = record { least = b.min.x; most = b.max.x; size = s; n = g.inner };
      y = record { least = b.min.y; most = b.max.y; size = s; n = g.inner };
      z = record { least = b.min.z; most = b.max.z; size = s; n = g.inner };
    }
