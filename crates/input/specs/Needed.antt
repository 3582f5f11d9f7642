-- How long the five slices of a job have to be (rule S3).
use Rattle.std.specs.Prelude.{Bool, ◌||◌, ◌+◌, ◌*◌, ltb}
use Rattle.grid.specs.declared.Grid.{Grid}
use Rattle.grid.specs.Blocks.{cube}
use Rattle.grid.specs.Counting.{active_of}
use Rattle.grid.specs.Limits.{children_of}
use Rattle.input.specs.declared.Lengths.{Lengths}

-- a place for each child, the points of all active children, and a node's corners (rule S3)
abbrev pub needed_lengths : Grid → Lengths
needed_lengths g =
    record { kinds = children_of g; numbers = children_of g; places = children_of g; store = active_of g * cube g.leaf; corners = cube (g.inner + 1) }

-- whether one of five lengths is below the one that it is held against
unfoldable pub shorter : Lengths → Lengths → Bool
shorter l needed =
    ltb l.kinds needed.kinds || ltb l.numbers needed.numbers || ltb l.places needed.places
    || ltb l.store needed.store || ltb l.corners needed.corners
