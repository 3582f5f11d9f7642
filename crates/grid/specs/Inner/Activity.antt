-- Whether a child is active (rule G7), asked of one axis.
-- proofs/Active shows that a child is active exactly where the three axes are.
use Rattle.std.specs.Prelude.{ℕ, Bool, ◌&&◌, Float}
use Rattle.std.specs.Float.Ieee.{le}
use Rattle.geometry.specs.Axis.{along, along_end}
use Rattle.grid.specs.Boxes.{node_least, node_most}
use Rattle.lists.specs.Ranges.{count_below}
use Rattle.lists.specs.Sums.{sum_below}

-- whether bounds from `least` to `most` meet child ci of node i, where a node is s long and has n children
unfoldable pub axis_active : (least most s : Float) → (n i ci : ℕ) → Bool
axis_active least most s n i ci =
    let from = node_least least s i in
    let to = node_most least s i in
    le least (along_end from to n ci) && le (along from to n ci) most

-- on one axis: the children of node i that bounds from `least` to `most` meet, and those of the first `nodes` nodes
unfoldable pub axis_count : (least most s : Float) → (n i : ℕ) → ℕ
axis_count least most s n i = count_below n (axis_active least most s n i)

unfoldable pub axis_total : (least most s : Float) → (n nodes : ℕ) → ℕ
axis_total least most s n nodes = sum_below (axis_count least most s n) nodes
