-- The places passed hold their points, and the indices are those of the next one.
use Rattle.std.proofs.Common.{◌≡◌, ◌+◌}
use Rattle.geometry.specs.Index.{indices_of}
use Rattle.geometry.specs.PointRow.{with_points}
use Rattle.grid.specs.Inner.Steps.{stepped_point}
use Rattle.grid.proofs.points.leaf_points.Given as goal

abbrev pub invariant-loop-q : goal.invariant-loop-q
invariant-loop-q l =
    (l.at ≡ indices_of (l.first + l.q) l.side l.side)
    × (l.row ≡ with_points l.q (λ q. stepped_point l.min l.steps (indices_of (l.first + q) l.side l.side)) l.initial.row)
