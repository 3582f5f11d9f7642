-- The places passed hold their points, and the indices are those of the next one.
use Rattle.std.proofs.Common.{◌≡◌, ◌+◌}
use Rattle.geometry.specs.Index.{indices_of}
use Rattle.geometry.specs.PointRow.{with_points}
use Rattle.rows.specs.Inner.Axes.{axes_point}
use Rattle.rows.proofs.points.place_points.Given as goal

abbrev pub invariant-loop-q : goal.invariant-loop-q
invariant-loop-q l =
    (l.at ≡ indices_of (l.fn.p + l.q) l.side l.side) × (l.row ≡ with_points l.q (λ q. axes_point l.fn.l l.axes (l.fn.p + q)) l.initial.row)
