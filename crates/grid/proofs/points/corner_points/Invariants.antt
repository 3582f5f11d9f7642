-- The places passed hold their corners.
use Rattle.std.proofs.Common.{◌≡◌, get_or}
use Rattle.geometry.specs.Index.{indices_of}
use Rattle.geometry.specs.PointRow.{with_points}
use Rattle.grid.specs.Inner.Steps.{corner_at}
use Rattle.grid.proofs.points.corner_points.Given as goal

abbrev pub invariant-loop-q : goal.invariant-loop-q
invariant-loop-q l = l.row ≡ with_points l.q (λ q. corner_at l.min l.c (indices_of (get_or l.list q 0) l.side l.side)) l.initial.row
