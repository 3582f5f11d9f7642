-- The lanes passed so far hold the squares of the distances.
use Rattle.std.proofs.Common.{◌≡◌}
use Rattle.lists.specs.Filled.{filled}
use Rattle.geometry.specs.PointRow.{point_in}
use Rattle.geometry.specs.Distance.{distance_squared_of}
use Rattle.model.specs.Inner.Lanes.{points_lent}
use Rattle.model.proofs.lanes.fill_squares.Given as goal

abbrev pub invariant-loop-i : goal.invariant-loop-i
invariant-loop-i l = l.row ≡ filled 0 l.i (λ k. let at = point_in (points_lent l.points) k in distance_squared_of l.c at.x at.y at.z) l.initial.row
