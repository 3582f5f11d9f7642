-- The lanes passed so far hold the plane's values.
use Rattle.std.proofs.Common.{◌≡◌}
use Rattle.lists.specs.Filled.{filled}
use Rattle.geometry.specs.PointRow.{point_in}
use Rattle.model.specs.Part.{plane_value}
use Rattle.model.specs.Inner.Lanes.{points_lent}
use Rattle.model.proofs.lanes.fill_plane.Given as goal

abbrev pub invariant-loop-i : goal.invariant-loop-i
invariant-loop-i l = l.row ≡ filled 0 l.i (λ k. let at = point_in (points_lent l.points) k in plane_value l.normal l.offset at.x at.y at.z) l.initial.row
