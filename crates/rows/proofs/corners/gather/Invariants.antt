-- The corners before this one have been tested, and its indices are at hand.
use Rattle.std.proofs.Common.{◌≡◌, ◌≤◌, length}
use Rattle.geometry.specs.Index.{indices_of}
use Rattle.grid.specs.Corners.{needed}
use Rattle.grid.specs.CornerList.{nonzero_at}
use Rattle.rows.specs.Inner.Gathered.{Gathering}
use Rattle.rows.proofs.corners.gather.Given as goal

abbrev pub invariant-loop-corner : goal.invariant-loop-corner
invariant-loop-corner l =
    (l.count ≤ l.most)
    × (length l.list ≡ length l.initial.list)
    × (l.at ≡ indices_of l.corner l.side l.side)
    × Gathering (needed l.node.n (nonzero_at l.node.kinds.now)) l.fn.i l.corner l.count l.list
