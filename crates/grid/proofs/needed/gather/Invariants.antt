-- `gather` meets its contract: the places read so far that were marked stand in front.
use Rattle.std.proofs.Common.{◌-◌, ◌≤◌}
use Rattle.grid.proofs.GatherLaws.{Gathering}
use Rattle.grid.proofs.needed.gather.Given as goal

abbrev pub invariant-loop-corner : goal.invariant-loop-corner
invariant-loop-corner l = (l.corner ≤ l.corners) × Gathering l.initial.list l.corner l.count l.list

abbrev pub decreases-loop-corner : goal.decreases-loop-corner
decreases-loop-corner l = l.corners - l.corner
