-- At each turn the corners before the next one are done, and the budget is what they leave.
use Rattle.std.proofs.Common.{◌≡◌, ◌≤◌, length}
use Rattle.geometry.specs.Values.{at}
use Rattle.grid.specs.Corners.{needed, corner_point}
use Rattle.grid.specs.CornerList.{nonzero_at}
use Rattle.rows.specs.Inner.ModelValue.{model_at}
use Rattle.rows.proofs.RowValues.{Row}
use Rattle.rows.proofs.Running.{Ran}
use Rattle.rows.proofs.corners.run_corners.Given as goal

abbrev pub invariant-loop-next : goal.invariant-loop-next
invariant-loop-next l = record {
  within : l.next ≤ l.total;
  listed : length l.list ≡ 64;
  row : Row l.row l.values;
  long : length l.corners ≡ length l.initial.corners;
  ran : Ran (needed l.fn.node.n (nonzero_at l.node.kinds.now)) (λ p. at (model_at l.model) (corner_point l.b l.fn.node.n p)) l.fn.i l.fn.budget l.next l.left l.initial.corners l.corners;
}

abbrev pub decreases-loop-next : goal.decreases-loop-next
decreases-loop-next l = l.left
