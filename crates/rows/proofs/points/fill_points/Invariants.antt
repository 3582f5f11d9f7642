-- At each turn the first t points are made, and the axes give the leaf's points.
use Rattle.std.proofs.Common.{◌≡◌, ◌-◌, ◌≤◌, length}
use Rattle.lists.specs.Filled.{filled}
use Rattle.geometry.specs.Values.{at}
use Rattle.rows.specs.Inner.Axes.{axes_point}
use Rattle.rows.specs.Inner.ModelValue.{model_at}
use Rattle.rows.proofs.RowValues.{Row}
use Rattle.rows.proofs.points.fill_points.Given as goal

abbrev pub invariant-loop-t : goal.invariant-loop-t
invariant-loop-t l = record {
  within : l.t ≤ l.made;
  row : Row l.row l.values;
  long : length l.stretch ≡ length l.initial.stretch;
  made : l.stretch ≡ filled l.fn.p l.t (λ q. at (model_at l.model) (axes_point l.fn.l l.axes q)) l.initial.stretch;
}

abbrev pub decreases-loop-t : goal.decreases-loop-t
decreases-loop-t l = l.made - l.t
