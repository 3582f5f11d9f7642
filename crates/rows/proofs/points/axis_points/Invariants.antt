-- The places passed hold where their points stand.
use Rattle.std.proofs.Common.{◌≡◌, ◌-◌}
use Rattle.geometry.specs.Axis.{along}
use Rattle.lists.specs.Filled.{filled}
use Rattle.rows.proofs.points.axis_points.Given as goal

abbrev pub invariant-loop-i : goal.invariant-loop-i
invariant-loop-i l = l.axis ≡ filled 0 l.i (along l.fn.least l.fn.most (l.fn.l - 1)) l.initial.axis
